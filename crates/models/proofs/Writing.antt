-- Laws of what the loops write and count: the prediction and the error of a row, one cell more, and one row more of
-- the count.
use mathlib.Core.Path.{◌≡◌, refl, sym, ap, ◌∙◌}
use mathlib.Core.Bool.{Bool, true, false, not, cond}
use mathlib.Core.List.{List, [], ◌∷◌, ◌++◌, map, zip_with}
use Prim.Native.Nat.{ℕ, ◌+◌, ◌≤◌, ◌<◌}
use native.Mathlib.Nat.{add-zero}
use native.Mathlib.Numerals.{add-one}
use native.Mathlib.Omega.{arith}
use lib.Ieee.{Float, nan, binary64, of_bits, of_int}
use lib.ListN.{length, get_or, set, take, drop, length-map, length-take, get_or-map}
use lib.Seq.{take-suc}
use mir.Syntax.{w32}
use mir.Val.{bool_byte, Fits}
use Rattle.status.specs.Limits.{max_rows}
use Rattle.float.specs.Convert.{narrowed, is_exact}
use Rattle.float.specs.Value.{clamped}
use Rattle.float.specs.Number.{zero64, number}
use Rattle.peptide.specs.Table.{Table}
use Rattle.embedding.specs.Count.{how_many}
use Rattle.embedding.specs.declared.Model.{Model}
use Rattle.embedding.proofs.Counting.{how_many_append, how_many_le}
use Rattle.regression.specs.Regression.{dot}
use Rattle.model_fit.specs.Input.{Query, query_of, queries}
use Rattle.model_fit.specs.Samples.{design_of}
use Rattle.matrix.proofs.Lists.{get_d_zip_with, overwrite_suc}
use Rattle.model_fit.proofs.RowLaws.{length_queries, get_d_queries}
use Rattle.models.specs.Prediction.{largest, bounded_of, prediction_of, inexact_in, error_of}

-- one cell more, at k + 1 as the loops count
pub write_next : {A : Type 0} (new old cells : List A) (k : ℕ) (v d : A) → k < length new → k < length old
    → cells ≡ take k new ++ drop k old
    → v ≡ get_or new k d
    → set cells k v ≡ take (k + 1) new ++ drop (k + 1) old
write_next new old cells k v d h l e ev = rw (e, ev, add-one k) (overwrite_suc new old k d h l)

-- of the first k elements no more than k pass a test
pub how_many_first : {A : Type 0} (p : A → Bool) (xs : List A) (k : ℕ) → how_many p (take k xs) ≤ k
how_many_first p xs k = omega (arith, how_many_le p (take k xs), length-take k xs)

-- and one element more
pub how_many_next : {A : Type 0} (p : A → Bool) (xs : List A) (k : ℕ) (d : A) → k < length xs
    → how_many p (take (k + 1) xs) ≡ how_many p (take k xs) + cond (p (get_or xs k d)) 1 0
unfolding how_many
how_many_next p xs k d h =
    rw (add-one k, take-suc xs k d h, how_many_append p (take k xs) (get_or xs k d ∷ []), add-zero)

-- a bool as the number that the code adds
byte_is : (b : Bool) → bool_byte b ≡ cond b 1 0
byte_is true = refl
byte_is false = refl

-- one more of a count of at most k
pub count_fits : (n k : ℕ) (b : Bool) → n ≤ k → k < max_rows → Fits w32 (n + bool_byte b)
count_fits n k true h l = record { fits = omega arith }
count_fits n k false h l = record { fits = omega arith }

-- 2.0 of the code
pub two : of_bits binary64 4611686018427387904 ≡ number 2
unfolding of_bits of_int
two = refl

-- ---- a row's prediction and error

module _ (model : Model) (t : Table) (beta : List Float) (peptides charges : List ℕ) where
  pub length_predictions : length (map (prediction_of model t beta) (queries peptides charges)) ≡ length peptides
  length_predictions =
      length-map (queries peptides charges) (prediction_of model t beta) ∙ length_queries peptides charges

  -- the row's clamped prediction
  pub bounded_at : (k : ℕ) (x hi y : Float) → k < length peptides
      → x ≡ dot (design_of model t (query_of (get_or peptides k 0) (get_or charges k 0))) beta
      → hi ≡ largest model
      → y ≡ clamped zero64 hi x
      → y ≡ bounded_of model t beta (get_or (queries peptides charges) k (query_of 0 0))
  bounded_at k x hi y h ex eh ey = rw (ey, eh, ex, get_d_queries peptides charges k (query_of 0 0) h)

-- what narrowing it gives: the cell to write, and one row more of the count
module _ (model : Model) (t : Table) (beta : List Float) (qs : List Query) (k : ℕ) (d : Query) (y : Float) where
  pub prediction_at : (v : Float) → y ≡ bounded_of model t beta (get_or qs k d) → v ≡ narrowed y
      → v ≡ get_or (map (prediction_of model t beta) qs) k (prediction_of model t beta d)
  prediction_at v e ev = ev ∙ ap narrowed e ∙ sym (get_or-map (prediction_of model t beta) qs k d)

  pub inexact_next : (n : ℕ) (exact : Bool) → k < length qs
      → y ≡ bounded_of model t beta (get_or qs k d)
      → exact ≡ is_exact y
      → n ≡ inexact_in model t beta (take k qs)
      → n + bool_byte (not exact) ≡ inexact_in model t beta (take (k + 1) qs)
  inexact_next n exact h e ee en =
      let p : Query → Bool = λ q. not (is_exact (bounded_of model t beta q)) in
      let flag : bool_byte (not exact) ≡ cond (p (get_or qs k d)) 1 0 =
      byte_is (not exact) ∙ ap (λ (b : Bool). cond (not b) 1 0) (ee ∙ ap is_exact e) in
      rw (en, flag) (sym (how_many_next p qs k d h))

pub error_at : (observed predicted : List Float) (k : ℕ) (v : Float) → k < length observed → k < length predicted
    → v ≡ error_of (get_or observed k nan) (get_or predicted k nan)
    → v ≡ get_or (zip_with error_of observed predicted) k nan
error_at observed predicted k v h l e = e ∙ sym (get_d_zip_with error_of observed predicted k nan nan nan h l)
