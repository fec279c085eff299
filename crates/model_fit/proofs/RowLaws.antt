-- Laws of the rows: the query and the sample of a row by its columns and by its peptide's, and the samples and the
-- squared errors of the training rows among the first so many rows, as the loops go through them.
use mathlib.Core.Path.{◌≡◌, refl, sym, ap, ◌∙◌}
use mathlib.Core.Bool.{Bool, true, false, cond}
use mathlib.Core.List.{List, [], ◌∷◌, ◌++◌, map, head_d, tail, append-nil}
use Prim.Native.Nat.{ℕ, zero, suc, ◌+◌, ◌≤◌, ◌<◌}
use native.Mathlib.Nat.{le_of_suc-le-suc, not-suc-le-zero}
use native.Mathlib.Numerals.{add-one}
use native.Mathlib.Omega.{arith}
use lib.IntN.{pos}
use lib.Ieee.{Float, nan}
use lib.ListN.{length, get_or, take, length-take}
use lib.Seq.{take_all}
use Rattle.float.specs.Number.{zero64}
use Rattle.status.specs.Limits.{max_order}
use Rattle.peptide.specs.Table.{Table, sequence_of}
use Rattle.feature.specs.Feature.{trains, mask, kept}
use Rattle.feature.proofs.Training.{length_kept, length_mask, mask_at}
use Rattle.embedding.specs.Design.{order_of, head_of, design}
use Rattle.embedding.specs.declared.Model.{Model}
use Rattle.embedding.specs.declared.Model.TheVariants.{Retention, Mobility}
use Rattle.embedding.proofs.Totals.{totals}
use Rattle.regression.specs.Regression.{Sample, dot, sse}
use Rattle.regression.proofs.Laws.{sse_nil, sse_snoc}
use Rattle.model_fit.specs.Input.{Input, Query, query_of, queries}
use Rattle.model_fit.specs.Samples.{design_of, sample_of, samples, training_samples}
use Rattle.model_fit.specs.Shared.{Checked, plus_square}
use Rattle.matrix.proofs.Lists.{length_zip_with, get_d_zip_with}
use Rattle.model_fit.proofs.Laws.{kept_suc}

-- a design row has at most as many columns as a system may have
pub order_max : (model : Model) → order_of model ≤ max_order
order_max Retention = omega arith
order_max Mobility = omega arith

-- its first cells, which are written out where the others are listed, are at most retention's, and within the row
pub head_max : (model : Model) → head_of model ≤ head_of Retention
head_max Retention = omega arith
head_max Mobility = omega arith

pub head_order : (model : Model) → head_of model ≤ order_of model
head_order Retention = omega arith
head_order Mobility = omega arith

-- it has just as many columns as its model's order
pub wide_design : (model : Model) (letters : List ℕ) (log mass : Float) (charge : ℕ)
    → length (design model letters log mass charge) ≡ order_of model
wide_design model letters log mass charge = (totals model letters log mass charge).columns

-- ---- queries

pub length_queries : (peptides charges : List ℕ) → length (queries peptides charges) ≡ length peptides
unfolding queries
length_queries [] charges = refl
length_queries (p ∷ peptides) charges = ap suc (length_queries peptides (tail charges))

pub get_d_queries : (peptides charges : List ℕ) (k : ℕ) (d : Query) → k < length peptides
    → get_or (queries peptides charges) k d ≡ query_of (get_or peptides k 0) (get_or charges k 0)
unfolding queries head_d
get_d_queries [] charges k d h = absurd (not-suc-le-zero h)
get_d_queries (p ∷ peptides) [] zero d h = refl
get_d_queries (p ∷ peptides) (z ∷ charges) zero d h = refl
get_d_queries (p ∷ peptides) [] (suc k) d h = get_d_queries peptides [] k d (le_of_suc-le-suc h)
get_d_queries (p ∷ peptides) (z ∷ charges) (suc k) d h = get_d_queries peptides charges k d (le_of_suc-le-suc h)

-- of two columns of one list of rows, and of one without charges
pub queries_map : {R : Type 0} (peptide charge : R → ℕ) (rows : List R)
    → queries (map peptide rows) (map charge rows) ≡ map (λ r. query_of (peptide r) (charge r)) rows
unfolding queries head_d
queries_map peptide charge [] = refl
queries_map peptide charge (r ∷ rows) =
    ap (λ (t : List Query). query_of (peptide r) (charge r) ∷ t) (queries_map peptide charge rows)

pub queries_bare : {R : Type 0} (peptide : R → ℕ) (rows : List R)
    → queries (map peptide rows) [] ≡ map (λ r. query_of (peptide r) 0) rows
unfolding queries head_d
queries_bare peptide [] = refl
queries_bare peptide (r ∷ rows) = ap (λ (t : List Query). query_of (peptide r) 0 ∷ t) (queries_bare peptide rows)

-- ---- a peptide that is looked up

-- its design row
pub looked_up : (t : Table) (p : ℕ) (model : Model) (letters : List ℕ) (log mass : Float) (z : ℕ)
    → letters ≡ sequence_of t.letters t.offsets p
    → log ≡ get_or t.logs p nan
    → ((ls : List ℕ) (l : Float) (c : ℕ) → design model ls l mass c ≡ design model ls l (get_or t.masses p nan) c)
    → design model letters log mass z ≡ design_of model t (query_of p z)
looked_up t p model letters log mass z is_sequence is_log is_mass = is_mass letters log z ∙ rw (is_sequence, is_log)

-- ---- samples

-- of the row at k
abbrev pub sample_at : Model → Input → ℕ → Sample
sample_at model i k =
    sample_of model i.table (query_of (get_or i.peptides k 0) (get_or i.charges k 0)) (get_or i.observed k nan)

-- of the training rows among the first k
abbrev pub seen : Model → Input → ℕ → List Sample
seen model i k = kept (take k (mask i.labels i.qs)) (take k (samples model i))

-- no row is seen yet
pub squares_none : (model : Model) (i : Input) (beta : List Float) → zero64 ≡ sse beta (seen model i 0)
unfolding kept
squares_none model i beta = sym (sse_nil beta)

module _ (model : Model) (i : Input) (c : Checked i) where
  length_marks : length (mask i.labels i.qs) ≡ length i.peptides
  length_marks = length_mask i.labels i.qs (c.qs_long ∙ sym c.labels_long) ∙ c.labels_long

  length_samples : length (samples model i) ≡ length i.peptides
  length_samples =
      let q = length_queries i.peptides i.charges in
      length_zip_with (sample_of model i.table) (queries i.peptides i.charges) i.observed
      (omega (arith, c.observed_long))
      ∙ q

  sample_is : (k : ℕ) (d : Sample) → k < length i.peptides → get_or (samples model i) k d ≡ sample_at model i k
  sample_is k d h =
      let q = length_queries i.peptides i.charges in
      let e = c.observed_long in
      get_d_zip_with (sample_of model i.table) (queries i.peptides i.charges) i.observed k (query_of 0 0) nan d
      (omega arith) (omega arith)
      ∙ ap (λ (r : Query). sample_of model i.table r (get_or i.observed k nan))
      (get_d_queries i.peptides i.charges k (query_of 0 0) h)

  -- the row at k trains, or it doesn't
  module _ (k : ℕ) (h : k < length i.peptides) where
    seen_suc : (b : Bool) → trains (get_or i.labels k (pos 0)) (get_or i.qs k nan) ≡ b
        → seen model i (suc k) ≡ seen model i k ++ cond b (sample_at model i k ∷ []) []
    seen_suc b t =
        let m = length_marks in
        let s = length_samples in
        let l = c.labels_long in
        let q = c.qs_long in
        let e : get_or (mask i.labels i.qs) k false ≡ b =
        mask_at i.labels i.qs k (omega arith) (omega arith) ∙ t in
        kept_suc k (mask i.labels i.qs) (samples model i) (sample_at model i k) (omega arith) (omega arith)
        ∙ rw (e, sample_is k (sample_at model i k) h)

    pub seen_trains : trains (get_or i.labels k (pos 0)) (get_or i.qs k nan) ≡ true
        → seen model i (suc k) ≡ seen model i k ++ sample_at model i k ∷ []
    seen_trains t = seen_suc true t

    pub seen_outside : trains (get_or i.labels k (pos 0)) (get_or i.qs k nan) ≡ false
        → seen model i (suc k) ≡ seen model i k
    seen_outside t = seen_suc false t ∙ append-nil (seen model i k)

    -- and so for the squared errors, by the row's prediction and its target
    pub squares_next : (beta : List Float) (b : Bool) (x y sum : Float)
        → trains (get_or i.labels k (pos 0)) (get_or i.qs k nan) ≡ b
        → x ≡ dot (sample_at model i k).row beta
        → y ≡ get_or i.observed k nan
        → sum ≡ sse beta (seen model i k)
        → cond b (plus_square sum x y) sum ≡ sse beta (seen model i (k + 1))
    squares_next beta b x y sum t ex ey es =
        rw (add-one k, seen_suc b t, ex, ey, es) (by_test b)
      where
        by_test : (b : Bool) → let ss = seen model i k in let s = sample_at model i k in
            cond b (plus_square (sse beta ss) (dot s.row beta) s.y) (sse beta ss)
            ≡ sse beta (ss ++ cond b (s ∷ []) [])
        by_test true = sym (sse_snoc beta (seen model i k) (sample_at model i k))
        by_test false = ap (sse beta) (sym (append-nil (seen model i k)))

  -- all rows
  pub seen_all : (k : ℕ) → length i.peptides ≤ k → seen model i k ≡ training_samples model i
  seen_all k h =
      let m = length_marks in
      let s = length_samples in
      rw (take_all k (mask i.labels i.qs) (omega arith), take_all k (samples model i) (omega arith))

  -- no more are seen than were looked at
  pub seen_few : (k : ℕ) → length (seen model i k) ≤ k
  seen_few k =
      let ss : List Sample = samples model i in
      omega (arith, length_kept (take k (mask i.labels i.qs)) (take k ss), length-take k ss)
