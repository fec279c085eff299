-- The rows from i on, as columns that are walked side by side.
use mathlib.Core.Path.{◌≡◌, refl, sym, ap, ap₂, ◌∙◌}
use mathlib.Core.Bool.{Bool, true, cond}
use mathlib.Core.List.{List, [], ◌∷◌, map}
use Prim.Native.Nat.{ℕ, zero, suc, ◌+◌, ◌≤◌, ◌<◌}
use native.Mathlib.Nat.{le_of_suc-le-suc, not-suc-le-zero}
use native.Mathlib.Numerals.{add-one}
use native.Mathlib.Omega.{arith}
use borrow.Author.Tests.{ltb-true}
use lib.Dec.{ltb}
use lib.IntN.{ℤ, pos}
use lib.ListN.{length, get_or, drop, drop_of_length-le}
use lib.Seq.{drop-cons}
use lib.Ieee.{Float, nan}
use Rattle.status.specs.Checks.{every, all_below}
use Rattle.status.proofs.Laws.{and_true}
use Rattle.feature.specs.Feature.{trains, mask, kept}
use Rattle.rt_matrix.specs.Columns.{FileColumns, columns_of, records_of, written_over, EachOf}
use Rattle.rt_matrix.specs.declared.Alignment.{Alignment}
use Rattle.rt_matrix.proofs.RecordColumns.{written_at}
use Rattle.rt_matrix.proofs.RecordsOf.{records_at}
use Rattle.retention_alignment.specs.Observation.{Obs, observations}
use Rattle.retention_alignment.specs.Alignments.{on_line, aligned_by, no_alignment, aligned, aligned_in}

module _ (fs ps : List ℕ) (ts : List Float) where
  -- the rows from i on, and the row at i
  abbrev pub rows_from : ℕ → List Obs
  rows_from i = observations (drop i fs) (drop i ps) (drop i ts)

  abbrev pub row_at : ℕ → Obs
  row_at i = record { file = get_or fs i 0; peptide = get_or ps i 0; rt = get_or ts i nan }

  pub rows_cons : (i : ℕ) → i < length fs → i < length ps → i < length ts
      → rows_from i ≡ row_at i ∷ rows_from (i + 1)
  unfolding observations
  rows_cons i f p t =
      rw add-one
      (ap (λ (l : List ℕ). observations l (drop i ps) (drop i ts)) (drop-cons fs i 0 f) ∙ ap₂ (observations (get_or fs i 0 ∷ drop (suc i) fs)) (drop-cons ps i 0 p) (drop-cons ts i nan t))

  pub rows_none : (i : ℕ) → length fs ≤ i → rows_from i ≡ []
  unfolding observations
  rows_none i h = ap (λ (l : List ℕ). observations l (drop i ps) (drop i ts)) (drop_of_length-le fs h)

-- a row by its place
pub length_rows : (fs ps : List ℕ) (ts : List Float) → length ps ≡ length fs → length ts ≡ length fs
    → length (observations fs ps ts) ≡ length fs
unfolding observations
length_rows [] ps ts p t = refl
length_rows (f ∷ fs) [] ts p t = absurd (omega arith)
length_rows (f ∷ fs) (x ∷ ps) [] p t = absurd (omega arith)
length_rows (f ∷ fs) (x ∷ ps) (y ∷ ts) p t = ap suc (length_rows fs ps ts (omega arith) (omega arith))

pub rows_at_lem : (fs ps : List ℕ) (ts : List Float) (i : ℕ) (d : Obs) → i < length fs → i < length ps
    → i < length ts → get_or (observations fs ps ts) i d ≡ row_at fs ps ts i
unfolding observations
rows_at_lem [] ps ts i d f p t = absurd (not-suc-le-zero f)
rows_at_lem (x ∷ fs) [] ts i d f p t = absurd (not-suc-le-zero p)
rows_at_lem (x ∷ fs) (y ∷ ps) [] i d f p t = absurd (not-suc-le-zero t)
rows_at_lem (x ∷ fs) (y ∷ ps) (z ∷ ts) zero d f p t = refl
rows_at_lem (x ∷ fs) (y ∷ ps) (z ∷ ts) (suc i) d f p t =
    rows_at_lem fs ps ts i d (le_of_suc-le-suc f) (le_of_suc-le-suc p) (le_of_suc-le-suc t)

module _ (fs ps : List ℕ) (ts : List Float) where
  module _ (ls : List ℤ) (qs : List Float) where
    -- the training rows from i on
    abbrev pub training_from : ℕ → List Obs
    training_from i = kept (mask (drop i ls) (drop i qs)) (rows_from fs ps ts i)

    pub training_cons : (i : ℕ) → i < length fs → i < length ps → i < length ts → i < length ls
        → i < length qs
        → training_from i
        ≡ cond (trains (get_or ls i (pos 0)) (get_or qs i nan)) (row_at fs ps ts i ∷ training_from (i + 1))
        (training_from (i + 1))
    unfolding mask kept
    training_cons i f p t l q =
        let marks : mask (drop i ls) (drop i qs) ≡ trains (get_or ls i (pos 0)) (get_or qs i nan) ∷ mask (drop (i + 1) ls) (drop (i + 1) qs) =
        rw add-one (ap₂ mask (drop-cons ls i (pos 0) l) (drop-cons qs i nan q)) in
        ap (kept (mask (drop i ls) (drop i qs))) (rows_cons fs ps ts i f p t)
        ∙ ap (λ (m : List Bool). kept m (row_at fs ps ts i ∷ rows_from fs ps ts (i + 1))) marks

    pub training_none : (i : ℕ) → length fs ≤ i → training_from i ≡ []
    unfolding kept
    training_none i h =
        ap (kept (mask (drop i ls) (drop i qs))) (rows_none fs ps ts i h) ∙ nothing (mask (drop i ls) (drop i qs))
      where
        nothing : (m : List Bool) → kept {A = Obs} m [] ≡ []
        nothing [] = refl
        nothing (b ∷ m) = refl

-- rows whose files have records: the times by three columns are the times by the records, where each file's is
pub by_cells : (records : List Alignment) (max_rt slope intercept : List Float) (n : ℕ)
    → ((f : ℕ) (t : Float) → f < n
    → on_line (get_or max_rt f nan) (get_or slope f nan) (get_or intercept f nan) t
    ≡ aligned_by (get_or records f no_alignment) t)
    → (fs ps : List ℕ) (ts : List Float) → all_below n fs ≡ true
    → map (aligned_in max_rt slope intercept) (observations fs ps ts)
    ≡ map (aligned records) (observations fs ps ts)
unfolding observations aligned every
by_cells records max_rt slope intercept n same [] ps ts h = refl
by_cells records max_rt slope intercept n same (f ∷ fs) [] ts h = refl
by_cells records max_rt slope intercept n same (f ∷ fs) (p ∷ ps) [] h = refl
by_cells records max_rt slope intercept n same (f ∷ fs) (p ∷ ps) (t ∷ ts) h =
    let both = and_true (ltb f n) (all_below n fs) h in
    ap₂ (λ (time : Float) (rest : List Float). time ∷ rest)
    (same f t (ltb-true f n both.0))
    (by_cells records max_rt slope intercept n same fs ps ts both.1)

-- any columns of n cells
pub by_columns : (c : FileColumns) (n : ℕ) → EachOf n c → (fs ps : List ℕ) (ts : List Float)
    → all_below n fs ≡ true
    → map (aligned_in c.max_rt c.slope c.intercept) (observations fs ps ts)
    ≡ map (aligned (records_of c)) (observations fs ps ts)
by_columns c n e =
    by_cells (records_of c) c.max_rt c.slope c.intercept n
    (λ f t h. ap (λ (a : Alignment). aligned_by a t) (sym (records_at c n e f no_alignment h)))

-- columns that n records are written over
pub by_records : (records : List Alignment) (c : FileColumns) (n : ℕ) → length records ≡ n → (fs ps : List ℕ)
    (ts : List Float) → all_below n fs ≡ true
    → let w = written_over (columns_of records) c in
    map (aligned_in w.max_rt w.slope w.intercept) (observations fs ps ts)
    ≡ map (aligned records) (observations fs ps ts)
by_records records c n e =
    let w = written_over (columns_of records) c in
    by_cells records w.max_rt w.slope w.intercept n
    (λ f t h.
    let l : f < length records = omega (arith, e, h) in
    let max_rt_is = written_at (λ a. a.max_rt) records c.max_rt f nan no_alignment l in
    let slope_is = written_at (λ a. a.slope) records c.slope f nan no_alignment l in
    let intercept_is = written_at (λ a. a.intercept) records c.intercept f nan no_alignment l in
    rw (max_rt_is, slope_is, intercept_is) refl)
