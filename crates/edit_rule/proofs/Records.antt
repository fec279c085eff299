-- The files' records read the peptides' numbers only for their order: training rows with other numbers that rise as the
-- old ones do give the same records, however many peptides there are. A peptide that no row has has no time, so its
-- mean is 0.0 / 0.0, a NaN, and it is dropped.
use mathlib.Core.Path.{◌≡◌, refl, sym, ap, ◌∙◌}
use mathlib.Core.Bool.{Bool, true, false, cond, ◌&&◌, ◌||◌, true≢false}
use mathlib.Core.List.{List, [], ◌∷◌, map, zip_with, foldl}
use mathlib.Core.Option.{Option, none}
use Prim.Native.Nat.{ℕ, zero, suc, ◌≤◌, ◌<◌}
use native.Mathlib.Nat.{lt_of_not-le}
use native.Mathlib.Decide.{dec_le}
use native.Mathlib.Omega.{arith}
use lib.Dec.{eqb}
use lib.Ieee.{Float, binary64, of_bits, of_int, div}
use lib.ListN.{length, get_or}
use borrow.Author.Tests.{eqb-false, eq-eqb, ne_eqb}
use Rattle.float.specs.Number.{zero64, number}
use Rattle.float.specs.Value.{is_normal}
use Rattle.matrix.specs.Lists.{tabulate}
use Rattle.matrix.proofs.Lists.{tabulate_same, map_tabulate}
use Rattle.feature.specs.Feature.{Row}
use Rattle.embedding.specs.Count.{one_of}
use Rattle.rt_matrix.specs.Line.{share, present, mean, kept_rows, points, line, lines}
use Rattle.retention_alignment.specs.Observation.{times, smaller, min_rt, min_rts}
use Rattle.retention_alignment.specs.Alignments.{alignments}
use Rattle.run.specs.Fitted.{obs_of}
use Rattle.edit_rule.specs.Peptides.{renumbered, has}
use Rattle.edit_rule.proofs.Renumbered.{has_first, has_later, has_new, Old, has_old}
use Rattle.edit_rule.proofs.Matching.{Cells, keeps, Matched, kept_same}

-- ---- a peptide's row of the matrix

-- its smallest times, as shares of the files' longest times ms
abbrev shares : (ms : List ℕ) (files : ℕ) → List Row → ℕ → Cells
shares ms files rs p = zip_with share ms (tabulate files (λ f. min_rt p f (map obs_of rs)))

or_neither : (b c : Bool) → (b || c) ≡ false → (b ≡ false) × (c ≡ false)
or_neither true c h = absurd (true≢false h)
or_neither false c h = (refl, h)

-- a peptide that no row has has no time
no_times : (rs : List Row) (p f : ℕ) → has rs p ≡ false → times p f (map obs_of rs) ≡ []
unfolding times one_of
no_times [] p f h = refl
no_times (r ∷ rs) p f h =
    let n = or_neither (eqb p r.peptide) (has rs p) h in
    rw (ne_eqb r.peptide p (λ e. eqb-false p r.peptide n.0 (sym e))) (no_times rs p f n.1)

none_present : (ms : List ℕ) (files : ℕ) (cell : ℕ → Option Float) → ((f : ℕ) → cell f ≡ none)
    → present (zip_with share ms (tabulate files cell)) ≡ []
unfolding present share tabulate zip_with
none_present [] files cell h = refl
none_present (m ∷ ms) zero cell h = refl
none_present (m ∷ ms) (suc files) cell h =
    rw (h 0) (none_present ms files (λ f. cell (suc f)) (λ f. h (suc f)))

-- 0.0 / 0.0 is not a normal number
nan_dropped : is_normal binary64 (div binary64 zero64 (number 0)) ≡ false
unfolding is_normal div of_bits of_int
nan_dropped = refl

module _ (ms : List ℕ) (files : ℕ) (rs : List Row) (p : ℕ) where
  dropped : has rs p ≡ false → keeps (shares ms files rs p) ≡ false
  unfolding mean min_rt
  dropped h =
      let e : present (shares ms files rs p) ≡ [] =
      none_present ms files (λ f. min_rt p f (map obs_of rs)) (λ f. ap (foldl smaller none) (no_times rs p f h)) in
      rw e nan_dropped

  -- so a peptide that is kept is one that a row has
  kept_has : keeps (shares ms files rs p) ≡ true → has rs p ≡ true
  kept_has h = by (has rs p) refl
    where
      by : (b : Bool) → has rs p ≡ b → has rs p ≡ true
      by true e = e
      by false e = absurd (true≢false (sym h ∙ dropped e))

-- ---- new numbers

-- of the peptides that rows have, m in all at first and then n: the new numbers rise as the old ones
pub record Renumbers (φ : ℕ → ℕ) (rs : List Row) (m n : ℕ) : Type 0 where
  pub rises : (p q : ℕ) → has rs p ≡ true → has rs q ≡ true → p < q → φ p < φ q
  pub old_below : (p : ℕ) → has rs p ≡ true → p < m
  pub new_below : (p : ℕ) → has (map (renumbered φ) rs) p ≡ true → p < n

times_same : (φ : ℕ → ℕ) (rs : List Row) (p f : ℕ)
    → ((q : ℕ) → has rs q ≡ true → eqb (φ q) (φ p) ≡ eqb q p)
    → times (φ p) f (map obs_of (map (renumbered φ) rs)) ≡ times p f (map obs_of rs)
unfolding times
times_same φ [] p f h = refl
times_same φ (r ∷ rs) p f h =
    rw (h r.peptide (has_first r rs))
    (ap (λ (t : List Float). cond (eqb r.peptide p && eqb r.file f) (r.rt ∷ t) t)
    (times_same φ rs p f (λ q u. h q (has_later r rs q u))))

module _ (φ : ℕ → ℕ) (rs : List Row) (m n : ℕ) (s : Renumbers φ rs m n) where
  -- different numbers stay different
  apart : (p q : ℕ) → has rs p ≡ true → has rs q ≡ true → eqb (φ q) (φ p) ≡ eqb q p
  apart p q hp hq = by (dec_le p q) (dec_le q p)
    where
      by : Dec (p ≤ q) → Dec (q ≤ p) → eqb (φ q) (φ p) ≡ eqb q p
      by (yes a) (yes b) =
          let e : q ≡ p = omega arith in
          eq-eqb (φ q) (φ p) (ap φ e) ∙ sym (eq-eqb q p e)
      by (yes a) (no b) =
          let l = s.rises p q hp hq (lt_of_not-le b) in
          ne_eqb (φ q) (φ p) (λ e. omega arith) ∙ sym (ne_eqb q p (λ e. omega (arith, lt_of_not-le b)))
      by (no a) b =
          let l = s.rises q p hq hp (lt_of_not-le a) in
          ne_eqb (φ q) (φ p) (λ e. omega arith) ∙ sym (ne_eqb q p (λ e. omega (arith, lt_of_not-le a)))

  row_same : (ms : List ℕ) (files p : ℕ) → has rs p ≡ true
      → shares ms files (map (renumbered φ) rs) (φ p) ≡ shares ms files rs p
  unfolding min_rt
  row_same ms files p h =
      ap (zip_with share ms)
      (tabulate_same files _ _
      (λ f l. ap (foldl smaller none) (times_same φ rs p f (λ q u. apart p q h u))))

  -- a peptide and its new number
  abbrev Is : ℕ → ℕ → Type 0
  Is i j = (has rs i ≡ true) × (φ i ≡ j)

  is_falling : (i k j l : ℕ) → Is i j → Is k l → j < l → i < k
  is_falling i k j l (u, e) (w, t) h = by (dec_le k i)
    where
      by : Dec (k ≤ i) → i < k
      by (no a) = lt_of_not-le a
      by (yes a) = absurd (same (dec_le i k))
        where
          same : Dec (i ≤ k) → ⊥
          same (yes b) = let x : φ i ≡ φ k = ap φ {x = i} {y = k} (omega arith) in omega arith
          same (no b) = let x = s.rises k i w u (lt_of_not-le b) in omega arith

  matched : (ms : List ℕ) (files : ℕ)
      → Matched m n (shares ms files rs) (shares ms files (map (renumbered φ) rs)) Is
  matched ms files =
      record {
        forth = λ i l h.
            let u = kept_has ms files rs i h in
            (φ i, s.new_below (φ i) (has_new φ rs i u), (u, refl));
        back = λ j l h. from j (has_old φ rs j (kept_has ms files (map (renumbered φ) rs) j h));
        like = λ i j x. ap (shares ms files (map (renumbered φ) rs)) (sym x.1) ∙ row_same ms files i x.0;
        rises = λ i k j l x y h. let z = s.rises i k x.0 y.0 h in omega (arith, x.1, y.1);
        falls = is_falling;
      }
    where
      from : (j : ℕ) → Old φ rs j → (i : ℕ) × (i < m) × Is i j
      from j (i, u, e) = (i, s.old_below i u, (u, e))

  -- ---- the records

  kept_rows_same : (ms : List ℕ) (files : ℕ)
      → kept_rows (map (zip_with share ms) (min_rts files n (map obs_of (map (renumbered φ) rs))))
      ≡ kept_rows (map (zip_with share ms) (min_rts files m (map obs_of rs)))
  unfolding min_rts
  kept_rows_same ms files =
      ap kept_rows (map_tabulate (zip_with share ms) n _)
      ∙ kept_same m n (shares ms files rs) (shares ms files (map (renumbered φ) rs)) Is (matched ms files)
      ∙ sym (ap kept_rows (map_tabulate (zip_with share ms) m _))

  pub records_same : (files : ℕ) (ms : List ℕ)
      → alignments files n ms (map obs_of (map (renumbered φ) rs)) ≡ alignments files m ms (map obs_of rs)
  unfolding alignments lines
  records_same files ms =
      ap (λ (rows : List Cells). tabulate (length ms) (λ f. line (get_or ms f 0) (points f rows)))
      (kept_rows_same ms files)
