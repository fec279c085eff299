-- Which peptides rows have, and rows whose peptides got other numbers.
use mathlib.Core.Path.{◌≡◌, refl, sym, ap, ◌∙◌}
use mathlib.Core.Bool.{Bool, true, false, cond, ◌||◌, true≢false, false≢true}
use mathlib.Core.List.{List, [], ◌∷◌, map}
use Prim.Native.Nat.{ℕ, zero, suc, ◌<◌, max}
use native.Mathlib.Omega.{arith}
use lib.Dec.{eqb}
use lib.ListN.{length}
use borrow.Author.Tests.{eqb-true, eq-eqb}
use Rattle.status.specs.Checks.{every}
use Rattle.status.proofs.Laws.{and_true}
use Rattle.float.specs.Convert.{ceiling}
use Rattle.matrix.proofs.Lists.{tabulate_same}
use Rattle.feature.specs.Feature.{Row, row_trains, selected, training}
use Rattle.edits.specs.Edits.{row_at}
use Rattle.embedding.specs.Count.{one_of}
use Rattle.retention_alignment.specs.Observation.{max_rt, max_rts}
use Rattle.run.specs.Fitted.{obs_of, longest}
use Rattle.edit_rule.specs.Peptides.{renumbered, has}

-- ---- one of a list

or_right : (b c : Bool) → c ≡ true → (b || c) ≡ true
or_right true c h = refl
or_right false c h = h

-- where the first is not true, the second is
pub or_second : (b c : Bool) → b ≡ false → (b || c) ≡ true → c ≡ true
or_second true c e h = absurd (true≢false e)
or_second false c e h = h

-- a test that passes at each element passes at one that stands in the list
pub every_has : (test : ℕ → Bool) (ks : List ℕ) (p : ℕ) → every test ks ≡ true → one_of ks p ≡ true
    → test p ≡ true
unfolding every one_of
every_has test [] p b h = absurd (false≢true h)
every_has test (k ∷ ks) p b h = by (every_has test ks p) (eqb p k) refl
  where
    by : (every test ks ≡ true → one_of ks p ≡ true → test p ≡ true) → (t : Bool) → eqb p k ≡ t → test p ≡ true
    by rest true e = ap test (eqb-true p k e) ∙ (and_true (test k) (every test ks) b).0
    by rest false e = rest (and_true (test k) (every test ks) b).1 (or_second (eqb p k) (one_of ks p) e h)

-- ---- the peptides that rows have

pub has_first : (r : Row) (rs : List Row) → has (r ∷ rs) r.peptide ≡ true
unfolding one_of
has_first r rs = rw (eq-eqb r.peptide r.peptide refl)

pub has_later : (r : Row) (rs : List Row) (p : ℕ) → has rs p ≡ true → has (r ∷ rs) p ≡ true
unfolding one_of
has_later r rs p h = or_right (eqb p r.peptide) (has rs p) h

pub has_at : (rs : List Row) (k : ℕ) → k < length rs → has rs (row_at rs k).peptide ≡ true
has_at [] k l = absurd (omega arith)
has_at (r ∷ rs) zero l = has_first r rs
has_at (r ∷ rs) (suc k) l = has_later r rs (row_at rs k).peptide (has_at rs k (omega arith))

pub training_has : (rs : List Row) (p : ℕ) → has (training rs) p ≡ true → has rs p ≡ true
unfolding selected one_of
training_has [] p h = h
training_has (r ∷ rs) p h = by (training_has rs p) (row_trains r) refl
  where
    by : (has (training rs) p ≡ true → has rs p ≡ true) → (t : Bool) → row_trains r ≡ t → has (r ∷ rs) p ≡ true
    by rest true e = first (eqb p r.peptide) refl
      where
        whole : has (r ∷ training rs) p ≡ true
        whole = ap (λ (t : Bool). has (cond t (r ∷ training rs) (training rs)) p) (sym e) ∙ h

        first : (t : Bool) → eqb p r.peptide ≡ t → has (r ∷ rs) p ≡ true
        first true x = rw x
        first false x =
            has_later r rs p (rest (or_second (eqb p r.peptide) (has (training rs) p) x whole))
    by rest false e =
        has_later r rs p (rest (ap (λ (t : Bool). has (cond t (r ∷ training rs) (training rs)) p) (sym e) ∙ h))

-- ---- other numbers

module _ (φ : ℕ → ℕ) where
  -- the new number of a peptide that a row has
  pub has_new : (rs : List Row) (p : ℕ) → has rs p ≡ true → has (map (renumbered φ) rs) (φ p) ≡ true
  unfolding one_of
  has_new [] p h = h
  has_new (r ∷ rs) p h = by (has_new rs p) (eqb p r.peptide) refl
    where
      by : (has rs p ≡ true → has (map (renumbered φ) rs) (φ p) ≡ true) → (b : Bool) → eqb p r.peptide ≡ b
          → has (map (renumbered φ) (r ∷ rs)) (φ p) ≡ true
      by rest true e = rw (eq-eqb (φ p) (φ r.peptide) (ap φ (eqb-true p r.peptide e)))
      by rest false e =
          or_right (eqb (φ p) (φ r.peptide)) (has (map (renumbered φ) rs) (φ p))
          (rest (or_second (eqb p r.peptide) (has rs p) e h))

  -- a number that a renumbered row has is the new number of one that a row has
  abbrev pub Old : List Row → ℕ → Type 0
  Old rs j = (i : ℕ) × (has rs i ≡ true) × (φ i ≡ j)

  pub has_old : (rs : List Row) (j : ℕ) → has (map (renumbered φ) rs) j ≡ true → Old rs j
  unfolding one_of
  has_old [] j h = absurd (false≢true h)
  has_old (r ∷ rs) j h = by (has_old rs j) (eqb j (φ r.peptide)) refl
    where
      later : Old rs j → Old (r ∷ rs) j
      later (i, u, e) = (i, has_later r rs i u, e)

      by : (has (map (renumbered φ) rs) j ≡ true → Old rs j) → (b : Bool) → eqb j (φ r.peptide) ≡ b
          → Old (r ∷ rs) j
      by rest true e = (r.peptide, has_first r rs, sym (eqb-true j (φ r.peptide) e))
      by rest false e = later (rest (or_second (eqb j (φ r.peptide)) (has (map (renumbered φ) rs) j) e h))

  -- the same rows train
  pub training_renumbered : (rs : List Row) → training (map (renumbered φ) rs) ≡ map (renumbered φ) (training rs)
  unfolding selected
  training_renumbered [] = refl
  training_renumbered (r ∷ rs) =
      ap (λ (t : List Row). cond (row_trains r) (renumbered φ r ∷ t) t) (training_renumbered rs) ∙ seam (row_trains r)
    where
      seam : (t : Bool)
          → cond t (renumbered φ r ∷ map (renumbered φ) (training rs)) (map (renumbered φ) (training rs))
          ≡ map (renumbered φ) (cond t (r ∷ training rs) (training rs))
      seam true = refl
      seam false = refl

  -- and no longest time reads a peptide
  pub longest_renumbered : (files : ℕ) (rs : List Row) → longest files (map (renumbered φ) rs) ≡ longest files rs
  unfolding max_rts max_rt
  longest_renumbered files rs = tabulate_same files _ _ (λ k l. of k rs)
    where
      of : (k : ℕ) (rs : List Row) → max_rt k (map obs_of (map (renumbered φ) rs)) ≡ max_rt k (map obs_of rs)
      of k [] = refl
      of k (r ∷ rs) = ap (λ (t : ℕ). max (cond (eqb r.file k) (ceiling 32 r.rt) 0) t) (of k rs)

-- rows renumbered twice
pub renumbered_twice : (f g h : ℕ → ℕ) (rs : List Row) → ((p : ℕ) → has rs p ≡ true → f p ≡ g (h p))
    → map (renumbered f) rs ≡ map (renumbered g) (map (renumbered h) rs)
renumbered_twice f g h [] e = refl
renumbered_twice f g h (r ∷ rs) e =
    ap (λ (p : ℕ). renumbered (λ _. p) r ∷ map (renumbered f) rs) (e r.peptide (has_first r rs))
    ∙ ap (λ (t : List Row). renumbered g (renumbered h r) ∷ t)
    (renumbered_twice f g h rs (λ p u. e p (has_later r rs p u)))
