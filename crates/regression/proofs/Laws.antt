-- Laws of the definitions of a regression: what one sample more does to every sum over the samples, and what the sums
-- are of none.
use mathlib.Core.Path.{◌≡◌, refl, sym, ◌∙◌}
use mathlib.Core.List.{List, [], ◌∷◌, ◌++◌, map, map-append, foldl-append}
use Prim.Native.Nat.{ℕ, ◌+◌, ◌<◌}
use native.Mathlib.Nat.{not-suc-le-zero, le_of_eq}
use native.Mathlib.Omega.{arith}
use lib.ListN.{length, length-append, get_or-append}
use lib.Ieee.{Float, nan, binary64, add, mul}
use Rattle.std.specs.Prelude.{Err}
use Rattle.float.specs.Number.{zero64}
use Rattle.matrix.proofs.Laws.{Wide}
use Rattle.matrix.specs.Lists.{zipped, tabulate}
use Rattle.matrix.proofs.Lists.{length_tabulate, tabulate_same, wide_tabulate, zipped_tabulate, zipped_snoc}
use Rattle.elimination.specs.Ridge.{first_solved, ridges}
use Rattle.regression.specs.declared.Unfitted.TheVariants.{NoTrainingRows}
use Rattle.regression.specs.Regression.{Sample, extended, total, column, cov, rhs, normal, add_row}
use Rattle.regression.specs.Regression.{no_sums, plus_target, sums_of, squared_error, sse, fit_from, fit_of}
use Rattle.packed_rows.specs.Added.{plus_scaled}

-- ---- sums over the samples

pub total_snoc : (f : Sample → Float) (ss : List Sample) (s : Sample)
    → total f (ss ++ s ∷ []) ≡ add binary64 (total f ss) (f s)
total_snoc f ss s = rw map-append (foldl-append (add binary64) zero64 (map f ss) (f s ∷ []))

-- ---- the normal equations

module _ (D : ℕ) (ss : List Sample) where
  row_length : (j : ℕ) → length (tabulate D (cov ss j) ++ rhs ss j ∷ []) ≡ D + 1
  row_length j = simp (length-append, length_tabulate)

  pub wide_normal : Wide (D + 1) (normal D ss)
  unfolding normal
  wide_normal = wide_tabulate (D + 1) D _ row_length

  -- one sample more
  module _ (s : Sample) (wide : length s.row ≡ D) where
    -- row j gains the extended row times the sample's column j
    row_more : (j : ℕ) → zipped (plus_scaled (column j s)) (tabulate D (cov ss j) ++ rhs ss j ∷ []) (extended s)
        ≡ tabulate D (cov (ss ++ s ∷ []) j) ++ rhs (ss ++ s ∷ []) j ∷ []
    row_more j =
        zipped_snoc (plus_scaled (column j s)) (tabulate D (cov ss j)) (rhs ss j) s.row s.y
        (length_tabulate D (cov ss j) ∙ sym wide)
        ∙ cc (
          zipped_tabulate (plus_scaled (column j s)) nan D (cov ss j) s.row (le_of_eq (sym wide)),
          tabulate_same D (λ k. plus_scaled (column j s) (cov ss j k) (column k s)) (cov (ss ++ s ∷ []) j)
              (λ k l. sym (total_snoc (λ t. mul binary64 (column j t) (column k t)) ss s)),
          total_snoc (λ t. mul binary64 (column j t) t.y) ss s,
        )

    pub normal_snoc : add_row (normal D ss) (extended s) ≡ normal D (ss ++ s ∷ [])
    unfolding normal
    normal_snoc =
        zipped_tabulate (λ (r : List Float) x. zipped (plus_scaled x) r (extended s)) nan D _ (extended s)
        (simp length-append (omega arith))
        ∙ tabulate_same D _ _ (λ j l. rw (get_or-append s.row (s.y ∷ []) nan j (omega arith)) (row_more j))

-- ---- the target's sums and the sum of squared errors

pub sums_nil : sums_of [] ≡ no_sums
sums_nil = refl

pub sums_snoc : (ss : List Sample) (s : Sample) → sums_of (ss ++ s ∷ []) ≡ plus_target (sums_of ss) s.y
sums_snoc ss s =
    cc (
      length-append ss (s ∷ []),
      total_snoc (λ t. t.y) ss s,
      total_snoc (λ t. mul binary64 t.y t.y) ss s,
    )

pub sse_nil : (beta : List Float) → sse beta [] ≡ zero64
sse_nil beta = refl

pub sse_snoc : (beta : List Float) (ss : List Sample) (s : Sample)
    → sse beta (ss ++ s ∷ []) ≡ add binary64 (sse beta ss) (squared_error beta s)
sse_snoc beta ss s = total_snoc (squared_error beta) ss s

-- ---- the fit

-- the fit of no sample, and of some
pub fit_none : (D : ℕ) (ss : List Sample) → length ss ≡ 0
    → fit_of D ss ≡ record { outcome = Err NoTrainingRows; coefficients = [] }
unfolding fit_of
fit_none D [] h = refl
fit_none D (s ∷ ss) h = absurd (omega arith)

pub fit_some : (D : ℕ) (ss : List Sample) → 0 < length ss
    → fit_of D ss ≡ fit_from ss (first_solved D (normal D ss) ridges)
unfolding fit_of
fit_some D [] h = absurd (not-suc-le-zero h)
fit_some D (s ∷ ss) h = refl
