-- Linear regression over a list of samples by the normal equations. Every product, sum and quotient is IEEE 754's on
-- binary64, rounded once, and every sum goes over the samples in their order, from 0.0. Definitions only.
use mathlib.Core.List.{List, [], ◌∷◌, ◌++◌, map, zip_with}
use Rattle.std.specs.Prelude.{ℕ, ◌+◌, length, get_or, Float, Result, Ok, Err}
use Rattle.std.specs.Float.{nan, binary64}
use Rattle.std.specs.Float.Ieee.{add, sub, mul, div}
use Rattle.float.specs.Number.{zero64, one64, number, sum_from}
use Rattle.status.specs.Status.{no_training, not_solved}
use Rattle.status.specs.Told.{Told, gives, only}
use Rattle.matrix.specs.Lists.{tabulate, zipped}
use Rattle.elimination.specs.Ridge.{Solution, solved, unsolved, first_solved, ridges}
use Rattle.packed_rows.specs.Added.{plus_scaled}
use Rattle.regression.specs.declared.Sums.{Sums}
use Rattle.regression.specs.declared.Fit.{Fit}
use Rattle.regression.specs.declared.Unfitted.{Unfitted}
use Rattle.regression.specs.declared.Unfitted.TheVariants.{NoTrainingRows, NotSolved}

-- a training row: its design row and its target
pub record Sample : Type 0 where
  pub row : List Float
  pub y : Float

-- the design row with the target as its last cell
abbrev pub extended : Sample → List Float
extended s = s.row ++ s.y ∷ []

-- the sum of a quantity of each sample
abbrev pub total : (Sample → Float) → List Sample → Float
total f ss = sum_from zero64 (map f ss)

-- ---- the normal equations, of order D

-- column j of a sample's design row
abbrev pub column : ℕ → Sample → Float
column j s = get_or s.row j nan

-- the sum of x_j × x_k
abbrev pub cov : List Sample → ℕ → ℕ → Float
cov ss j k = total (λ s. mul binary64 (column j s) (column k s)) ss

-- the sum of x_j × y
abbrev pub rhs : List Sample → ℕ → Float
rhs ss j = total (λ s. mul binary64 (column j s) s.y) ss

-- D rows: row j has cov j 0, .., cov j (D - 1) and then the right side's cell
unfoldable pub normal : ℕ → List Sample → List (List Float)
normal D ss = tabulate D (λ j. tabulate D (cov ss j) ++ rhs ss j ∷ [])

-- ---- one sample more

-- to row j the extended row times its cell j
abbrev pub add_row : List (List Float) → List Float → List (List Float)
add_row rows ext = zipped (λ row x. zipped (plus_scaled x) row ext) rows ext

-- ---- the target's sums

abbrev pub no_sums : Sums
no_sums = record { n = 0; sum_y = zero64; sum_y2 = zero64 }

-- one target more
abbrev pub plus_target : Sums → Float → Sums
plus_target t y =
    record {
      n = t.n + 1;
      sum_y = add binary64 t.sum_y y;
      sum_y2 = add binary64 t.sum_y2 (mul binary64 y y);
    }

-- the number of samples, the sum of y and the sum of y × y
abbrev pub sums_of : List Sample → Sums
sums_of ss =
    record {
      n = length ss;
      sum_y = total (λ s. s.y) ss;
      sum_y2 = total (λ s. mul binary64 s.y s.y) ss;
    }

-- ---- predictions and r2

-- the sum of row_k × beta_k in column order, as far as both reach
unfoldable pub dot : List Float → List Float → Float
dot row beta = sum_from zero64 (zip_with (mul binary64) row beta)

-- prediction less target, and its square
abbrev pub residual : List Float → Sample → Float
residual beta s = sub binary64 (dot s.row beta) s.y

abbrev pub squared_error : List Float → Sample → Float
squared_error beta s = mul binary64 (residual beta s) (residual beta s)

abbrev pub sse : List Float → List Sample → Float
sse beta ss = total (squared_error beta) ss

-- sum_y / n
abbrev pub y_mean : Sums → Float
y_mean t = div binary64 t.sum_y (number t.n)

-- sum_y2 - n × mean × mean, left to right
abbrev pub y_var : Sums → Float
y_var t = sub binary64 t.sum_y2 (mul binary64 (mul binary64 (number t.n) (y_mean t)) (y_mean t))

-- 1 - sse / y_var
unfoldable pub r2_of : Sums → Float → Float
r2_of t errors = sub binary64 one64 (div binary64 errors (y_var t))

-- ---- the fit

-- what a fit answers, which the code's alias `FitOutcome` names
abbrev pub Outcome : Type 0
Outcome = Result Fit Unfitted

-- and its coefficients
pub record Fitting : Type 0 where
  pub outcome : Outcome
  pub coefficients : List Float

-- of the samples and the solution of their normal equations
abbrev pub fit_from : List Sample → Solution → Fitting
fit_from ss (solved ridge beta) =
    record {
      outcome = Ok (record { ridge = ridge; r2 = r2_of (sums_of ss) (sse beta ss); n = length ss });
      coefficients = beta;
    }
fit_from ss unsolved = record { outcome = Err NotSolved; coefficients = [] }

-- of order D: the coefficients are the solution for the first ridge of the series that solves the normal equations
unfoldable pub fit_of : ℕ → List Sample → Fitting
fit_of D [] = record { outcome = Err NoTrainingRows; coefficients = [] }
fit_of D (s ∷ ss) = fit_from (s ∷ ss) (first_solved D (normal D (s ∷ ss)) ridges)

-- ---- what an outcome tells: ridge, r2 and n, which only a solved fit has, or why there are none

abbrev pub unfitted_status : Unfitted → ℕ
unfitted_status NoTrainingRows = no_training
unfitted_status NotSolved = not_solved

abbrev pub told_by : Outcome → Told Fit
told_by (Ok fit) = gives fit
told_by (Err u) = only (unfitted_status u)
