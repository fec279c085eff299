-- What the functions of the fit are passed and leave. Definitions only.
use Rattle.std.specs.Prelude.{◌≡◌, true, List, ℕ, ◌+◌, ◌≤◌, ◌<◌, Float, length, replicate, Result, Ok, Err}
use Rattle.std.specs.Float.{binary64}
use Rattle.std.specs.Float.Ieee.{add, sub, mul}
use Rattle.params.specs.Slice.{Change}
use Rattle.float.specs.Number.{zero64}
use Rattle.matrix.specs.Lists.{overwritten}
use Rattle.status.specs.Checks.{all_below}
use Rattle.status.specs.Limits.{max_rows, max_order}
use Rattle.peptide.specs.Table.{Table, HasPeptide, offsets_right}
use Rattle.embedding.specs.Design.{order_of, head_of}
use Rattle.embedding.specs.Row.{row_of}
use Rattle.embedding.specs.declared.Model.{Model}
use Rattle.embedding.specs.declared.Model.TheVariants.{Retention}
use Rattle.regression.specs.Regression.{Sample, Fitting, Outcome, normal, sums_of, sse, r2_of}
use Rattle.regression.specs.Workspace.{cleared, holding, FitSlices}
use Rattle.regression.specs.declared.Sums.{Sums}
use Rattle.regression.specs.declared.Fit.{Fit}
use Rattle.regression.specs.declared.Unfitted.{Unfitted}
use Rattle.model_fit.specs.declared.training.Solved.{Solved}
use Rattle.model_fit.specs.declared.training.Scratch.{Scratch}
use Rattle.model_fit.specs.declared.training.Sample.{Sample as HeldSample}
use Rattle.model_fit.specs.Input.{Input}
use Rattle.model_fit.specs.Samples.{sample_from, training_samples, fit_of_input}

-- the table has that peptide
pub record Listed (t : Table) (p : ℕ) : Type 0 where
  pub has : HasPeptide t.letters t.offsets p
  pub weighed : p < length t.masses

-- the offsets are right, and each number is below the peptides
pub record Numbered (t : Table) (peptides : List ℕ) : Type 0 where
  pub offsets : offsets_right (length t.masses) (length t.letters) t.offsets ≡ true
  pub below : all_below (length t.masses) peptides ≡ true

-- what the checks say of an input
pub record Checked (i : Input) : Type 0 where
  pub labels_long : length i.labels ≡ length i.peptides
  pub qs_long : length i.qs ≡ length i.peptides
  pub observed_long : length i.observed ≡ length i.peptides
  pub rows_max : length i.peptides ≤ max_rows
  pub numbered : Numbered i.table i.peptides

-- room for a sample's cells as it is made
abbrev pub blank_scratch : Scratch
blank_scratch =
    record {
      head = replicate (head_of Retention) zero64;
      places = replicate (max_order + 1) 0;
      values = replicate (max_order + 1) zero64;
    }

-- a sample as the program holds it
abbrev pub sample_at : HeldSample → Sample
sample_at s = sample_from (row_of s.model s.ion) s.y

-- the normal equations and the sums of the training rows
pub record Accumulated (model : Model) (i : Input) (workspace : List Float) (r : Sums) : Type 0 where
  pub holds : workspace ≡ holding (order_of model) (normal (order_of model) (training_samples model i))
  pub sums : r ≡ sums_of (training_samples model i)

-- a fit on a workspace and a coefficient list of just the needed cells
pub record FittedBy (fit : Fitting) (s : Change FitSlices) (r : Outcome) : Type 0 where
  pub outcome : r ≡ fit.outcome
  pub workspace : s.exit.workspace ≡ cleared s.entry.workspace
  pub coefficients : s.exit.coefficients ≡ overwritten fit.coefficients s.entry.coefficients
  -- a fit that is solved has a coefficient for each of them
  pub long : (f : Fit) → r ≡ Ok f
      → length fit.coefficients ≡ length s.entry.coefficients

-- squared errors, and that of one row more
abbrev pub plus_square : (sum prediction y : Float) → Float
plus_square sum prediction y =
    let residual = sub binary64 prediction y in
    add binary64 sum (mul binary64 residual residual)

-- a fit that is solved, by the squared errors of its coefficients
abbrev pub solved_fit : Solved → (errors : Float) → Fit
solved_fit s errors = record { ridge = s.ridge; r2 = r2_of s.sums errors; n = s.sums.n }

-- a fit's outcome, by how far it was solved and the squared errors of its coefficients
abbrev pub outcome_of : Result Solved Unfitted → (errors : Float) → Outcome
outcome_of (Ok s) errors = Ok (solved_fit s errors)
outcome_of (Err u) errors = Err u

-- the fit to the training rows, once their squared errors are known
abbrev pub SolvedRows : Model → Input → Change FitSlices → Result Solved Unfitted → Type 0
SolvedRows model i s r =
    FittedBy (fit_of_input model i) s (outcome_of r (sse s.exit.coefficients (training_samples model i)))
