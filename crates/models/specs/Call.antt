-- What a call of `fit` and of `predict` answers, and the whole of each slice after it. Definitions only.
use Rattle.std.specs.Prelude.{◌≡◌, Bool, true, ◌&&◌, List, [], ℕ, leb, ℤ, Float, length, replicate, take}
use Rattle.std.specs.Prelude.{Result, Ok, Err}
use Rattle.std.proofs.Math.Option.{Option, none, some}
use Rattle.params.specs.Slice.{MutHeld, Change, change, Slice, MutSlice}
use Rattle.float.specs.Number.{zero64}
use Rattle.matrix.specs.Lists.{overwritten}
use Rattle.status.specs.Status.{number_of, refusal_by}
use Rattle.status.specs.Told.{Told, only, if_accepted, told_for}
use Rattle.status.specs.declared.Refusal.{Refusal}
use Rattle.embedding.specs.Design.{order_of}
use Rattle.embedding.specs.declared.Model.{Model}
use Rattle.regression.specs.Regression.{Outcome, sse, told_by as outcome_told}
use Rattle.regression.specs.Workspace.{FitSlices, workspace_cells}
use Rattle.regression.specs.declared.Fit.{Fit}
use Rattle.regression.specs.declared.Unfitted.{Unfitted}
use Rattle.model_fit.specs.Input.{Input, input_of, input_at, status_by, fit_room}
use Rattle.model_fit.specs.Samples.{training_samples, fit_of_input}
use Rattle.model_fit.specs.Shared.{outcome_of}
use Rattle.model_fit.specs.declared.Input.{Input as HeldInput}
use Rattle.model_fit.specs.declared.training.Solved.{Solved}
use Rattle.models.specs.Prediction.{is_solved, predictions, errors, inexact}
use Rattle.models.specs.declared.Outputs.{Outputs}
use Rattle.models.specs.declared.PredictOutcome.{PredictOutcome}

-- a model's outputs
pub record ModelOutputs : Type 0 where
  pub coefficients : List Float
  pub predicted : List Float
  pub error : List Float

-- what a prediction writes
pub record PredictSlices : Type 0 where
  pub workspace : List Float
  pub outputs : ModelOutputs

-- of these, what its fit writes
abbrev pub fit_part : PredictSlices → FitSlices
fit_part s = record { workspace = s.workspace; coefficients = s.outputs.coefficients }

-- ---- as a function's parameters hold them

-- what is written: `outputs_at` and `predict_at` in a `requires`, the others in an `ensures`
abbrev pub outputs_at : (beta predicted error : MutHeld Float) → ModelOutputs
outputs_at beta predicted error = record { coefficients = beta.now; predicted = predicted.now; error = error.now }

abbrev pub outputs_of : (beta predicted error : MutSlice Float) → Change ModelOutputs
outputs_of beta predicted error =
    change
    (outputs_at beta.entry predicted.entry error.entry)
    (outputs_at beta.exit predicted.exit error.exit)

abbrev pub predict_at : (workspace beta predicted error : MutHeld Float) → PredictSlices
predict_at workspace beta predicted error =
    record { workspace = workspace.now; outputs = outputs_at beta predicted error }

abbrev pub predict_slices : (workspace : MutSlice Float) (outputs : Change ModelOutputs) → Change PredictSlices
predict_slices workspace outputs =
    change
    (record { workspace = workspace.entry.now; outputs = outputs.entry })
    (record { workspace = workspace.exit.now; outputs = outputs.exit })

-- what is read, in an `ensures` of a C function; a model's own calls lack the column that it does not use
abbrev pub retention_input : (peptide : Slice ℕ) (label : Slice ℤ) (q aligned : Slice Float)
    (letters offsets : Slice ℕ) (masses logs : Slice Float) → Input
retention_input peptide label q aligned letters offsets masses logs =
    input_of
    peptide.entry.now label.entry.now q.entry.now [] aligned.entry.now
    letters.entry.now offsets.entry.now masses.entry.now logs.entry.now

abbrev pub mobility_input : (peptide : Slice ℕ) (label : Slice ℤ) (q : Slice Float)
    (charge : Slice ℕ) (mobility : Slice Float) (letters offsets : Slice ℕ) (masses : Slice Float) → Input
mobility_input peptide label q charge mobility letters offsets masses =
    input_of
    peptide.entry.now label.entry.now q.entry.now charge.entry.now mobility.entry.now
    letters.entry.now offsets.entry.now masses.entry.now []

-- ---- as the program's structs hold them

-- what is read, without the column that the model does not use: `retention_at i` in a `requires`, `retention_at i.entry`
-- in an `ensures`
abbrev pub retention_at : HeldInput → Input
retention_at i = record (input_at i) { charges = [] }

abbrev pub mobility_at : HeldInput → Input
mobility_at i =
    let read = input_at i in
    record read { table = record (read.table) { logs = [] } }

-- what is written, as a call begins
abbrev pub outputs_held : Outputs → ModelOutputs
outputs_held o = outputs_at o.beta o.predicted o.error

abbrev pub predict_held : (workspace : MutHeld Float) → Outputs → PredictSlices
predict_held workspace o = predict_at workspace o.beta o.predicted o.error

-- and as it returns: what the struct's fields left
abbrev pub LeftOutputs : Type 0
LeftOutputs = MutHeld Float × (MutHeld Float × (MutHeld Float × Unit))

abbrev pub outputs_change : Outputs → LeftOutputs → Change ModelOutputs
outputs_change o left = change (outputs_held o) (outputs_at left.0 left.1.0 left.1.1.0)

-- ---- the answer

abbrev pub answer_of : {A : Type 0} → (status : ℕ) → A → Result A Refusal
answer_of status done = if_accepted status (Ok done) (Err (refusal_by status))

-- what an answer tells, by what a value tells
abbrev pub told_by : {A B : Type 0} → (A → Told B) → Result A Refusal → Told B
told_by tell (Ok done) = tell done
told_by tell (Err refusal) = only (number_of refusal)

-- of a prediction: its fit's outcome, and the count over all rows
abbrev pub predict_outcome : Model → Input → PredictOutcome
predict_outcome model i = record { fit = (fit_of_input model i).outcome; inexact = inexact model i }

-- what each tells: the fit's values and the count
pub record PredictValues : Type 0 where
  pub fit : Fit
  pub inexact : ℕ

abbrev pub counted : ℕ → Option Fit → Option PredictValues
counted k none = none
counted k (some v) = some (record { fit = v; inexact = k })

abbrev pub predict_outcome_told : PredictOutcome → Told PredictValues
predict_outcome_told p =
    let t = outcome_told p.fit in
    record { status = t.status; values = counted p.inexact t.values }

-- ---- what an accepted call leaves; an output gets new cells, which are none where the fit is not solved

-- the needed cells end as +0.0
abbrev pub zeroed : Model → List Float → List Float
zeroed model workspace = overwritten (replicate (workspace_cells (order_of model)) zero64) workspace

abbrev pub fit_filled : Model → Input → FitSlices → FitSlices
fit_filled model i s =
    record {
      workspace = zeroed model s.workspace;
      coefficients = overwritten (fit_of_input model i).coefficients s.coefficients;
    }

abbrev pub outputs_filled : Model → Input → ModelOutputs → ModelOutputs
outputs_filled model i o =
    record {
      coefficients = overwritten (fit_of_input model i).coefficients o.coefficients;
      predicted = overwritten (predictions model i) o.predicted;
      error = overwritten (errors model i) o.error;
    }

abbrev pub predict_filled : Model → Input → PredictSlices → PredictSlices
predict_filled model i s =
    record { workspace = zeroed model s.workspace; outputs = outputs_filled model i s.outputs }

-- ---- the calls

-- the outputs are long enough for a prediction of so many rows
abbrev pub predict_room : Model → (rows workspace beta predicted error : ℕ) → Bool
predict_room model rows workspace beta predicted error =
    fit_room model workspace beta && (leb rows predicted && leb rows error)

-- whether the slices of a call are long enough
abbrev pub fit_room_in : Model → FitSlices → Bool
fit_room_in model s = fit_room model (length s.workspace) (length s.coefficients)

abbrev pub predict_room_in : Model → Input → PredictSlices → Bool
predict_room_in model i s =
    let o = s.outputs in
    predict_room model (length i.peptides)
    (length s.workspace) (length o.coefficients) (length o.predicted) (length o.error)

abbrev pub fit_status : Model → Input → FitSlices → ℕ
fit_status model i s = status_by model i (fit_room_in model s)

abbrev pub predict_status : Model → Input → PredictSlices → ℕ
predict_status model i s = status_by model i (predict_room_in model i s)

-- a fit that passed the checks, on slices that may be longer than it needs
pub record FittedWithin (model : Model) (i : Input) (s : Change FitSlices) (r : Outcome) : Type 0 where
  pub outcome : r ≡ (fit_of_input model i).outcome
  pub slices : s.exit ≡ fit_filled model i s.entry
  -- a fit that is solved has a coefficient for each column
  pub long : is_solved r ≡ true → length (fit_of_input model i).coefficients ≡ order_of model

-- such a fit, once its squared errors are known
abbrev pub SolvedWithin : Model → Input → Change FitSlices → Result Solved Unfitted → Type 0
SolvedWithin model i s r =
    FittedWithin model i s
    (outcome_of r (sse (take (order_of model) s.exit.coefficients) (training_samples model i)))

-- a prediction that passed the checks: the fit, the count, and the outputs, of which a fit that is not solved leaves
-- all
pub record PredictedWithin (model : Model) (i : Input) (s : Change PredictSlices) (r : PredictOutcome) : Type 0 where
  pub fitted : FittedWithin model i (change (fit_part s.entry) (fit_part s.exit)) r.fit
  pub count : r.inexact ≡ inexact model i
  pub outputs : s.exit.outputs ≡ outputs_filled model i s.entry.outputs

-- a call of `fit`; a refused one leaves both slices as they were
pub record FitCall (model : Model) (i : Input) (s : Change FitSlices) (r : Result Outcome Refusal) : Type 0 where
  pub answer : r ≡ answer_of (fit_status model i s.entry) (fit_of_input model i).outcome
  pub told : told_by outcome_told r ≡ told_for (fit_status model i s.entry) (outcome_told (fit_of_input model i).outcome)
  pub slices : s.exit ≡ if_accepted (fit_status model i s.entry) (fit_filled model i s.entry) s.entry

-- a call of `predict`
pub record PredictCall (model : Model) (i : Input) (s : Change PredictSlices) (r : Result PredictOutcome Refusal) : Type 0 where
  pub answer : r ≡ answer_of (predict_status model i s.entry) (predict_outcome model i)
  pub told : told_by predict_outcome_told r
      ≡ told_for (predict_status model i s.entry) (predict_outcome_told (predict_outcome model i))
  pub slices : s.exit ≡ if_accepted (predict_status model i s.entry) (predict_filled model i s.entry) s.entry
