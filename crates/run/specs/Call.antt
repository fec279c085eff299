-- A call of `run`: what it is passed, its status, what it answers, and what it leaves in every slice. Definitions only.
use Rattle.std.specs.Prelude.{◌≡◌, Bool, ◌&&◌, cond, List, [], ◌∷◌, map, ℕ, ◌*◌, max, leb, ℤ, Float, length, replicate}
use Rattle.std.specs.Prelude.{Result, Ok, Err}
use Rattle.params.specs.Slice.{Held, MutHeld, Change, change, Slice, MutSlice}
use Rattle.float.specs.Number.{zero64}
use Rattle.matrix.specs.Lists.{overwritten}
use Rattle.feature.specs.Feature.{Row, rows_from, training}
use Rattle.status.specs.Checks.{all_below, lengths_agree}
use Rattle.status.specs.Limits.{within_limits}
use Rattle.status.specs.Status.{
  bad_lengths,
  past_limit,
  too_short,
  bad_offsets,
  bad_letter,
  bad_file,
  bad_peptide,
  first_failing,
  number_of,
  refusal_by,
}
use Rattle.status.specs.declared.Refusal.{Refusal}
use Rattle.status.specs.Told.{Told, gives, only, if_accepted, told_for}
use Rattle.peptide.specs.Table.{Table, offsets_right, letters_right}
use Rattle.embedding.specs.Design.{order_of}
use Rattle.embedding.specs.declared.Model.{Model}
use Rattle.embedding.specs.declared.Model.TheVariants.{Retention, Mobility}
use Rattle.rt_matrix.specs.Line.{present}
use Rattle.rt_matrix.specs.Columns.{FileColumns, FileRoom, columns_of, written_over, file_room, each_long}
use Rattle.regression.specs.Workspace.{workspace_cells}
use Rattle.model_fit.specs.Input.{table_at, table_of}
use Rattle.models.specs.Prediction.{is_solved, inexact_in}
use Rattle.models.specs.Call.{ModelOutputs, PredictValues, predict_outcome_told}
use Rattle.models.specs.declared.PredictOutcome.{PredictOutcome}
use Rattle.run.specs.Fitted.{Fitted, Predicted, RowOutcome, row_query, longest, fitted, outcome}
use Rattle.run.specs.Fitted.{Part, of_retention, of_mobility, model_of, fit_of_part, result_of}
use Rattle.run.specs.declared.Batch.{Batch}
use Rattle.run.specs.declared.Ran.{Ran}

-- what is read: the columns of the rows, the number of files, and the peptide table
pub record Input : Type 0 where
  pub file : List ℕ
  pub peptide : List ℕ
  pub label : List ℤ
  pub q : List Float
  pub rt : List Float
  pub charge : List ℕ
  pub mobility : List Float
  pub files : ℕ
  pub table : Table

-- what is written: the workspace, the record of each file, an aligned time for each row, and each model's outputs
pub record Slices : Type 0 where
  pub workspace : List Float
  pub records : FileColumns
  pub aligned : List Float
  pub retention : ModelOutputs
  pub mobility : ModelOutputs

-- the lengths of a model's outputs
pub record ModelRoom : Type 0 where
  pub beta : ℕ
  pub predicted : ℕ
  pub error : ℕ

-- the lengths of the slices
pub record Room : Type 0 where
  pub workspace : ℕ
  pub records : FileRoom
  pub aligned : ℕ
  pub retention : ModelRoom
  pub mobility : ModelRoom

-- ---- as the program's structs hold them: `input_at b` in a `requires`, `input_at b.entry` in an `ensures`

abbrev pub input_at : Batch → Input
input_at b =
    record {
      file = b.file.now;
      peptide = b.peptide.now;
      label = b.label.now;
      q = b.q.now;
      rt = b.rt.now;
      charge = b.charge.now;
      mobility = b.mobility.now;
      files = b.files;
      table = table_at b.table;
    }

-- what is written, by its slices and structs, in a `requires`
abbrev pub slices_at : (workspace : MutHeld Float) (records : FileColumns) (aligned : MutHeld Float)
    (retention mobility : ModelOutputs) → Slices
slices_at workspace records aligned retention mobility =
    record {
      workspace = workspace.now;
      records = records;
      aligned = aligned.now;
      retention = retention;
      mobility = mobility;
    }

-- as a function that only measures it holds it
abbrev pub slices_held : (workspace : Held Float) (records : FileColumns) (aligned : Held Float)
    (retention mobility : ModelOutputs) → Slices
slices_held workspace records aligned retention mobility =
    record {
      workspace = workspace.now;
      records = records;
      aligned = aligned.now;
      retention = retention;
      mobility = mobility;
    }

-- in an `ensures`, as the call begins and as it returns
abbrev pub slices_of : (workspace : MutSlice Float) (records : Change FileColumns) (aligned : MutSlice Float)
    (retention mobility : Change ModelOutputs) → Change Slices
slices_of workspace records aligned retention mobility =
    change
    (slices_at workspace.entry records.entry aligned.entry retention.entry mobility.entry)
    (slices_at workspace.exit records.exit aligned.exit retention.exit mobility.exit)

-- what is read, as the parameters of a C function hold it, in an `ensures`

abbrev pub input_of : (file peptide : Slice ℕ) (label : Slice ℤ) (q rt : Slice Float) (charge : Slice ℕ)
    (mobility : Slice Float) (files : ℕ) (letters offsets : Slice ℕ) (masses logs : Slice Float) → Input
input_of file peptide label q rt charge mobility files letters offsets masses logs =
    record {
      file = file.entry.now;
      peptide = peptide.entry.now;
      label = label.entry.now;
      q = q.entry.now;
      rt = rt.entry.now;
      charge = charge.entry.now;
      mobility = mobility.entry.now;
      files = files;
      table = table_of letters.entry.now offsets.entry.now masses.entry.now logs.entry.now;
    }

-- ---- what is read

abbrev pub rows : Input → List Row
rows i = rows_from i.file i.peptide i.label i.q i.rt i.charge i.mobility

-- the peptides of the table
abbrev pub peptides : Input → ℕ
peptides i = length i.table.masses

-- ---- the checks

-- the cells of the workspace: the alignment's, or the larger fit's where those are more
abbrev pub needed_cells : (files peptides : ℕ) → ℕ
needed_cells files peptides = max (peptides * files) (workspace_cells (order_of Mobility))

-- the columns belong together, and the logs to the masses
abbrev pub columns_agree : Input → Bool
columns_agree i =
    lengths_agree (length i.file)
    (length i.peptide
    ∷ length i.label
    ∷ length i.q
    ∷ length i.rt
    ∷ length i.charge
    ∷ length i.mobility
    ∷ [])
    && lengths_agree (peptides i) (length i.table.logs ∷ [])

-- the lengths of slices
abbrev pub model_room : ModelOutputs → ModelRoom
model_room o =
    record { beta = length o.coefficients; predicted = length o.predicted; error = length o.error }

abbrev pub room_of : Slices → Room
room_of s =
    record {
      workspace = length s.workspace;
      records = file_room s.records;
      aligned = length s.aligned;
      retention = model_room s.retention;
      mobility = model_room s.mobility;
    }

-- a model's outputs of these lengths are long enough: its coefficients, and a cell for each row
abbrev pub model_long : Model → (rows : ℕ) → ModelRoom → Bool
model_long model rows room =
    leb (order_of model) room.beta && (leb rows room.predicted && leb rows room.error)

-- and so are all slices
abbrev pub long_enough : (files peptides rows : ℕ) → Room → Bool
long_enough files peptides rows room =
    leb (needed_cells files peptides) room.workspace
    && each_long files room.records
    && leb rows room.aligned
    && model_long Retention rows room.retention
    && model_long Mobility rows room.mobility

-- 1, 2, 3, 7, 6, 4, 5
abbrev pub checks : Input → Room → List (ℕ × Bool)
checks i room =
    (bad_lengths, columns_agree i)
    ∷ (past_limit, within_limits i.files (length i.file) (peptides i))
    ∷ (too_short, long_enough i.files (peptides i) (length i.file) room)
    ∷ (bad_offsets, offsets_right (peptides i) (length i.table.letters) i.table.offsets)
    ∷ (bad_letter, letters_right i.table.letters)
    ∷ (bad_file, all_below i.files i.file)
    ∷ (bad_peptide, all_below (peptides i) i.peptide)
    ∷ []

-- the status of the first check that fails
unfoldable pub status_by : Input → Room → ℕ
status_by i room = first_failing (checks i room)

abbrev pub status : Input → Slices → ℕ
status i s = status_by i (room_of s)

-- ---- the answer

-- what the rows give
abbrev pub fitted_by : Input → Fitted
fitted_by i = fitted i.files i.table (longest i.files (rows i)) (training (rows i))

-- of how many rows, those outside the training set too, narrowing changed a model's prediction: 0 where it does not fit
abbrev pub inexact_of : Part → Input → ℕ
inexact_of part i =
    let fit = fit_of_part part (fitted_by i) in
    cond (is_solved fit.outcome)
    (inexact_in (model_of part) i.table fit.coefficients (map (row_query (model_of part)) (rows i)))
    0

-- the outcome of a model's fit, and that count
abbrev pub predict_outcome_of : Part → Input → PredictOutcome
predict_outcome_of part i = record { fit = (fit_of_part part (fitted_by i)).outcome; inexact = inexact_of part i }

-- what an accepted run answers
abbrev pub ran_of : Input → Ran
ran_of i = record { retention = predict_outcome_of of_retention i; mobility = predict_outcome_of of_mobility i }

unfoldable pub answer_of : (status : ℕ) → Input → Result Ran Refusal
answer_of s i = if_accepted s (Ok (ran_of i)) (Err (refusal_by s))

-- what an accepted run gives: what each model's prediction tells
pub record FitsTold : Type 0 where
  pub retention : Told PredictValues
  pub mobility : Told PredictValues

abbrev pub fits_told : (retention mobility : PredictOutcome) → FitsTold
fits_told retention mobility =
    record { retention = predict_outcome_told retention; mobility = predict_outcome_told mobility }

-- what every case of an answer tells
abbrev pub told_by : Result Ran Refusal → Told FitsTold
told_by (Ok ran) = gives (fits_told ran.retention ran.mobility)
told_by (Err refusal) = only (number_of refusal)

-- ---- the slices

-- each row's results
abbrev pub outcomes : Input → List RowOutcome
outcomes i = map (outcome i.table (fitted_by i)) (rows i)

-- a model's predictions and errors, where it fits
abbrev pub predicted_of : Part → Input → List Predicted
predicted_of part i = present (map (result_of part) (outcomes i))

abbrev pub predictions_of : Part → Input → List Float
predictions_of part i = map (λ (p : Predicted). p.prediction) (predicted_of part i)

abbrev pub errors_of : Part → Input → List Float
errors_of part i = map (λ (p : Predicted). p.error) (predicted_of part i)

-- what an accepted call leaves of a model
abbrev pub filled_model : Part → Input → ModelOutputs → ModelOutputs
filled_model part i o =
    record {
      coefficients = overwritten (fit_of_part part (fitted_by i)).coefficients o.coefficients;
      predicted = overwritten (predictions_of part i) o.predicted;
      error = overwritten (errors_of part i) o.error;
    }

-- and of all
unfoldable pub filled : Input → Slices → Slices
filled i s =
    record {
      workspace = overwritten (replicate (needed_cells i.files (peptides i)) zero64) s.workspace;
      records = written_over (columns_of (fitted_by i).records) s.records;
      aligned = overwritten (map (λ (o : RowOutcome). o.aligned) (outcomes i)) s.aligned;
      retention = filled_model of_retention i s.retention;
      mobility = filled_model of_mobility i s.mobility;
    }

-- an accepted call: its answer and every slice
pub record Filled (i : Input) (s : Change Slices) (r : Ran) : Type 0 where
  pub answer : r ≡ ran_of i
  pub slices : s.exit ≡ filled i s.entry

-- what a call leaves: a refused one every slice as it was
unfoldable pub slices_after : Input → Slices → Slices
slices_after i s = if_accepted (status i s) (filled i s) s

-- The contract: the answer, what it tells, and every slice, each cell of it.
pub record RunCall (i : Input) (s : Change Slices) (r : Result Ran Refusal) : Type 0 where
  pub answer : r ≡ answer_of (status i s.entry) i
  pub told : told_by r
      ≡ told_for (status i s.entry)
      (gives (fits_told (predict_outcome_of of_retention i) (predict_outcome_of of_mobility i)))
  pub slices : s.exit ≡ slices_after i s.entry
