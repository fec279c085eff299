-- The two ends of a list of edits, which alone are run: an end is one call of `run`, or its three parts called one by
-- one; and what an end shows. Definitions only.
use Rattle.std.specs.Prelude.{◌≡◌, List, ℕ, Float, length, take, Result, Ok, Err}
use Rattle.params.specs.Slice.{Change, change}
use Rattle.status.specs.Status.{accepted}
use Rattle.status.specs.declared.Refusal.{Refusal}
use Rattle.rt_matrix.specs.Columns.{FileColumns}
use Rattle.retention_alignment.specs.Call.{Aligned, status as align_status}
use Rattle.embedding.specs.declared.Model.{Model}
use Rattle.embedding.specs.declared.Model.TheVariants.{Retention, Mobility}
use Rattle.model_fit.specs.Input.{Input as ModelInput}
use Rattle.models.specs.Call.{ModelOutputs, PredictCall, predict_status}
use Rattle.models.specs.declared.PredictOutcome.{PredictOutcome}
use Rattle.run.specs.Call.{Input, RunCall, status}
use Rattle.run.specs.Parts.{align_input, retention_input, mobility_input}
use Rattle.run.specs.declared.Ran.{Ran}

-- ---- an accepted call

-- A call on a workspace and outputs that held anything. It meets none of the refusals 1 to 7; a model that does not
-- fit, 8 or 9, is none of these.
pub record AcceptedCall {S R : Type 0} (Promised : Change S → R → Type 0) (status : S → ℕ) : Type 0 where
  -- the slices as the call begins and as it returns, and the answer
  pub before : S
  pub after : S
  pub answer : R
  -- what the contract promises of them
  pub contract : Promised (change before after) answer
  -- and that the call is accepted
  pub unrefused : status before ≡ accepted

-- an accepted call of a model's `predict`
abbrev pub AcceptedPredict : Model → ModelInput → Type 0
AcceptedPredict model i = AcceptedCall (PredictCall model i) (predict_status model i)

-- ---- an end

-- A run aligns, fits retention to the aligned times and mobility to the mobilities, and predicts every row by each
-- model that fits. It is one call of `run`,
pub record RunEnd : Type 0 where
  pub input : Input
  pub call : AcceptedCall (RunCall input) (status input)

-- or the three calls one by one, each with a workspace of its own, of any length that it accepts. Nobody else writes
-- between them: all three get the rows and the table that the one call gets.
pub record CallsEnd : Type 0 where
  pub input : Input
  pub alignment : AcceptedCall (Aligned (align_input input)) (align_status (align_input input))
  -- on the aligned times that the alignment wrote, one for each row
  pub retention : AcceptedPredict Retention
      (retention_input input (take (length input.file) alignment.after.aligned))
  pub mobility : AcceptedPredict Mobility (mobility_input input)

pub data End : Type 0 where
  of_run : RunEnd → End
  of_calls : CallsEnd → End

-- ---- what an end shows

-- what was passed, what was answered, and every output; the workspaces are not shown
pub record Shown : Type 0 where
  pub input : Input
  pub answer : Result Ran Refusal
  pub records : FileColumns
  pub aligned : List Float
  pub retention : ModelOutputs
  pub mobility : ModelOutputs

-- the answers to two predictions, as a run answers them
abbrev pub answers_of : (retention mobility : Result PredictOutcome Refusal) → Result Ran Refusal
answers_of (Ok retention) (Ok mobility) = Ok (record { retention = retention; mobility = mobility })
answers_of (Ok retention) (Err refusal) = Err refusal
answers_of (Err refusal) mobility = Err refusal

abbrev pub shown : End → Shown
shown (of_run e) =
    record {
      input = e.input;
      answer = e.call.answer;
      records = e.call.after.records;
      aligned = e.call.after.aligned;
      retention = e.call.after.retention;
      mobility = e.call.after.mobility;
    }
shown (of_calls e) =
    record {
      input = e.input;
      answer = answers_of e.retention.answer e.mobility.answer;
      records = e.alignment.after.records;
      aligned = e.alignment.after.aligned;
      retention = e.retention.after.outputs;
      mobility = e.mobility.after.outputs;
    }

-- what was passed
abbrev pub passed_at : End → Input
passed_at e = (shown e).input
