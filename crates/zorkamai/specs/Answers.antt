-- The answers of the entry points as hosts see them. Definitions only.
use Rattle.std.specs.Prelude.{true, false, ◌≡◌, ℕ, Float, ⊤, Option as StdOption, Some, None, Result}
use Rattle.std.proofs.Math.Option.{Option, none, some}
use Rattle.std.specs.Float.{binary32}
use Rattle.std.specs.Float.Ieee.{of_bits}
use Rattle.params.specs.Slice.{Change}
use Rattle.status.specs.Told.{Told}
use Rattle.status.specs.declared.Refusal.{Refusal}
use Rattle.float.specs.Number.{zero64}
use Rattle.matrix.specs.declared.Col.{Col}
use Rattle.embedding.specs.declared.Model.{Model}
use Rattle.gauss.specs.Solve.{System, Slices as SolveSlices, Solves}
use Rattle.gauss.specs.Solve.{answer_of as solved, status as solve_status, solution_for, told_by as solve_told}
use Rattle.regression.specs.Regression.{Outcome, told_by as outcome_told}
use Rattle.regression.specs.Workspace.{FitSlices}
use Rattle.regression.specs.declared.Fit.{Fit}
use Rattle.model_fit.specs.Input.{Input as FitInput}
use Rattle.model_fit.specs.Samples.{fit_of_input}
use Rattle.models.specs.Call.{PredictSlices, FitCall, PredictCall, PredictValues, counted}
use Rattle.models.specs.Call.{answer_of as modelled, told_by as model_told, fit_status}
use Rattle.models.specs.Call.{predict_outcome, predict_status, predict_outcome_told}
use Rattle.models.specs.declared.PredictOutcome.{PredictOutcome}
use Rattle.rt_matrix.specs.declared.Alignment.{Alignment}
use Rattle.retention_alignment.specs.Call.{
  Input,
  Slices,
  Aligned,
  status,
  answer_of as alignment_of,
  told_by as align_told,
}
use Rattle.records.specs.Record.{told_by as found_told, time_told_by}
use Rattle.run.specs.Call.{Input as RunInput, Slices as RunSlices, FitsTold, RunCall}
use Rattle.run.specs.Call.{answer_of as ran, status as run_status, told_by as run_told}
use Rattle.run.specs.declared.Ran.{Ran}
use Rattle.zorkamai.specs.declared.Answer.{Answer}
use Rattle.zorkamai.specs.declared.CellAnswer.{CellAnswer}
use Rattle.zorkamai.specs.declared.RecordAnswer.{RecordAnswer}
use Rattle.zorkamai.specs.declared.RunReport.{RunReport}
use Rattle.zorkamai.specs.declared.TimeAnswer.{TimeAnswer}

-- A call of an entry point that answers a and leaves the slices as its contract `call` says; a host sees a as
-- `shown a`.
pub record Exported {A B : Type 0} (shown : A → B) (a : A) (call : A → Type 0) (r : B) : Type 0 where
  pub answer : r ≡ shown a
  pub entry : call a

-- +0.0
abbrev pub zero32 : Float
zero32 = of_bits binary32 0

-- a status alone
abbrev pub only : ℕ → Answer
only n = record { status = n; ridge = zero64; r2 = zero64; n = 0; inexact = 0 }

-- ---- what an answer tells, as a struct: a status, and 0 for the values that it has not

-- the solver's: the ridge
abbrev pub with_ridge : ℕ → Option Float → Answer
with_ridge n none = only n
with_ridge n (some ridge) = record { status = n; ridge = ridge; r2 = zero64; n = 0; inexact = 0 }

-- a prediction's: ridge, r2 and n of its fit, and the count
abbrev pub with_values : ℕ → Option PredictValues → Answer
with_values n none = only n
with_values n (some v) =
    record { status = n; ridge = v.fit.ridge; r2 = v.fit.r2; n = v.fit.n; inexact = v.inexact }

abbrev pub shown_prediction : Told PredictValues → Answer
shown_prediction t = with_values t.status t.values

-- a fit's: it predicts no row
abbrev pub shown_fit : Told Fit → Answer
shown_fit t = with_values t.status (counted 0 t.values)

-- the run's: each prediction's, or the run's own status for both
abbrev pub with_fits : ℕ → Option FitsTold → RunReport
with_fits n none = record { status = n; retention = only n; mobility = only n }
with_fits n (some f) =
    record { status = n; retention = shown_prediction f.retention; mobility = shown_prediction f.mobility }

-- a lookup's: the record
abbrev pub with_record : ℕ → Option Alignment → RecordAnswer
with_record n none =
    record {
      status = n;
      max_rt = zero32;
      slope = zero32;
      intercept = zero32;
      used = 0;
      max_rt_exact = false;
      slope_exact = false;
      intercept_exact = false;
    }
with_record n (some a) =
    record {
      status = n;
      max_rt = a.max_rt;
      slope = a.slope;
      intercept = a.intercept;
      used = a.used;
      max_rt_exact = a.max_rt_exact;
      slope_exact = a.slope_exact;
      intercept_exact = a.intercept_exact;
    }

-- the aligned time
abbrev pub with_time : ℕ → Option Float → TimeAnswer
with_time n none = record { status = n; aligned = zero32 }
with_time n (some t) = record { status = n; aligned = t }

-- ---- each answer, by what its entry point's specs say that it tells

abbrev pub of_solve : Result (StdOption Float) Refusal → Answer
of_solve a = with_ridge (solve_told a).status (solve_told a).values

abbrev pub of_align : Result ⊤ Refusal → ℕ
of_align a = (align_told a).status

abbrev pub of_prediction : PredictOutcome → Answer
of_prediction p = shown_prediction (predict_outcome_told p)

abbrev pub of_fit : Result Outcome Refusal → Answer
of_fit a = shown_fit (model_told outcome_told a)

abbrev pub of_predict : Result PredictOutcome Refusal → Answer
of_predict a = shown_prediction (model_told predict_outcome_told a)

abbrev pub of_run : Result Ran Refusal → RunReport
of_run a = with_fits (run_told a).status (run_told a).values

abbrev pub of_found : Result Alignment Refusal → RecordAnswer
of_found a = with_record (found_told a).status (found_told a).values

abbrev pub of_time : Result Float Refusal → TimeAnswer
of_time a = with_time (time_told_by a).status (time_told_by a).values

abbrev pub of_step : StdOption (Float × Col) → CellAnswer
of_step (Some step) = record { found = true; value = step.0; row = step.1.row }
of_step None = record { found = false; value = zero64; row = 0 }

-- ---- the answer of an entry point to a call, and what its exported function promises

abbrev pub solve_answer : System → SolveSlices → Result (StdOption Float) Refusal
solve_answer i s = solved (solve_status i s) (solution_for i)

abbrev pub SolveExported : System → Change SolveSlices → Answer → Type 0
SolveExported i s r = Exported of_solve (solve_answer i s.entry) (Solves i s) r

abbrev pub align_answer : Input → Slices → Result ⊤ Refusal
align_answer i s = alignment_of (status i s)

abbrev pub AlignExported : Input → Change Slices → ℕ → Type 0
AlignExported i s r = Exported of_align (align_answer i s.entry) (Aligned i s) r

abbrev pub fit_answer : Model → FitInput → FitSlices → Result Outcome Refusal
fit_answer model i s = modelled (fit_status model i s) (fit_of_input model i).outcome

abbrev pub FitExported : Model → FitInput → Change FitSlices → Answer → Type 0
FitExported model i s r = Exported of_fit (fit_answer model i s.entry) (FitCall model i s) r

abbrev pub predict_answer : Model → FitInput → PredictSlices → Result PredictOutcome Refusal
predict_answer model i s = modelled (predict_status model i s) (predict_outcome model i)

abbrev pub PredictExported : Model → FitInput → Change PredictSlices → Answer → Type 0
PredictExported model i s r = Exported of_predict (predict_answer model i s.entry) (PredictCall model i s) r

abbrev pub run_answer : RunInput → RunSlices → Result Ran Refusal
run_answer i s = ran (run_status i s) i

abbrev pub RunExported : RunInput → Change RunSlices → RunReport → Type 0
RunExported i s r = Exported of_run (run_answer i s.entry) (RunCall i s) r
