-- What an end was passed met the checks, and its outputs hold what the run's definitions give, written over what they
-- held: of one call by the contract of `run`, of three by theirs, whatever their workspaces.
use mathlib.Core.Path.{◌≡◌, refl, ap, ap₂, ◌∙◌}
use mathlib.Core.Bool.{Bool, true}
use mathlib.Core.List.{List, [], ◌∷◌, map}
use Prim.Native.Nat.{ℕ, ◌<◌}
use native.Mathlib.Omega.{arith}
use lib.Ieee.{Float}
use lib.ListN.{length, get_or, take}
use Rattle.std.specs.Prelude.{Ok}
use Rattle.status.specs.Checks.{every, lengths_agree, all_below}
use Rattle.status.proofs.Laws.{length_at}
use Rattle.status.proofs.First.{passed_at_lem}
use Rattle.status.proofs.Told.{if_accepted_lem}
use Rattle.matrix.specs.Lists.{overwritten}
use Rattle.embedding.specs.declared.Model.TheVariants.{Mobility}
use Rattle.rt_matrix.specs.Columns.{FileColumns, columns_of, written_over}
use Rattle.retention_alignment.specs.Call.{checks as align_checks, room_of as align_room, status_by as align_status_by}
use Rattle.model_fit.specs.Input.{columns_agree, checks as model_checks, status_by as model_status_by}
use Rattle.models.specs.Call.{ModelOutputs, predict_room_in}
use Rattle.run.specs.Fitted.{Part, of_retention, of_mobility, RowOutcome}
use Rattle.run.specs.Call.{Input, Slices, peptides, room_of, fitted_by, status, ran_of, answer_of, outcomes}
use Rattle.run.specs.Call.{filled_model, filled, slices_after}
use Rattle.run.specs.Parts.{align_input, mobility_input}
use Rattle.run.proofs.Accepted.{ColumnsIn, passed}
use Rattle.run.proofs.Parts.{AlignPart, align_part, ModelPart}
use Rattle.run.proofs.Filling.{targets_written, retention_part, mobility_part}
use Rattle.edit_rule.specs.Ends.{RunEnd, CallsEnd, End, of_run, of_calls, Shown, shown, answers_of}
use Rattle.edit_rule.specs.EditsOutside.{written_by}

pub record Wrote (s : Shown) : Type 0 where
  pub columns : ColumnsIn s.input
  pub peptide_numbers : all_below (peptides s.input) s.input.peptide ≡ true
  pub answer : s.answer ≡ Ok (ran_of s.input)
  pub held_records : FileColumns
  pub records : s.records ≡ written_over (columns_of (fitted_by s.input).records) held_records
  pub held_aligned : List Float
  pub aligned : s.aligned
      ≡ overwritten (map (λ (o : RowOutcome). o.aligned) (outcomes s.input)) held_aligned
  pub held : Part → ModelOutputs
  pub outputs : (part : Part) → written_by part s ≡ filled_model part s.input (held part)

-- one call
module _ (e : RunEnd) where
  after_is : e.call.after ≡ filled e.input e.call.before
  unfolding slices_after
  after_is =
      e.call.contract.slices
      ∙ if_accepted_lem (status e.input e.call.before) (filled e.input e.call.before) e.call.before
      e.call.unrefused

  held_by : Part → ModelOutputs
  held_by of_retention = e.call.before.retention
  held_by of_mobility = e.call.before.mobility

  outputs_by : (part : Part) → written_by part (shown (of_run e)) ≡ filled_model part e.input (held_by part)
  unfolding filled held_by
  outputs_by of_retention = ap (λ (s : Slices). s.retention) after_is
  outputs_by of_mobility = ap (λ (s : Slices). s.mobility) after_is

  run_wrote : Wrote (shown (of_run e))
  unfolding answer_of filled
  run_wrote =
      let p = passed e.input (room_of e.call.before) e.call.unrefused in
      record {
        columns = p.columns;
        peptide_numbers = p.peptide_numbers;
        answer =
            e.call.contract.answer ∙ ap (λ (n : ℕ). answer_of n e.input) e.call.unrefused;
        held_records = e.call.before.records;
        records = ap (λ (s : Slices). s.records) after_is;
        held_aligned = e.call.before.aligned;
        aligned = ap (λ (s : Slices). s.aligned) after_is;
        held = held_by;
        outputs = outputs_by;
      }

-- three calls
module _ (e : CallsEnd) where
  abbrev i : Input
  i = e.input

  -- the checks of the alignment, and of mobility's call
  abbrev checks_of_align : List (ℕ × Bool)
  checks_of_align = align_checks (align_input i) (align_room e.alignment.before)

  abbrev checks_of_mobility : List (ℕ × Bool)
  checks_of_mobility =
      let m = mobility_input i in
      model_checks Mobility m (predict_room_in Mobility m e.mobility.before)

  align_check : (k : ℕ) → k < 5 → (get_or checks_of_align k (0, true)).1 ≡ true
  unfolding align_status_by every
  align_check k h = passed_at_lem checks_of_align k refl e.alignment.unrefused h

  mobility_check : (k : ℕ) → k < 6 → (get_or checks_of_mobility k (0, true)).1 ≡ true
  unfolding model_status_by every
  mobility_check k h = passed_at_lem checks_of_mobility k refl e.mobility.unrefused h

  columns : ColumnsIn i
  unfolding columns_agree
  columns =
      let n : ℕ = length i.file in
      let ls : List ℕ = length i.peptide ∷ length i.label ∷ length i.q ∷ length i.rt ∷ [] in
      let ms : List ℕ = length i.label ∷ length i.q ∷ length i.charge ∷ length i.mobility ∷ [] in
      let a : lengths_agree n ls ≡ true = align_check 0 (omega arith) in
      let m : lengths_agree (length i.peptide) ms ≡ true = mobility_check 0 (omega arith) in
      let p = length_at n ls 0 a (omega arith) in
      record {
        files_long = refl;
        peptides_long = p;
        labels_long = length_at n ls 1 a (omega arith);
        qs_long = length_at n ls 2 a (omega arith);
        rts_long = length_at n ls 3 a (omega arith);
        charges_long = length_at (length i.peptide) ms 2 m (omega arith) ∙ p;
        mobilities_long = length_at (length i.peptide) ms 3 m (omega arith) ∙ p;
      }

  align_wrote : AlignPart i e.alignment.before e.alignment.after
  align_wrote =
      let c = e.alignment in
      align_part i columns c.before c.after c.answer c.unrefused c.contract

  retention_wrote : ModelPart of_retention i e.retention.before e.retention.after e.retention.answer
  retention_wrote =
      let c = e.retention in
      retention_part i columns (take (length i.file) e.alignment.after.aligned)
      (targets_written i columns e.alignment.before e.alignment.after align_wrote)
      c.before c.after c.answer c.unrefused c.contract

  mobility_wrote : ModelPart of_mobility i e.mobility.before e.mobility.after e.mobility.answer
  mobility_wrote =
      let c = e.mobility in
      mobility_part i columns c.before c.after c.answer c.unrefused c.contract

  held_apart : Part → ModelOutputs
  held_apart of_retention = e.retention.before.outputs
  held_apart of_mobility = e.mobility.before.outputs

  outputs_apart : (part : Part) → written_by part (shown (of_calls e)) ≡ filled_model part i (held_apart part)
  unfolding held_apart
  outputs_apart of_retention = retention_wrote.outputs
  outputs_apart of_mobility = mobility_wrote.outputs

  calls_wrote : Wrote (shown (of_calls e))
  calls_wrote =
      record {
        columns = columns;
        peptide_numbers = align_check 4 (omega arith);
        answer = ap₂ answers_of retention_wrote.answer mobility_wrote.answer;
        held_records = e.alignment.before.records;
        records = align_wrote.records;
        held_aligned = e.alignment.before.aligned;
        aligned = align_wrote.aligned;
        held = held_apart;
        outputs = outputs_apart;
      }

pub wrote : (e : End) → Wrote (shown e)
wrote (of_run e) = run_wrote e
wrote (of_calls e) = calls_wrote e
