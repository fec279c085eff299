-- What each part of an accepted run leaves, in the run's own words: the alignment, and the fit and the predictions of
-- either model.
use mathlib.Core.Path.{◌≡◌, sym, ap, ◌∙◌}
use mathlib.Core.List.{List, map}
use Prim.Native.Nat.{ℕ, ◌*◌}
use lib.Ieee.{Float}
use lib.ListN.{length, replicate}
use Rattle.std.specs.Prelude.{⊤, Result, Ok}
use Rattle.params.specs.Slice.{change}
use Rattle.status.specs.Status.{accepted}
use Rattle.status.specs.declared.Refusal.{Refusal}
use Rattle.status.proofs.Told.{if_accepted_lem}
use Rattle.float.specs.Number.{zero64}
use Rattle.matrix.specs.Lists.{overwritten}
use Rattle.feature.specs.Feature.{row_trains, training, mask, kept}
use Rattle.feature.proofs.Training.{Fields, fields_rows_from, mask_rows_from}
use Rattle.rt_matrix.specs.Columns.{columns_of, written_over}
use Rattle.rt_matrix.specs.declared.Alignment.{Alignment}
use Rattle.retention_alignment.specs.Observation.{Obs, observations, max_rts}
use Rattle.retention_alignment.specs.Alignments.{alignments, aligned}
use Rattle.retention_alignment.specs.Call.{Slices as AlignSlices, Aligned, records_for, status as align_status}
use Rattle.retention_alignment.specs.Call.{filled as align_filled, slices_after as align_after}
use Rattle.embedding.specs.Design.{order_of}
use Rattle.embedding.specs.declared.Model.TheVariants.{Retention}
use Rattle.regression.specs.Regression.{Fitting}
use Rattle.regression.specs.Workspace.{workspace_cells}
use Rattle.model_fit.specs.Input.{Input as ModelInput}
use Rattle.model_fit.specs.Samples.{fit_of_input}
use Rattle.models.specs.Prediction.{predictions, errors, inexact}
use Rattle.models.specs.Call.{PredictSlices, PredictCall, predict_status, predict_filled, predict_outcome, answer_of}
use Rattle.models.specs.declared.PredictOutcome.{PredictOutcome}
use Rattle.run.specs.Fitted.{RowOutcome, obs_of, target, longest, file_records, fitted, outcome}
use Rattle.run.specs.Fitted.{Part, model_of, fit_of_part}
use Rattle.run.specs.Call.{Input, rows, peptides, fitted_by, inexact_of, predict_outcome_of, outcomes}
use Rattle.run.specs.Call.{predictions_of, errors_of, filled_model}
use Rattle.run.specs.Parts.{align_input}
use Rattle.run.proofs.Rows.{rows_observed, training_observed, map_twice}
use Rattle.run.proofs.Accepted.{ColumnsIn}

-- ---- the columns of the rows

module _ (i : Input) (k : ColumnsIn i) where
  pub fields : Fields (rows i) i.file i.peptide i.label i.q i.rt i.charge i.mobility
  fields =
      fields_rows_from
      (length i.file) i.file i.peptide i.label i.q i.rt i.charge i.mobility k

  pub marks : mask i.label i.q ≡ map row_trains (rows i)
  marks =
      mask_rows_from
      (length i.file) i.file i.peptide i.label i.q i.rt i.charge i.mobility k

  observed_rows : observations i.file i.peptide i.rt ≡ map obs_of (rows i)
  observed_rows =
      rows_observed
      (rows i) i.file i.peptide i.label i.q i.rt i.charge i.mobility fields marks

  observed_training : kept (mask i.label i.q) (observations i.file i.peptide i.rt)
      ≡ map obs_of (training (rows i))
  observed_training =
      training_observed
      (rows i) i.file i.peptide i.label i.q i.rt i.charge i.mobility fields marks

  -- ---- the alignment

  records_are : records_for (align_input i) ≡ (fitted_by i).records
  unfolding fitted file_records
  records_are =
      let trained = kept (mask i.label i.q) (observations i.file i.peptide i.rt) in
      ap (λ (os : List Obs). alignments i.files (peptides i) (max_rts i.files os) trained) observed_rows
      ∙ ap (alignments i.files (peptides i) (longest i.files (rows i))) observed_training

  -- each row's aligned time, as retention's target
  pub targets : map (λ (o : RowOutcome). o.aligned) (outcomes i)
      ≡ map (target Retention (fitted_by i).records) (rows i)
  unfolding outcome
  targets = map_twice (λ (o : RowOutcome). o.aligned) (outcome i.table (fitted_by i)) (rows i)

  aligned_are : map (aligned (records_for (align_input i))) (observations i.file i.peptide i.rt)
      ≡ map (λ (o : RowOutcome). o.aligned) (outcomes i)
  aligned_are =
      ap (λ (os : List Obs). map (aligned (records_for (align_input i))) os) observed_rows
      ∙ ap (λ (a : List Alignment). map (aligned a) (map obs_of (rows i))) records_are
      ∙ map_twice (aligned (fitted_by i).records) obs_of (rows i)
      ∙ sym targets

-- what an accepted alignment leaves, by the run's definitions
pub record AlignPart (i : Input) (s t : AlignSlices) : Type 0 where
  pub workspace : t.workspace ≡ overwritten (replicate (peptides i * i.files) zero64) s.workspace
  pub records : t.records ≡ written_over (columns_of (fitted_by i).records) s.records
  pub aligned : t.aligned ≡ overwritten (map (λ (o : RowOutcome). o.aligned) (outcomes i)) s.aligned

pub align_part : (i : Input) → ColumnsIn i → (s t : AlignSlices) (r : Result ⊤ Refusal)
    → align_status (align_input i) s ≡ accepted → Aligned (align_input i) (change s t) r → AlignPart i s t
unfolding align_filled align_after
align_part i k s t r accept c =
    let after_is : t ≡ align_filled (align_input i) s =
    c.slices ∙ if_accepted_lem (align_status (align_input i) s) (align_filled (align_input i) s) s accept in
    record {
      workspace = ap (λ (x : AlignSlices). x.workspace) after_is;
      records =
          ap (λ (x : AlignSlices). x.records) after_is
          ∙ ap (λ (a : List Alignment). written_over (columns_of a) s.records) (records_are i k);
      aligned =
          ap (λ (x : AlignSlices). x.aligned) after_is
          ∙ ap (λ (x : List Float). overwritten x s.aligned) (aligned_are i k);
    }

-- ---- a model

pub record ModelPart (part : Part) (i : Input) (s t : PredictSlices) (r : Result PredictOutcome Refusal) : Type 0 where
  pub answer : r ≡ Ok (predict_outcome_of part i)
  pub workspace : t.workspace
      ≡ overwritten (replicate (workspace_cells (order_of (model_of part))) zero64) s.workspace
  pub outputs : t.outputs ≡ filled_model part i s.outputs

module _ (part : Part) (i : Input) (m : ModelInput) (s t : PredictSlices) (r : Result PredictOutcome Refusal)
    (accept : predict_status (model_of part) m s ≡ accepted)
    (fit : fit_of_input (model_of part) m ≡ fit_of_part part (fitted_by i))
    (predictions_are : predictions (model_of part) m ≡ predictions_of part i)
    (errors_are : errors (model_of part) m ≡ errors_of part i)
    (inexact_is : inexact (model_of part) m ≡ inexact_of part i) where
  pub model_part : PredictCall (model_of part) m (change s t) r → ModelPart part i s t r
  model_part c =
      let model = model_of part in
      let o = s.outputs in
      let after_is : t ≡ predict_filled model m s =
      c.slices ∙ if_accepted_lem (predict_status model m s) (predict_filled model m s) s accept in
      let coefficients_are = ap (λ (f : Fitting). overwritten f.coefficients o.coefficients) fit in
      let predicted_are = ap (λ (x : List Float). overwritten x o.predicted) predictions_are in
      let error_are = ap (λ (x : List Float). overwritten x o.error) errors_are in
      record {
        answer =
            c.answer
            ∙ ap (λ (n : ℕ). answer_of n (predict_outcome model m)) accept
            ∙ ap Ok (λ k. record { fit = (fit k).outcome; inexact = inexact_is k });
        workspace = ap (λ (x : PredictSlices). x.workspace) after_is;
        outputs =
            ap (λ (x : PredictSlices). x.outputs) after_is
            ∙ (λ k. record { coefficients = coefficients_are k; predicted = predicted_are k; error = error_are k });
      }
