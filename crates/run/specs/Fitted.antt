-- What a run works out: the fitted numbers from the file count, the peptide table, the longest times and the training
-- rows alone, and a row's results from these and the row. Nothing that the program wrote is read: retention's target is
-- worked out here. Definitions only.
use Rattle.std.specs.Prelude.{List, map, ℕ, Float, length, Ok, Err}
use Rattle.std.proofs.Math.Option.{Option, none, some}
use Rattle.feature.specs.Feature.{Row}
use Rattle.peptide.specs.Table.{Table}
use Rattle.rt_matrix.specs.declared.Alignment.{Alignment}
use Rattle.retention_alignment.specs.Observation.{Obs, max_rts}
use Rattle.retention_alignment.specs.Alignments.{alignments, aligned}
use Rattle.embedding.specs.Design.{order_of}
use Rattle.embedding.specs.declared.Model.{Model}
use Rattle.embedding.specs.declared.Model.TheVariants.{Retention, Mobility}
use Rattle.regression.specs.Regression.{Sample, Fitting, Outcome, fit_of}
use Rattle.model_fit.specs.Input.{Query, query_of}
use Rattle.model_fit.specs.Samples.{sample_of}
use Rattle.models.specs.Prediction.{prediction_of, error_of}

-- ---- the two models of a run

-- the retention model or the mobility model: what holds of either model of a run is said of a part
pub data Part : Type 0 where
  of_retention : Part
  of_mobility : Part

abbrev pub model_of : Part → Model
model_of of_retention = Retention
model_of of_mobility = Mobility

-- ---- what is read of a row

-- by the alignment
abbrev pub obs_of : Row → Obs
obs_of r = record { file = r.file; peptide = r.peptide; rt = r.rt }

-- for a model's design row: retention has no charge
abbrev pub row_query : Model → Row → Query
row_query Retention r = query_of r.peptide 0
row_query Mobility r = query_of r.peptide r.charge

-- as a model's target: the aligned time by the records, or the mobility
abbrev pub target : Model → List Alignment → Row → Float
target Retention records r = aligned records (obs_of r)
target Mobility records r = r.mobility

-- ---- the fitted numbers

-- document 01's longest time of each file, over all rows
abbrev pub longest : (files : ℕ) → (rows : List Row) → List ℕ
longest files rows = max_rts files (map obs_of rows)

-- a training row's sample
abbrev pub row_sample : Model → Table → List Alignment → Row → Sample
row_sample model table records r = sample_of model table (row_query model r) (target model records r)

-- the fit of a model to the training rows
abbrev pub fit_of_rows : Model → Table → List Alignment → (training : List Row) → Fitting
fit_of_rows model table records training = fit_of (order_of model) (map (row_sample model table records) training)

-- the record of each file, and for each model its coefficients, ridge, r2 and n, or its failure
pub record Fitted : Type 0 where
  pub records : List Alignment
  pub retention : Fitting
  pub mobility : Fitting

unfoldable pub file_records : (files : ℕ) → Table → (max_rts : List ℕ) → (training : List Row)
    → List Alignment
file_records files table max_rts training = alignments files (length table.masses) max_rts (map obs_of training)

unfoldable pub fitted : (files : ℕ) → Table → (max_rts : List ℕ) → (training : List Row) → Fitted
fitted files table max_rts training =
    let records = file_records files table max_rts training in
    record {
      records = records;
      retention = fit_of_rows Retention table records training;
      mobility = fit_of_rows Mobility table records training;
    }

abbrev pub fit_of_part : Part → Fitted → Fitting
fit_of_part of_retention f = f.retention
fit_of_part of_mobility f = f.mobility

-- ---- a row's results

pub record Predicted : Type 0 where
  pub prediction : Float
  pub error : Float

-- where the model fits
abbrev pub where_fitted : Outcome → Predicted → Option Predicted
where_fitted (Ok fit) p = some p
where_fitted (Err u) p = none

-- by coefficients, and against a row's target
abbrev pub predicted_by : Model → Table → (beta : List Float) → Query → (y : Float) → Predicted
predicted_by model table beta q y =
    record {
      prediction = prediction_of model table beta q;
      error = error_of y (prediction_of model table beta q);
    }

-- a row's, by a model of the run
abbrev pub result_by : Part → Table → Fitted → Row → Predicted
result_by part table f r =
    predicted_by (model_of part) table (fit_of_part part f).coefficients (row_query (model_of part) r)
    (target (model_of part) f.records r)

-- and only where that fits
abbrev pub predicted : Part → Table → Fitted → Row → Option Predicted
predicted part table f r = where_fitted (fit_of_part part f).outcome (result_by part table f r)

-- the aligned time and, from each model that fits, the prediction and its error
pub record RowOutcome : Type 0 where
  pub aligned : Float
  pub retention : Option Predicted
  pub mobility : Option Predicted

unfoldable pub outcome : Table → Fitted → Row → RowOutcome
outcome table f r =
    record {
      aligned = aligned f.records (obs_of r);
      retention = predicted of_retention table f r;
      mobility = predicted of_mobility table f r;
    }

abbrev pub result_of : Part → RowOutcome → Option Predicted
result_of of_retention o = o.retention
result_of of_mobility o = o.mobility
