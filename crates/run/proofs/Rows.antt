-- What the alignment and the models read in columns is what the definitions read of the rows.
use mathlib.Core.Path.{◌≡◌, refl, sym, ap, ◌∙◌}
use mathlib.Core.Bool.{Bool, true, false, cond}
use mathlib.Core.List.{List, [], ◌∷◌, map, zip_with}
use Prim.Native.Nat.{ℕ}
use lib.IntN.{ℤ}
use lib.Ieee.{Float}
use Rattle.feature.specs.Feature.{Row, row_trains, training, mask, kept}
use Rattle.feature.proofs.Training.{Fields, map_selected}
use Rattle.peptide.specs.Table.{Table}
use Rattle.embedding.specs.Design.{design}
use Rattle.embedding.specs.declared.Model.{Model}
use Rattle.embedding.specs.declared.Model.TheVariants.{Retention, Mobility}
use Rattle.rt_matrix.specs.declared.Alignment.{Alignment}
use Rattle.retention_alignment.specs.Observation.{Obs, observations}
use Rattle.model_fit.specs.Input.{Query, queries, table_of}
use Rattle.model_fit.specs.Samples.{sample_of}
use Rattle.matrix.proofs.Lists.{zip_with_map, zip_with_none}
use Rattle.model_fit.proofs.RowLaws.{queries_map, queries_bare}
use Rattle.models.specs.Prediction.{prediction_of, error_of, inexact_in, is_solved}
use Rattle.rt_matrix.specs.Line.{present}
use Rattle.run.specs.Fitted.{Fitted, Predicted, obs_of, row_query, target, row_sample, outcome}
use Rattle.run.specs.Fitted.{Part, model_of, fit_of_part, result_by, result_of}
use Rattle.run.proofs.Outcomes.{results_solved, results_unsolved}

-- ---- the alignment's rows

observations_map : (rs : List Row)
    → observations (map (λ (r : Row). r.file) rs) (map (λ (r : Row). r.peptide) rs) (map (λ (r : Row). r.rt) rs)
    ≡ map obs_of rs
unfolding observations
observations_map [] = refl
observations_map (r ∷ rs) = ap (λ (t : List Obs). obs_of r ∷ t) (observations_map rs)

-- ---- rows and their columns

module _ (rs : List Row) (fs ps : List ℕ) (ls : List ℤ) (qs ts : List Float) (cs : List ℕ) (ms : List Float)
    (f : Fields rs fs ps ls qs ts cs ms) (marked : mask ls qs ≡ map row_trains rs) where
  pub rows_observed : observations fs ps ts ≡ map obs_of rs
  rows_observed = rw (← f.files_are, ← f.peptides_are, ← f.rts_are) (observations_map rs)

  -- what is kept of a column that the rows give
  kept_rows_lem : {A : Type 0} (g : Row → A) → kept (mask ls qs) (map g rs) ≡ map g (training rs)
  kept_rows_lem g = ap (λ (m : List Bool). kept m (map g rs)) marked ∙ sym (map_selected row_trains g rs)

  pub training_observed : kept (mask ls qs) (observations fs ps ts) ≡ map obs_of (training rs)
  training_observed = ap (kept (mask ls qs)) rows_observed ∙ kept_rows_lem obs_of

  -- retention's queries have no charges, mobility's have
  pub retention_queries : queries ps [] ≡ map (row_query Retention) rs
  retention_queries = rw (← f.peptides_are) (queries_bare (λ (r : Row). r.peptide) rs)

  pub mobility_queries : queries ps cs ≡ map (row_query Mobility) rs
  mobility_queries =
      rw (← f.peptides_are, ← f.charges_are)
      (queries_map (λ (r : Row). r.peptide) (λ (r : Row). r.charge) rs)

  -- the training samples of a model whose queries and targets are these
  pub samples_of : (model : Model) (table : Table) (records : List Alignment) (zs : List ℕ) (observed : List Float)
      → queries ps zs ≡ map (row_query model) rs → observed ≡ map (target model records) rs
      → kept (mask ls qs) (zip_with (sample_of model table) (queries ps zs) observed)
      ≡ map (row_sample model table records) (training rs)
  samples_of model table records zs observed e o =
      rw (e, o, zip_with_map (sample_of model table) (row_query model) (target model records) rs)
      (kept_rows_lem (row_sample model table records))

-- ---- mobility reads no log

module _ (letters offsets : List ℕ) (masses logs : List Float) where
  pub mobility_samples : (records : List Alignment) (rs : List Row)
      → map (row_sample Mobility (table_of letters offsets masses []) records) rs
      ≡ map (row_sample Mobility (table_of letters offsets masses logs) records) rs
  unfolding design
  mobility_samples records rs = refl

  pub mobility_predictions : (beta : List Float) (qs : List Query)
      → map (prediction_of Mobility (table_of letters offsets masses []) beta) qs
      ≡ map (prediction_of Mobility (table_of letters offsets masses logs) beta) qs
  unfolding design
  mobility_predictions beta qs = refl

  pub mobility_counts : (beta : List Float) (qs : List Query)
      → inexact_in Mobility (table_of letters offsets masses []) beta qs
      ≡ inexact_in Mobility (table_of letters offsets masses logs) beta qs
  unfolding design
  mobility_counts beta qs = refl

-- ---- predictions and errors of all rows

pub map_twice : {A B C : Type 0} (g : B → C) (f : A → B) (xs : List A)
    → map g (map f xs) ≡ map (λ x. g (f x)) xs
map_twice g f [] = refl
map_twice g f (x ∷ xs) = ap (λ (t : List _). g (f x) ∷ t) (map_twice g f xs)

module _ (part : Part) (table : Table) (f : Fitted) (rs : List Row) where
  abbrev solved : Bool
  solved = is_solved (fit_of_part part f).outcome

  abbrev result : Row → Predicted
  result = result_by part table f

  -- what the model predicts, as its own call writes it
  abbrev written : List Float
  written = map (prediction_of (model_of part) table (fit_of_part part f).coefficients) (map (row_query (model_of part)) rs)

  abbrev pub predictions_for : List Float
  predictions_for = cond solved written []

  abbrev pub results_for : List Predicted
  results_for = present (map (result_of part) (map (outcome table f) rs))

  solved_predictions : solved ≡ true → predictions_for ≡ map (λ (r : Row). (result r).prediction) rs
  solved_predictions h =
      ap (λ (b : Bool). cond b written []) h
      ∙ map_twice (prediction_of (model_of part) table (fit_of_part part f).coefficients) (row_query (model_of part)) rs

  no_predictions : solved ≡ false → predictions_for ≡ []
  no_predictions h = ap (λ (b : Bool). cond b written []) h

  -- a field of the results
  solved_results : {A : Type 0} (field : Predicted → A) → solved ≡ true
      → map field results_for ≡ map (λ (r : Row). field (result r)) rs
  solved_results field h = ap (map field) (results_solved table f part rs h) ∙ map_twice field result rs

  no_results : {A : Type 0} (field : Predicted → A) → solved ≡ false → map field results_for ≡ []
  no_results field h = ap (map field) (results_unsolved table f part rs h)

  pub predictions_written : predictions_for ≡ map (λ (p : Predicted). p.prediction) results_for
  predictions_written = by solved refl
    where
      by : (b : Bool) → solved ≡ b → predictions_for ≡ map (λ (p : Predicted). p.prediction) results_for
      by true h = solved_predictions h ∙ sym (solved_results (λ (p : Predicted). p.prediction) h)
      by false h = no_predictions h ∙ sym (no_results (λ (p : Predicted). p.prediction) h)

  abbrev targets : List Float
  targets = map (target (model_of part) f.records) rs

  pub errors_written : zip_with error_of targets predictions_for ≡ map (λ (p : Predicted). p.error) results_for
  errors_written = by solved refl
    where
      by : (b : Bool) → solved ≡ b
          → zip_with error_of targets predictions_for ≡ map (λ (p : Predicted). p.error) results_for
      by true h =
          ap (zip_with error_of targets) (solved_predictions h)
          ∙ zip_with_map error_of (target (model_of part) f.records) (λ (r : Row). (result r).prediction) rs
          ∙ sym (solved_results (λ (p : Predicted). p.error) h)
      by false h =
          ap (zip_with error_of targets) (no_predictions h)
          ∙ zip_with_none error_of targets
          ∙ sym (no_results (λ (p : Predicted). p.error) h)
