-- The results of all rows by a model of a run, where it fits and where it does not.
use mathlib.Core.Path.{◌≡◌, refl, ap, ◌∙◌}
use mathlib.Core.Bool.{true, false, true≢false, false≢true}
use mathlib.Core.List.{List, [], ◌∷◌, map}
use mathlib.Core.Option.{none, some}
use Rattle.feature.specs.Feature.{Row}
use Rattle.peptide.specs.Table.{Table}
use Rattle.rt_matrix.specs.Line.{present}
use Rattle.std.specs.Prelude.{Ok, Err}
use Rattle.regression.specs.Regression.{Outcome}
use Rattle.models.specs.Prediction.{is_solved}
use Rattle.run.specs.Fitted.{Fitted, Predicted, Part, of_retention, of_mobility, fit_of_part}
use Rattle.run.specs.Fitted.{where_fitted, result_by, outcome, result_of}

module _ (table : Table) (f : Fitted) where
  result_is : (part : Part) (r : Row)
      → result_of part (outcome table f r) ≡ where_fitted (fit_of_part part f).outcome (result_by part table f r)
  unfolding outcome
  result_is of_retention r = refl
  result_is of_mobility r = refl

  pub result_solved : (part : Part) (r : Row) → is_solved (fit_of_part part f).outcome ≡ true
      → result_of part (outcome table f r) ≡ some (result_by part table f r)
  result_solved part r h = result_is part r ∙ given (fit_of_part part f).outcome h
    where
      given : (o : Outcome) → is_solved o ≡ true
          → where_fitted o (result_by part table f r) ≡ some (result_by part table f r)
      given (Ok fit) t = refl
      given (Err u) t = absurd (false≢true t)

  result_unsolved : (part : Part) (r : Row) → is_solved (fit_of_part part f).outcome ≡ false
      → result_of part (outcome table f r) ≡ none
  result_unsolved part r h = result_is part r ∙ given (fit_of_part part f).outcome h
    where
      given : (o : Outcome) → is_solved o ≡ false → where_fitted o (result_by part table f r) ≡ none
      given (Ok fit) t = absurd (true≢false t)
      given (Err u) t = refl

  -- where it fits, one for each row
  pub results_solved : (part : Part) (rows : List Row) → is_solved (fit_of_part part f).outcome ≡ true
      → present (map (result_of part) (map (outcome table f) rows)) ≡ map (result_by part table f) rows
  unfolding present
  results_solved part [] h = refl
  results_solved part (r ∷ rows) h =
      rw (result_solved part r h)
      (ap (λ (t : List Predicted). result_by part table f r ∷ t) (results_solved part rows h))

  -- and else none
  pub results_unsolved : (part : Part) (rows : List Row) → is_solved (fit_of_part part f).outcome ≡ false
      → present (map (result_of part) (map (outcome table f) rows)) ≡ []
  unfolding present
  results_unsolved part [] h = refl
  results_unsolved part (r ∷ rows) h = rw (result_unsolved part r h) (results_unsolved part rows h)
