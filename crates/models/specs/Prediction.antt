-- The predictions of a fitted model, and their errors. Definitions only.
use Rattle.std.specs.Prelude.{ℕ, Bool, true, false, not, cond, Float, Ok, Err}
use mathlib.Core.List.{List, [], map, zip_with}
use Rattle.std.specs.Float.{binary32}
use Rattle.std.specs.Float.Ieee.{sub}
use Rattle.float.specs.Convert.{narrowed, is_exact}
use Rattle.float.specs.Value.{clamped, magnitude}
use Rattle.float.specs.Number.{zero64, number}
use Rattle.peptide.specs.Table.{Table}
use Rattle.embedding.specs.Count.{how_many}
use Rattle.embedding.specs.declared.Model.{Model}
use Rattle.embedding.specs.declared.Model.TheVariants.{Retention, Mobility}
use Rattle.regression.specs.Regression.{Outcome, dot}
use Rattle.model_fit.specs.Input.{Input, Query, queries}
use Rattle.model_fit.specs.Samples.{design_of, fit_of_input}

-- predictions are clamped to 0.0 and this
abbrev pub largest : Model → Float
largest Retention = number 1
largest Mobility = number 2

-- the clamped prediction, an f64
abbrev pub bounded_of : Model → Table → (beta : List Float) → Query → Float
bounded_of model t beta q = clamped zero64 (largest model) (dot (design_of model t q) beta)

-- narrowed to an f32
abbrev pub prediction_of : Model → Table → (beta : List Float) → Query → Float
prediction_of model t beta q = narrowed (bounded_of model t beta q)

-- how many of these predictions narrowing changes: a NaN, which equals nothing, is among them
abbrev pub inexact_in : Model → Table → (beta : List Float) → List Query → ℕ
inexact_in model t beta qs = how_many (λ q. not (is_exact (bounded_of model t beta q))) qs

-- |observed - predicted|, in f32
abbrev pub error_of : (observed predicted : Float) → Float
error_of observed predicted = magnitude (sub binary32 observed predicted)

-- a fit with coefficients
abbrev pub is_solved : Outcome → Bool
is_solved (Ok fit) = true
is_solved (Err u) = false

-- of all rows, in order; none where the fit is not solved
abbrev pub predictions : Model → Input → List Float
predictions model i =
    let fit = fit_of_input model i in
    cond (is_solved fit.outcome)
    (map (prediction_of model i.table fit.coefficients) (queries i.peptides i.charges))
    []

abbrev pub errors : Model → Input → List Float
errors model i = zip_with error_of i.observed (predictions model i)

-- how many of the predictions narrowing changes; 0 where the fit is not solved
abbrev pub inexact : Model → Input → ℕ
inexact model i =
    let fit = fit_of_input model i in
    cond (is_solved fit.outcome)
    (inexact_in model i.table fit.coefficients (queries i.peptides i.charges))
    0
