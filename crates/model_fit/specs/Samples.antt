-- The samples of the rows that train, and the fit of a model to them. Definitions only.
use mathlib.Core.List.{List, zip_with}
use Rattle.std.specs.Prelude.{Float, get_or}
use Rattle.std.specs.Float.{nan}
use Rattle.feature.specs.Feature.{mask, kept}
use Rattle.peptide.specs.Table.{Table, sequence_of}
use Rattle.embedding.specs.Design.{order_of, design}
use Rattle.embedding.specs.declared.Model.{Model}
use Rattle.regression.specs.Regression.{Sample, Fitting, fit_of}
use Rattle.model_fit.specs.Input.{Input, Query, queries}

-- the design row of a peptide of the table
abbrev pub design_of : Model → Table → Query → List Float
design_of model t q =
    let p = q.peptide in
    design model (sequence_of t.letters t.offsets p) (get_or t.logs p nan) (get_or t.masses p nan) q.charge

-- a row's sample: its design row and what was observed
abbrev pub sample_from : (design : List Float) (y : Float) → Sample
sample_from design y = record { row = design; y = y }

abbrev pub sample_of : Model → Table → Query → Float → Sample
sample_of model t q y = sample_from (design_of model t q) y

-- of all rows, and of the rows that train, in order
abbrev pub samples : Model → Input → List Sample
samples model i = zip_with (sample_of model i.table) (queries i.peptides i.charges) i.observed

abbrev pub training_samples : Model → Input → List Sample
training_samples model i = kept (mask i.labels i.qs) (samples model i)

-- the fit to them; its coefficients are none where it is not solved
abbrev pub fit_of_input : Model → Input → Fitting
fit_of_input model i = fit_of (order_of model) (training_samples model i)
