-- Demand 3, document 01's section on edits outside the training set: what is supposed of what two ends were passed, and
-- what is claimed of what they show, whether each is one call or three. Definitions only.
use Rattle.std.specs.Prelude.{◌≡◌, Bool, true, false, List, ℕ, ◌<◌, length, get_or, take, Result, Ok, Err}
use Rattle.std.proofs.Math.Option.{Option, none, some}
use Rattle.std.specs.Float.{nan}
use Rattle.feature.specs.Feature.{Row, outside, training}
use Rattle.edits.specs.Edits.{Edit, edited_by, touch_only, row_at}
use Rattle.embedding.specs.Design.{order_of}
use Rattle.rt_matrix.specs.Columns.{columns_of, first_of}
use Rattle.regression.specs.Regression.{Outcome}
use Rattle.status.specs.declared.Refusal.{Refusal}
use Rattle.models.specs.Call.{ModelOutputs}
use Rattle.models.specs.Prediction.{is_solved}
use Rattle.run.specs.Fitted.{Part, of_retention, of_mobility, model_of, fit_of_part, result_of}
use Rattle.run.specs.Fitted.{Predicted, RowOutcome, longest, outcome}
use Rattle.run.specs.Call.{Input, rows, fitted_by, ran_of}
use Rattle.run.specs.declared.Ran.{Ran}
use Rattle.edit_rule.specs.Ends.{Shown}

-- what was written for a model: its coefficients, and the predictions and errors of all rows
abbrev pub written_by : Part → Shown → ModelOutputs
written_by of_retention s = s.retention
written_by of_mobility s = s.mobility

-- whether the model fits, by what was answered; it does not with 8 and 9
abbrev pub fits : Part → Result Ran Refusal → Bool
fits of_retention (Ok ran) = is_solved ran.retention.fit
fits of_mobility (Ok ran) = is_solved ran.mobility.fit
fits of_retention (Err refusal) = false
fits of_mobility (Err refusal) = false

-- the outcome of its fit, by what was answered: ridge, r2 and n, or 8 or 9. The count beside it is of all rows, those
-- that an edit may touch too.
abbrev pub outcome_in : Part → Result Ran Refusal → Option Outcome
outcome_in of_retention (Ok ran) = some ran.retention.fit
outcome_in of_mobility (Ok ran) = some ran.mobility.fit
outcome_in of_retention (Err refusal) = none
outcome_in of_mobility (Err refusal) = none

-- ---- what is supposed

-- of two lists of rows and the number of their files
pub record SameLongest (files₁ : ℕ) (rows₁ : List Row) (files₂ : ℕ) (rows₂ : List Row) : Type 0 where
  -- there are as many files
  pub files : files₂ ≡ files₁
  -- and each has the same longest time, over all its rows and rounded up
  pub longests : longest files₂ rows₂ ≡ longest files₁ rows₁

pub record EditedOutside (a b : Input) : Type 0 where
  -- edits, each of the list that the one before it left, whatever that is
  pub edits : List Edit
  -- they lead from the rows that a was passed to those that b was passed
  pub edited : rows b ≡ edited_by edits (rows a)
  -- the row that an edit touches is outside the training set before and after; so the training rows keep their order
  pub outside : touch_only outside edits (rows a) ≡ true
  -- the file count and the longest times are the same
  pub longest_times : SameLongest a.files (rows a) b.files (rows b)
  -- and so is the peptide table
  pub table : b.table ≡ a.table

-- ---- what is claimed

-- the fitted numbers
pub record SameFitted (a b : Shown) : Type 0 where
  -- the record of every file, its flags among them
  pub records : first_of a.input.files b.records ≡ first_of a.input.files a.records
  -- for either model ridge, r2 and n, which the answer carries, or the same failure 8 or 9
  pub outcomes : (part : Part) → outcome_in part b.answer ≡ outcome_in part a.answer
  -- and its coefficients
  pub coefficients : (part : Part) → fits part a.answer ≡ true
      → take (order_of (model_of part)) (written_by part b).coefficients
      ≡ take (order_of (model_of part)) (written_by part a).coefficients

-- the row k of a and the row l of b have the same results
pub record SameRow (a b : Shown) (k l : ℕ) : Type 0 where
  -- its aligned time
  pub aligned : get_or b.aligned l nan ≡ get_or a.aligned k nan
  -- of either model that fits, its prediction
  pub prediction : (part : Part) → fits part a.answer ≡ true
      → get_or (written_by part b).predicted l nan ≡ get_or (written_by part a).predicted k nan
  -- and its error
  pub error : (part : Part) → fits part a.answer ≡ true
      → get_or (written_by part b).error l nan ≡ get_or (written_by part a).error k nan

-- what was written of the row k by a model
abbrev pub written_for : Part → Shown → ℕ → Predicted
written_for part s k =
    record {
      prediction = get_or (written_by part s).predicted k nan;
      error = get_or (written_by part s).error k nan;
    }

-- the results of the row k, as the definition has them
abbrev pub outcome_at : Input → ℕ → RowOutcome
outcome_at i k = outcome i.table (fitted_by i) (row_at (rows i) k)

-- The fitted numbers, or the failures, are what `fitted_by` gives, which reads the training rows in their order, the
-- file count, the peptide table and the longest times, and nothing that was written; each row's results are what
-- these numbers and that row give; and the counts are over all rows. So no constants would do.
pub record ByDefinition (s : Shown) : Type 0 where
  -- every file's record
  pub records : first_of s.input.files s.records ≡ columns_of (fitted_by s.input).records
  -- ridge, r2 and n of both models, or 8 or 9, and of how many rows narrowing changed the prediction
  pub answer : s.answer ≡ Ok (ran_of s.input)
  -- the coefficients of either model that fits
  pub coefficients : (part : Part) → fits part s.answer ≡ true
      → take (order_of (model_of part)) (written_by part s).coefficients
      ≡ (fit_of_part part (fitted_by s.input)).coefficients
  -- each row's aligned time
  pub aligned : (k : ℕ) → k < length (rows s.input)
      → get_or s.aligned k nan ≡ (outcome_at s.input k).aligned
  -- and its prediction and error by either model that fits
  pub predicted : (part : Part) (k : ℕ) → fits part s.answer ≡ true → k < length (rows s.input)
      → some (written_for part s k) ≡ result_of part (outcome_at s.input k)

-- demand 3, one claim about the two ends
pub record Unmoved (a b : Shown) : Type 0 where
  -- the same rows train, in the same order
  pub training_rows : training (rows b.input) ≡ training (rows a.input)
  -- the fitted numbers, or the failures, are the same
  pub fitted_numbers : SameFitted a b
  -- any row of one end and any row of the other that has its seven fields, to the bit, have the same results
  pub untouched : (k l : ℕ) → k < length (rows a.input) → l < length (rows b.input)
      → row_at (rows a.input) k ≡ row_at (rows b.input) l → SameRow a b k l
  -- and at both ends all of it is what the definition gives
  pub first_end : ByDefinition a
  pub second_end : ByDefinition b
