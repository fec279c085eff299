-- What an end shows is what the definition gives from what it was passed. So two ends of one file count for which the
-- definition gives the same fitted numbers show the same ones, and the same of rows with the same results.
use mathlib.Core.Path.{◌≡◌, refl, sym, ap, ◌∙◌}
use mathlib.Core.Bool.{true}
use mathlib.Core.List.{List, [], ◌∷◌, map}
use mathlib.Core.Option.{Option, none, some}
use Prim.Native.Nat.{ℕ, zero, suc, ◌<◌}
use native.Mathlib.Nat.{le_of_suc-le-suc, not-suc-le-zero}
use lib.Ieee.{Float, nan}
use lib.ListN.{length, get_or, take, drop, length-map, get_or-map, get_or-append}
use lib.Seq.{take_at}
use Rattle.matrix.specs.Lists.{overwritten}
use Rattle.matrix.proofs.Lists.{length_tabulate}
use Rattle.feature.specs.Feature.{Row}
use Rattle.edits.specs.Edits.{no_row, row_at}
use Rattle.embedding.specs.Design.{order_of}
use Rattle.embedding.specs.declared.Model.TheVariants.{Retention, Mobility}
use Rattle.rt_matrix.specs.Line.{lines}
use Rattle.rt_matrix.specs.Columns.{columns_of, first_of}
use Rattle.rt_matrix.proofs.RecordColumns.{first_written}
use Rattle.retention_alignment.specs.Observation.{max_rts}
use Rattle.retention_alignment.specs.Alignments.{alignments}
use Rattle.models.specs.Call.{ModelOutputs}
use Rattle.models.specs.Prediction.{is_solved}
use Rattle.run.specs.Fitted.{Part, of_retention, of_mobility, model_of, fit_of_part, result_by, result_of}
use Rattle.run.specs.Fitted.{Fitted, Predicted, RowOutcome, file_records, fitted, outcome}
use Rattle.run.specs.Call.{Input, rows, fitted_by, outcomes, predicted_of}
use Rattle.run.proofs.Outcomes.{result_solved, results_solved}
use Rattle.edit_rule.specs.Ends.{Shown}
use Rattle.edit_rule.specs.EditsOutside.{SameFitted, SameRow, ByDefinition}
use Rattle.edit_rule.specs.EditsOutside.{written_by, fits, outcome_in, written_for, outcome_at}
use Rattle.edit_rule.proofs.Width.{length_coefficients}
use Rattle.edit_rule.proofs.Written.{Wrote}

-- ---- cells of a column, and cells that were written over

pub get_d_mapped : {A B : Type 0} (f : A → B) (xs : List A) (k : ℕ) (a : A) (b : B) → k < length xs
    → get_or (map f xs) k b ≡ f (get_or xs k a)
get_d_mapped f [] k a b h = absurd (not-suc-le-zero h)
get_d_mapped f (x ∷ xs) zero a b h = refl
get_d_mapped f (x ∷ xs) (suc k) a b h = get_d_mapped f xs k a b (le_of_suc-le-suc h)

module _ {A : Type 0} (whole new old : List A) (e : whole ≡ overwritten new old) where
  front : (n : ℕ) → length new ≡ n → take n whole ≡ new
  front n l = ap (take n) e ∙ take_at new (drop (length new) old) n l

  cell : (k : ℕ) (d : A) → k < length new → get_or whole k d ≡ get_or new k d
  cell k d h = ap (λ (t : List A). get_or t k d) e ∙ get_or-append new (drop (length new) old) d k h

-- cells that a column of some list was written to: the k-th is that of the list's k-th element
written_at : {A B : Type 0} (f : A → B) (xs : List A) (whole old : List B) → whole ≡ overwritten (map f xs) old
    → (k : ℕ) (a : A) (b : B) → k < length xs → get_or whole k b ≡ f (get_or xs k a)
written_at f xs whole old e k a b h =
    cell whole (map f xs) old e k b (rw (length-map xs f) h) ∙ get_d_mapped f xs k a b h

-- ---- an end

module _ (s : Shown) (w : Wrote s) where
  abbrev i : Input
  i = s.input

  -- a record for each file
  count : length (fitted_by i).records ≡ i.files
  unfolding fitted file_records alignments lines max_rts
  count = length_tabulate _ _ ∙ length_tabulate i.files _

  records_are : first_of i.files s.records ≡ columns_of (fitted_by i).records
  records_are =
      ap (first_of i.files) w.records
      ∙ first_written i.files w.held_records (fitted_by i).records count

  -- the model fits, by the answer and by the definition
  solved_is : (part : Part) → fits part s.answer ≡ true
      → is_solved (fit_of_part part (fitted_by i)).outcome ≡ true
  solved_is of_retention h = sym (ap (fits of_retention) w.answer) ∙ h
  solved_is of_mobility h = sym (ap (fits of_mobility) w.answer) ∙ h

  -- a coefficient for each column
  coefficients_count : (part : Part) → is_solved (fit_of_part part (fitted_by i)).outcome ≡ true
      → length (fit_of_part part (fitted_by i)).coefficients ≡ order_of (model_of part)
  unfolding fitted
  coefficients_count of_retention h = length_coefficients (order_of Retention) _ h
  coefficients_count of_mobility h = length_coefficients (order_of Mobility) _ h

  coefficients_are : (part : Part) → fits part s.answer ≡ true
      → take (order_of (model_of part)) (written_by part s).coefficients
      ≡ (fit_of_part part (fitted_by i)).coefficients
  coefficients_are part h =
      front
      (written_by part s).coefficients
      (fit_of_part part (fitted_by i)).coefficients
      (w.held part).coefficients
      (ap (λ (o : ModelOutputs). o.coefficients) (w.outputs part))
      (order_of (model_of part))
      (coefficients_count part (solved_is part h))

  -- ---- a row's results

  module _ (k : ℕ) (l : k < length (rows i)) where
    aligned_at : get_or s.aligned k nan ≡ (outcome_at i k).aligned
    aligned_at =
        let f : Row → RowOutcome = outcome i.table (fitted_by i) in
        let aligned : RowOutcome → Float = λ o. o.aligned in
        written_at aligned (outcomes i) s.aligned w.held_aligned
        w.aligned k (f no_row) nan (rw (length-map (rows i) f) l)
        ∙ ap aligned (get_or-map f (rows i) k no_row)

    module _ (part : Part) (h : fits part s.answer ≡ true) where
      abbrev result : Row → Predicted
      result = result_by part i.table (fitted_by i)

      results_are : predicted_of part i ≡ map result (rows i)
      results_are = results_solved i.table (fitted_by i) part (rows i) (solved_is part h)

      -- a field of the results, from the cells that hold it
      field_at : (field : Predicted → Float) (whole old : List Float)
          → whole ≡ overwritten (map field (predicted_of part i)) old
          → get_or whole k nan ≡ field (result (row_at (rows i) k))
      field_at field whole old e =
          let n : length (predicted_of part i) ≡ length (rows i) =
          ap length results_are ∙ length-map (rows i) result in
          written_at field (predicted_of part i) whole old e k (result no_row) nan (rw n l)
          ∙ ap field
          (ap (λ (t : List Predicted). get_or t k (result no_row)) results_are
          ∙ get_or-map result (rows i) k no_row)

      predicted_at : some (written_for part s k) ≡ result_of part (outcome_at i k)
      predicted_at =
          let o = w.held part in
          let t = written_by part s in
          let p =
          field_at (λ (x : Predicted). x.prediction) t.predicted o.predicted
          (ap (λ (x : ModelOutputs). x.predicted) (w.outputs part)) in
          let x =
          field_at (λ (x : Predicted). x.error) t.error o.error
          (ap (λ (x : ModelOutputs). x.error) (w.outputs part)) in
          rw (p, x)
          (sym (result_solved i.table (fitted_by i) part (row_at (rows i) k) (solved_is part h)))

  pub by_definition : ByDefinition s
  by_definition =
      record {
        records = records_are;
        answer = w.answer;
        coefficients = coefficients_are;
        aligned = aligned_at;
        predicted = λ part k h l. predicted_at k l part h;
      }

-- ---- two ends

some_is : {A : Type 0} (d : A) → Option A → A
some_is d none = d
some_is d (some x) = x

module _ (a b : Shown) (v : Wrote a) (w : Wrote b)
    (files : b.input.files ≡ a.input.files) (same : fitted_by b.input ≡ fitted_by a.input) where
  -- the outcomes go by the fitted numbers
  same_outcome : (part : Part) → outcome_in part b.answer ≡ outcome_in part a.answer
  same_outcome of_retention = rw (w.answer, v.answer, same) refl
  same_outcome of_mobility = rw (w.answer, v.answer, same) refl

  fits_too : (part : Part) → fits part a.answer ≡ true → fits part b.answer ≡ true
  fits_too of_retention h = rw (w.answer, same) (rw v.answer at h)
  fits_too of_mobility h = rw (w.answer, same) (rw v.answer at h)

  pub same_fitted : SameFitted a b
  same_fitted =
      let x = by_definition a v in
      let y = by_definition b w in
      record {
        records =
            ap (λ (n : ℕ). first_of n b.records) (sym files)
            ∙ y.records
            ∙ ap (λ (f : Fitted). columns_of f.records) same
            ∙ sym x.records;
        outcomes = same_outcome;
        coefficients = λ part h.
            y.coefficients part (fits_too part h)
            ∙ ap (λ (f : Fitted). (fit_of_part part f).coefficients) same
            ∙ sym (x.coefficients part h);
      }

  -- the row k of a has the results of the row l of b
  module _ (k l : ℕ) (hk : k < length (rows a.input)) (hl : l < length (rows b.input))
      (results : outcome_at b.input l ≡ outcome_at a.input k) where
    same_written : (part : Part) → fits part a.answer ≡ true → written_for part b l ≡ written_for part a k
    unfolding some_is
    same_written part h =
        ap (some_is (written_for part b l))
        (predicted_at b w l hl part (fits_too part h)
        ∙ ap (result_of part) results
        ∙ sym (predicted_at a v k hk part h))

    pub same_row : SameRow a b k l
    same_row =
        record {
          aligned = aligned_at b w l hl ∙ ap (λ (o : RowOutcome). o.aligned) results ∙ sym (aligned_at a v k hk);
          prediction = λ part h. ap (λ (p : Predicted). p.prediction) (same_written part h);
          error = λ part h. ap (λ (p : Predicted). p.error) (same_written part h);
        }
