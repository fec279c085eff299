-- Demand 3 where the peptide tables of the two ends differ: specs/Peptides.antt says what is supposed and claimed. The
-- records read the peptides' numbers only for their order (Records), and a model's design row reads only what the table
-- says of its own peptide; so the definition gives both ends the same.
use mathlib.Core.Path.{◌≡◌, refl, sym, ap, ap₂, ◌∙◌}
use mathlib.Core.Bool.{true}
use mathlib.Core.List.{List, [], ◌∷◌, map}
use Prim.Native.Nat.{ℕ, ◌<◌}
use lib.Dec.{ltb}
use lib.Ieee.{Float}
use borrow.Author.Tests.{ltb-true}
use Rattle.status.specs.Checks.{all_below}
use Rattle.float.specs.Convert.{narrowed}
use Rattle.float.specs.Value.{clamped}
use Rattle.float.specs.Number.{zero64}
use Rattle.feature.specs.Feature.{Row, training}
use Rattle.edits.specs.Edits.{row_at}
use Rattle.edits.proofs.Edits.{training_kept}
use Rattle.peptide.specs.Table.{Table}
use Rattle.embedding.specs.Design.{order_of, design}
use Rattle.embedding.specs.declared.Model.{Model}
use Rattle.embedding.specs.declared.Model.TheVariants.{Retention, Mobility}
use Rattle.regression.specs.Regression.{Sample, fit_of, dot}
use Rattle.rt_matrix.specs.declared.Alignment.{Alignment}
use Rattle.retention_alignment.specs.Alignments.{alignments, aligned}
use Rattle.model_fit.specs.Samples.{design_of}
use Rattle.models.specs.Prediction.{largest, error_of}
use Rattle.run.specs.Fitted.{Part, of_retention, of_mobility, model_of, fit_of_part, where_fitted, predicted, outcome}
use Rattle.run.specs.Fitted.{Fitted, obs_of, row_query, target, longest, row_sample, fit_of_rows, file_records, fitted}
use Rattle.run.specs.Call.{Input, rows, peptides, fitted_by}
use Rattle.run.proofs.Parts.{fields}
use Rattle.edit_rule.specs.Ends.{End, Shown, shown, passed_at}
use Rattle.edit_rule.specs.EditsOutside.{outcome_at}
use Rattle.edit_rule.specs.Peptides.{Peptide, peptide_at, renumbered, has}
use Rattle.edit_rule.specs.Peptides.{SameTraining, PutIn, SameButNumber, PeptidesUnmoved}
use Rattle.edit_rule.proofs.Written.{Wrote, wrote}
use Rattle.edit_rule.proofs.Shown.{by_definition, same_fitted, same_row}
use Rattle.edit_rule.proofs.Renumbered.{every_has, has_first, has_later, training_has, training_renumbered}
use Rattle.edit_rule.proofs.Records.{Renumbers, records_same}

-- ---- rows that agree but for the peptide's number

module _ (t u : Table) (r s : Row) (e : SameButNumber t u r s) where
  same_target : (model : Model) (records : List Alignment) → target model records s ≡ target model records r
  unfolding aligned
  same_target Retention records = rw (e.file, e.rt)
  same_target Mobility records = e.mobility

  same_design : (model : Model) → design_of model u (row_query model s) ≡ design_of model t (row_query model r)
  same_design Retention = ap (λ (p : Peptide). design Retention p.letters p.log p.mass 0) e.peptide
  same_design Mobility =
      ap₂ (λ (p : Peptide) (c : ℕ). design Mobility p.letters p.log p.mass c) e.peptide e.charge

  same_sample : (model : Model) (records : List Alignment)
      → row_sample model u records s ≡ row_sample model t records r
  same_sample model records =
      ap₂ (λ (d : List Float) (y : Float). record { row = d; y = y }) (same_design model) (same_target model records)

  same_predicted : (part : Part) (f : Fitted) → predicted part u f s ≡ predicted part t f r
  same_predicted part f =
      ap₂ (λ (d : List Float) (y : Float).
      let x = narrowed (clamped zero64 (largest (model_of part)) (dot d (fit_of_part part f).coefficients)) in
      where_fitted (fit_of_part part f).outcome (record { prediction = x; error = error_of y x }))
      (same_design (model_of part)) (same_target (model_of part) f.records)

  same_outcome : (f : Fitted) → outcome u f s ≡ outcome t f r
  unfolding outcome
  same_outcome f =
      rw (same_predicted of_retention f, same_predicted of_mobility f, same_target Retention f.records)

-- a row under other numbers of a peptide of which the tables say the same
pub renumbered_same : (t u : Table) (φ ψ : ℕ → ℕ) (r s : Row) → r ≡ s
    → peptide_at u (ψ s.peptide) ≡ peptide_at t (φ r.peptide)
    → SameButNumber t u (renumbered φ r) (renumbered ψ s)
renumbered_same t u φ ψ r s e h =
    record {
      file = ap (λ (x : Row). x.file) (sym e);
      rt = ap (λ (x : Row). x.rt) (sym e);
      charge = ap (λ (x : Row). x.charge) (sym e);
      mobility = ap (λ (x : Row). x.mobility) (sym e);
      peptide = h;
    }

-- the samples of renumbered rows
samples_same : (model : Model) (records : List Alignment) (t u : Table) (φ : ℕ → ℕ) (rs : List Row)
    → ((p : ℕ) → has rs p ≡ true → peptide_at u (φ p) ≡ peptide_at t p)
    → map (row_sample model u records) (map (renumbered φ) rs) ≡ map (row_sample model t records) rs
samples_same model records t u φ [] h = refl
samples_same model records t u φ (r ∷ rs) h =
    let e : SameButNumber t u r (renumbered φ r) =
    renumbered_same t u (λ p. p) φ r r refl (h r.peptide (has_first r rs)) in
    ap₂ (λ (x : Sample) (xs : List Sample). x ∷ xs) (same_sample t u r (renumbered φ r) e model records)
    (samples_same model records t u φ rs (λ p l. h p (has_later r rs p l)))

-- ---- the definition, of two inputs

-- the training rows' peptides are in the table
pub training_below : (s : Shown) → Wrote s → (p : ℕ) → has (training (rows s.input)) p ≡ true
    → p < peptides s.input
training_below s w p h =
    let i : Input = s.input in
    ltb-true p (peptides i)
    (every_has (λ k. ltb k (peptides i)) (map (λ (r : Row). r.peptide) (rows i)) p
    (ap (all_below (peptides i)) (fields i w.columns).peptides_are ∙ w.peptide_numbers)
    (training_has (rows i) p h))

module _ (a b : Shown) (v : Wrote a) (w : Wrote b) (s : SameTraining a.input b.input) where
  abbrev i : Input
  i = a.input

  abbrev j : Input
  j = b.input

  renumbers : Renumbers s.number (training (rows i)) (peptides i) (peptides j)
  renumbers =
      record {
        rises = s.rises;
        old_below = training_below a v;
        new_below = λ p h. training_below b w p (ap (λ (rs : List Row). has rs p) s.training_rows ∙ h);
      }

  records_are : (fitted_by j).records ≡ (fitted_by i).records
  unfolding fitted file_records
  records_are =
      let trained : List Row = training (rows j) in
      let times : List ℕ = longest i.files (rows i) in
      ap (λ (f : ℕ). alignments f (peptides j) (longest j.files (rows j)) (map obs_of trained))
      s.longest_times.files
      ∙ ap (λ (m : List ℕ). alignments i.files (peptides j) m (map obs_of trained)) s.longest_times.longests
      ∙ ap (λ (rs : List Row). alignments i.files (peptides j) times (map obs_of rs)) s.training_rows
      ∙ records_same s.number (training (rows i)) (peptides i) (peptides j) renumbers i.files times

  fit_is : (model : Model)
      → fit_of_rows model j.table (fitted_by j).records (training (rows j))
      ≡ fit_of_rows model i.table (fitted_by i).records (training (rows i))
  fit_is model =
      ap (λ (r : List Alignment). fit_of_rows model j.table r (training (rows j))) records_are
      ∙ ap (fit_of_rows model j.table (fitted_by i).records) s.training_rows
      ∙ ap (fit_of (order_of model))
      (samples_same model (fitted_by i).records i.table j.table s.number (training (rows i)) s.kept)

  same_definition : fitted_by j ≡ fitted_by i
  unfolding fitted
  same_definition =
      let r = records_are in
      let x = fit_is Retention in
      let y = fit_is Mobility in
      λ k. record { records = r k; retention = x k; mobility = y k }

  same_results : (k l : ℕ) → SameButNumber i.table j.table (row_at (rows i) k) (row_at (rows j) l)
      → outcome_at j l ≡ outcome_at i k
  same_results k l e =
      ap (λ (f : Fitted). outcome j.table f (row_at (rows j) l)) same_definition
      ∙ same_outcome i.table j.table (row_at (rows i) k) (row_at (rows j) l) e (fitted_by i)

  unmoved : PeptidesUnmoved a b
  unmoved =
      let files = s.longest_times.files in
      record {
        fitted_numbers = same_fitted a b v w files same_definition;
        untouched = λ k l hk hl e. same_row a b v w files same_definition k l hk hl (same_results k l e);
        first_end = by_definition a v;
        second_end = by_definition b w;
      }

-- demand 3, whatever happens to the peptides that no training row has
pub peptides_unmoved : (a b : End) → SameTraining (passed_at a) (passed_at b)
    → PeptidesUnmoved (shown a) (shown b)
peptides_unmoved a b s = unmoved (shown a) (shown b) (wrote a) (wrote b) s

-- ---- peptides put in, and a list of edits

put_in_training : (a : Shown) → Wrote a → (b : Input) → PutIn a.input b → SameTraining a.input b
put_in_training a v b s =
    let renumbered_rows : List Row = map (renumbered s.number) (rows a.input) in
    record {
      number = s.number;
      training_rows =
          ap training s.edited
          ∙ training_kept s.edits renumbered_rows s.outside
          ∙ training_renumbered s.number (rows a.input);
      rises = λ p q hp hq l. s.rises p q l (training_below a v q hq);
      kept = λ p h. s.kept p (training_below a v p h);
      longest_times = s.longest_times;
    }

pub put_in_unmoved : (a b : End) → PutIn (passed_at a) (passed_at b) → PeptidesUnmoved (shown a) (shown b)
put_in_unmoved a b s = peptides_unmoved a b (put_in_training (shown a) (wrote a) (passed_at b) s)
