-- Demand 3: rows outside the training set can't move a fitted number or another row's result. What is supposed and
-- what is claimed stands in specs/EditsOutside.antt. Edits of rows outside leave the training rows as they were, so it
-- is the case of Peptides in which one table serves both ends.
use mathlib.Core.Path.{◌≡◌, sym, ap, ap₂, ◌∙◌}
use mathlib.Core.List.{map-id}
use Rattle.feature.specs.Feature.{Row, training}
use Rattle.edits.proofs.Edits.{training_kept}
use Rattle.peptide.specs.Table.{Table}
use Rattle.run.specs.Call.{Input, rows}
use Rattle.edit_rule.specs.Ends.{End, shown, passed_at}
use Rattle.edit_rule.specs.EditsOutside.{EditedOutside, Unmoved}
use Rattle.edit_rule.specs.Peptides.{peptide_at, SameTraining, SameButNumber}
use Rattle.edit_rule.proofs.Peptides.{renumbered_same, peptides_unmoved}

module _ (a b : Input) (s : EditedOutside a b) where
  same_training : training (rows b) ≡ training (rows a)
  same_training = ap training s.edited ∙ training_kept s.edits (rows a) s.outside

  one_table : SameTraining a b
  one_table =
      record {
        number = λ p. p;
        training_rows = same_training ∙ sym (map-id (training (rows a)));
        rises = λ p q hp hq l. l;
        kept = λ p h. ap (λ (t : Table). peptide_at t p) s.table;
        longest_times = s.longest_times;
      }

  same_row : (r t : Row) → r ≡ t → SameButNumber a.table b.table r t
  same_row r t e =
      renumbered_same a.table b.table (λ p. p) (λ p. p) r t e
      (ap₂ (λ (u : Table) (x : Row). peptide_at u x.peptide) s.table (sym e))

-- demand 3
pub edits_outside : (a b : End) → EditedOutside (passed_at a) (passed_at b) → Unmoved (shown a) (shown b)
edits_outside a b s =
    let u = peptides_unmoved a b (one_table (passed_at a) (passed_at b) s) in
    record {
      training_rows = same_training (passed_at a) (passed_at b) s;
      fitted_numbers = u.fitted_numbers;
      untouched = λ k l hk hl e. u.untouched k l hk hl (same_row (passed_at a) (passed_at b) s _ _ e);
      first_end = u.first_end;
      second_end = u.second_end;
    }
