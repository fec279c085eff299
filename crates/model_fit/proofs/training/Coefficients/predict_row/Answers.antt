-- `model_fit::training::Coefficients::predict_row` meets its contract: the row's peptide is in the table.
use Rattle.model_fit.specs.Input.{table_at}
use Rattle.model_fit.proofs.Status.{listed}
use Rattle.model_fit.proofs.training.Coefficients.predict_row.Goals as goal

pub ion-ion-requires : goal.ion-ion-requires
ion-ion-requires c =
    let i = c.args.input in
    listed (table_at i.table) i.rows.peptide.now c.args.i c.requires.numbered c.requires.i_in_bounds
