-- `model_fit::Table::ion` meets its contract: the peptide's letters, log and mass are looked up.
use Rattle.model_fit.specs.Input.{table_at}
use Rattle.model_fit.proofs.RowLaws.{looked_up}
use Rattle.model_fit.proofs.Table.ion.Goals as goal

pub returns : goal.returns
returns c =
    looked_up (table_at c.args.self) c.args.p.0 c.args.model _ _ _ c.args.charge c.sequence.ensures c.log_at.ensures
    c.mass_at.ensures
