-- `embedding::mobility_model::scalars` meets its contract: cell by cell.
use Rattle.embedding.specs.Design.{mobility_scalars}
use Rattle.embedding.proofs.Rows.{one, thousand}
use Rattle.embedding.proofs.mobility_model.scalars.Goals as goal

pub returns : goal.returns
unfolding mobility_scalars
returns c = rw (c.u32_to_f64-z.ensures, c.widen-m.ensures, c.u32_to_f64.ensures, one, thousand)
