-- `embedding::Model::list` meets its contract: what is listed is no more than the row.
use native.Mathlib.Omega.{arith}
use Rattle.embedding.proofs.Totals.{totals}
use Rattle.embedding.proofs.Model.list.Goals as goal

pub returns-clause-upper_bound : goal.returns-clause-upper_bound
returns-clause-upper_bound c =
    let i = c.args.ion in
    let few = rw c.new-listing.ensures at c.list_row.ensures.listed.few in
    omega (arith, few, (totals c.args.self i.letters.now i.log i.mass i.charge).columns)
