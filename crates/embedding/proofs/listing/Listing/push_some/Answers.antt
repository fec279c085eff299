-- `embedding::listing::Listing::push_some` meets its contract: the cell is stored behind those that are listed.
use native.Mathlib.Omega.{arith}
use Rattle.embedding.proofs.Appending.{cell_listed}
use Rattle.embedding.proofs.listing.Listing.push_some.Goals as goal

pub returns-clause-listed : goal.returns-clause-listed
returns-clause-listed c =
    let a = c.args in
    let s = c.args.self.now in
    cell_listed a.x a.at s.len s.places.now s.values.now (omega arith) (omega arith) c.requires.some
