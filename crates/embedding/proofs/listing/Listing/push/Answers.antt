-- `embedding::listing::Listing::push` meets its contract: the cell is stored behind those that are listed, and counts
-- unless it is zero.
use mathlib.Core.Path.{sym, ◌∙◌}
use native.Mathlib.Omega.{arith}
use lib.Ieee.{ne, of_bits}
use borrow.Author.Tests.{not-true, not-false}
use Rattle.float.proofs.Zeros.{is_zero_lem}
use Rattle.embedding.proofs.Appending.{cell_listed, cell_skipped}
use Rattle.embedding.proofs.listing.Listing.push.Goals as goal

pub returns-then-x-clause-listed : goal.returns-then-x-clause-listed
unfolding of_bits ne
returns-then-x-clause-listed c =
    let a = c.args in
    let s = c.args.self.now in
    cell_listed a.x a.at s.len s.places.now s.values.now (omega arith) (omega arith)
    (sym (is_zero_lem a.x) ∙ not-true _ c.if-x.true)

pub returns-else-x-clause-listed : goal.returns-else-x-clause-listed
unfolding of_bits ne
returns-else-x-clause-listed c =
    let a = c.args in
    let s = c.args.self.now in
    cell_skipped a.x a.at s.len s.places.now s.values.now
    (sym (is_zero_lem a.x) ∙ not-false _ c.if-x.false)
