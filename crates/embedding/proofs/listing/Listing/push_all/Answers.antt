-- `embedding::listing::Listing::push_all` meets its contract. The loop's invariant: the first k cells are listed.
use borrow.Author.Rules.{rules}
use Rattle.embedding.proofs.Appending.{none_listed, next_listed}
use Rattle.embedding.proofs.listing.Listing.push_all.Goals as goal

pub loop-k-init : goal.loop-k-init
loop-k-init c = record { lent = search rules; listed = none_listed _ _ _ _ }

pub loop-k-preserved : goal.loop-k-preserved
loop-k-preserved c = record {
  lent = search rules;
  listed = next_listed c.args.cells.now c.loop-k-test.true c.loop-k.invariant.listed c.push.ensures.listed;
}
