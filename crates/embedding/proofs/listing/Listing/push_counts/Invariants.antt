-- `embedding::listing::Listing::push_counts` meets its contract. The loop's invariant: the cells from some place on are
-- left, and `left` has their digits.
use Rattle.embedding.specs.Appending.{IsLent}
use Rattle.embedding.proofs.Seen.{Left}
use Rattle.embedding.proofs.listing.Listing.push_counts.Given as goal

abbrev pub invariant-loop-left : goal.invariant-loop-left
invariant-loop-left l = record {
  lent : IsLent l.initial.self l.self;
  listed : Left 0 l.counts 0 l.initial.self.places.now l.initial.self.values.now l.self.places.now l.self.values.now
      l.n l.left;
}

abbrev pub decreases-loop-left : goal.decreases-loop-left
decreases-loop-left l = l.left
