-- `embedding::listing::Listing::push_counts` meets its contract. The loop's invariant: the cells from some place on are
-- left, and `left` has their digits.
use mathlib.Core.Path.{refl}
use native.Mathlib.Omega.{arith}
use borrow.Author.Rules.{rules}
use Rattle.embedding.proofs.Seen.{all_left, none_left, place_below, room_below, one_less}
use Rattle.embedding.proofs.listing.Listing.push_counts.Goals as goal

pub loop-left-init : goal.loop-left-init
loop-left-init c =
    let a = c.args in
    let listing = a.self.now in record {
      lent = search rules;
      listed = rw c.requires.seen_value.0 (all_left 0 a.counts.now 0 listing.places.now listing.values.now);
    }

pub bounds-self-n : goal.bounds-self-n
bounds-self-n c =
    let i = c.loop-left.invariant in
    omega (arith, room_below i.listed c.loop-left-test.true c.requires.seen_value.1, i.lent.places_length)

pub bounds-self-n-in-loop-left : goal.bounds-self-n-in-loop-left
bounds-self-n-in-loop-left c =
    let i = c.loop-left.invariant in
    omega (arith, room_below i.listed c.loop-left-test.true c.requires.seen_value.1, i.lent.values_length)

pub bounds-counts-k : goal.bounds-counts-k
bounds-counts-k c =
    omega (arith, place_below c.loop-left.invariant.listed c.loop-left-test.true c.requires.seen_value.1)

pub loop-left-preserved : goal.loop-left-preserved
loop-left-preserved c =
    let i = c.loop-left.invariant in
    let some = c.loop-left-test.true in
    let size = c.requires.seen_value.1 in
    let below = room_below i.listed some size in record {
      lent = search rules;
      listed = one_less i.listed some (omega (arith, size)) _ _ (omega arith) refl
          (omega (arith, i.lent.places_length)) (omega (arith, i.lent.values_length));
    }

pub returns-clause-listed : goal.returns-clause-listed
returns-clause-listed c = rw c.requires.first (none_left c.loop-left.invariant.listed c.loop-left-test.false)
