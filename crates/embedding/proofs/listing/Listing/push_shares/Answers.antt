-- `embedding::listing::Listing::push_shares` meets its contract. The loop's invariant: the shares of the first i cells
-- are stored behind those that are listed.
use Prim.Native.Nat.{◌+◌}
use native.Mathlib.Omega.{arith}
use lib.Ieee.{nan, binary64, div, Float}
use borrow.Author.Rules.{rules}
use Rattle.embedding.proofs.Shares.{copied_next}
use Rattle.embedding.proofs.listing.Listing.push_shares.Goals as goal

pub loop-i-preserved : goal.loop-i-preserved
loop-i-preserved c =
    let l = c.loop-i in
    let i = l.invariant in
    let s = c.args.self.now in
    let divide : Float → Float = λ x. div binary64 x c.args.whole in record {
      lent = search rules;
      places = copied_next (λ p. 22 + p) 0 s.len l.i s.places.now l.self.places.now (omega arith)
          (omega (arith, i.lent.places_length)) i.lent.places_length i.places;
      values = copied_next divide nan s.len l.i s.values.now l.self.values.now (omega arith)
          (omega (arith, i.lent.values_length)) i.lent.values_length i.values;
    }
