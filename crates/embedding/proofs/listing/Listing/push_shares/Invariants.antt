-- `embedding::listing::Listing::push_shares` meets its contract. The loop's invariant: the shares of the first i cells
-- are stored behind those that are listed.
use mathlib.Core.Path.{◌≡◌}
use mathlib.Core.List.{◌++◌, map}
use Prim.Native.Nat.{◌+◌}
use lib.ListN.{take}
use Rattle.embedding.specs.Appending.{IsLent}
use Rattle.embedding.specs.Listing.{divided}
use Rattle.embedding.proofs.listing.Listing.push_shares.Given as goal

abbrev pub invariant-loop-i : goal.invariant-loop-i
invariant-loop-i l =
    let s = l.self in
    let s₀ = l.initial.self in record {
      lent : IsLent s₀ s;
      places : take (l.n + l.i) s.places.now ≡ take l.n s₀.places.now ++ map (λ p. 22 + p) (take l.i s₀.places.now);
      values : take (l.n + l.i) s.values.now ≡ take l.n s₀.values.now ++ divided l.whole (take l.i s₀.values.now);
    }
