-- `embedding::listing::Listing::push_two` meets its contract: by whether both are the same.
use mathlib.Core.Path.{refl, sym, ap₂}
use mathlib.Core.List.{[], ◌∷◌}
use Prim.Native.Nat.{ℕ, ◌+◌}
use lib.Ieee.{of_bits, of_int}
use Rattle.embedding.proofs.Pairs.{same_pair, other_pair, cell_shown, cells_shown, one_some, two_some}
use Rattle.embedding.proofs.listing.Listing.push_two.Goals as goal

pub returns-then-a-b-clause-listed : goal.returns-then-a-b-clause-listed
unfolding of_bits of_int
returns-then-a-b-clause-listed c =
    let a = c.args in
    cell_shown (same_pair a.at a.a a.b c.requires.columns.0 c.if-a-b.true) refl refl two_some c.push_some.ensures.listed

pub returns-else-a-b-clause-listed : goal.returns-else-a-b-clause-listed
unfolding of_bits of_int
returns-else-a-b-clause-listed c =
    let a = c.args in
    cells_shown (other_pair a.at a.a a.b c.requires.columns.0 c.requires.columns.1 c.if-a-b.false)
    (ap₂ (λ (p q : ℕ). (a.at + p) ∷ (a.at + q) ∷ []) (sym c.min.ensures) (sym c.max.ensures)) refl one_some one_some
    c.push_some-else-a-b.ensures.listed c.push_some-else-a-b-2.ensures.listed

pub push_some-requires-clause-some : goal.push_some-requires-clause-some
unfolding of_bits of_int
push_some-requires-clause-some c = two_some

pub push_some-requires-else-a-b-clause-some : goal.push_some-requires-else-a-b-clause-some
unfolding of_bits of_int
push_some-requires-else-a-b-clause-some c = one_some

pub push_some-requires-else-a-b-2-clause-some : goal.push_some-requires-else-a-b-2-clause-some
unfolding of_bits of_int
push_some-requires-else-a-b-2-clause-some c = one_some
