-- What a contract's parameters are. Definitions only.
use Rattle.std.specs.Prelude.{List}
use Rattle.std.specs.Borrow.{Bor, MutBor}
use denote.Triple.Both.{Both}

-- a slice in a `requires`, as a `&` holds it: `s.now` is the list of its elements
abbrev pub Held : Type 0 → Type 0
Held X = Bor (List X)

-- as a `&mut` holds it
abbrev pub MutHeld : Type 0 → Type 0
MutHeld X = MutBor (List X)

-- anything as a call begins, `.entry`, and as it returns, `.exit`
abbrev pub Change : Type 0 → Type 0
Change X = Both X X

abbrev pub change : {X : Type 0} → (entry exit : X) → Change X
change entry exit = record { entry = entry; exit = exit }

-- a slice in an `ensures`, as a `&` holds it
abbrev pub Slice : Type 0 → Type 0
Slice X = Change (Held X)

-- as a `&mut` holds it
abbrev pub MutSlice : Type 0 → Type 0
MutSlice X = Change (MutHeld X)
