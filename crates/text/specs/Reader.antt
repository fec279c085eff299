-- Readers: each takes what it understands off the front of a text. Definitions only.
use Rattle.std.specs.Prelude.{ℕ, ◌+◌, List, drop}

-- a value and the number of bytes that were taken, or nothing
pub data Read (A : Type 0) : Type 0 where
  value : A → ℕ → Read A
  malformed : Read A

abbrev pub Reader : Type 0 → Type 0
Reader A = List ℕ → Read A

-- takes nothing
abbrev pub give : {A : Type 0} → A → Reader A
give a s = value a 0

abbrev pub further : {A : Type 0} → ℕ → Read A → Read A
further n (value a m) = value a (n + m)
further n malformed = malformed

abbrev pub onward : {A B : Type 0} → Read A → (A → Reader B) → Reader B
onward (value a n) f s = further n (f a (drop n s))
onward malformed f s = malformed

infixl 20 ◌>>=◌
-- first r, then what f makes of its value on what is left
abbrev pub ◌>>=◌ : {A B : Type 0} → Reader A → (A → Reader B) → Reader B
◌>>=◌ r f s = onward (r s) f s
