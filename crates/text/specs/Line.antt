-- Lines, each closed by LF, that are a key and a value. A key is written with its `=`. Definitions only.
use Rattle.std.specs.Prelude.{ℕ, ◌+◌, Bool, true, false, ◌&&◌, cond, List, [], ◌∷◌, ◌++◌, eqb, length, drop, ℤ}
use Rattle.std.specs.Prelude.{Option, None, Some}
use Rattle.float.specs.Hex.{read_hex}
use Rattle.text.specs.Decimal.{read_decimal, read_signed}
use Rattle.text.specs.Reader.{Read, value, malformed, Reader}

-- a line
abbrev pub line : List ℕ → List ℕ → List ℕ
line key v = key ++ v ++ (10 ∷ [])

abbrev pub longer_by : ℕ → Option (List ℕ) → Option (List ℕ)
longer_by c None = None
longer_by c (Some l) = Some (c ∷ l)

-- what stands before the first LF
unfoldable pub line_of : List ℕ → Option (List ℕ)
line_of [] = None
line_of (c ∷ s) = cond (eqb c 10) (Some []) (longer_by c (line_of s))

unfoldable pub starts_with : List ℕ → List ℕ → Bool
starts_with [] s = true
starts_with (k ∷ key) [] = false
starts_with (k ∷ key) (c ∷ s) = eqb c k && starts_with key s

-- what read makes of what follows the key
unfoldable pub keyed : {A : Type 0} → List ℕ → (List ℕ → Option A) → List ℕ → Option A
unfolding starts_with
keyed key read l = cond (starts_with key l) (read (drop (length key) l)) None

abbrev pub line_read : {A : Type 0} → ℕ → Option A → Read A
line_read n None = malformed
line_read n (Some a) = value a (n + 1)

abbrev pub in_line : {A : Type 0} → (List ℕ → Option A) → Option (List ℕ) → Read A
in_line read None = malformed
in_line read (Some l) = line_read (length l) (read l)

-- what read makes of the first line, which is taken with its LF
unfoldable pub first_line : {A : Type 0} → (List ℕ → Option A) → Reader A
unfolding line_of
first_line read s = in_line read (line_of s)

-- the number that s is, of exactly k upper-case hex digits
unfoldable pub read_hex_digits : ℕ → List ℕ → Option ℕ
unfolding read_hex
read_hex_digits k s = cond (eqb (length s) k) (read_hex s) None

-- a line with a number that is at most max
unfoldable pub decimal_line : List ℕ → ℕ → Reader ℕ
unfolding first_line keyed read_decimal
decimal_line key max = first_line (keyed key (read_decimal max))

-- a line with an `i32`
unfoldable pub signed_line : List ℕ → Reader ℤ
unfolding first_line keyed read_signed
signed_line key = first_line (keyed key read_signed)

-- a line with a number of k hex digits
unfoldable pub hex_line : List ℕ → ℕ → Reader ℕ
unfolding first_line keyed read_hex_digits
hex_line key k = first_line (keyed key (read_hex_digits k))
