-- Numbers as upper-case hex digits, most significant first. Definitions only.
use Rattle.std.specs.Prelude.{ℕ, zero, suc, ◌+◌, ◌-◌, ◌*◌, ◌/◌, ◌%◌, ◌^◌, Bool, true, cond, ◌&&◌, List, [], ◌∷◌, length, nat_le, nat_lt, Option, Some, None}

-- the ASCII code of a digit below 16: `0` to `9`, then `A` to `F`
unfoldable pub hex_digit : ℕ → ℕ
hex_digit d = cond (nat_lt d 10) (48 + d) (55 + d)

-- the last k digits of v
unfoldable pub hex_of : ℕ → ℕ → List ℕ
unfolding hex_digit
hex_of zero v = []
hex_of (suc k) v = hex_digit (v / 16 ^ k % 16) ∷ hex_of k v

-- the value of a digit, and 16 for a byte that is none
unfoldable pub digit_value : ℕ → ℕ
digit_value c = cond (nat_le 48 c && nat_le c 57) (c - 48) (cond (nat_le 65 c && nat_le c 70) (c - 55) 16)

-- the value of a digit, where the byte is one
abbrev pub read_digit : ℕ → Option ℕ
read_digit c = cond (nat_lt (digit_value c) 16) (Some (digit_value c)) None

-- every byte is a digit
unfoldable pub all_hex : List ℕ → Bool
unfolding digit_value
all_hex [] = true
all_hex (c ∷ s) = nat_lt (digit_value c) 16 && all_hex s

-- the number that digits stand for
unfoldable pub hex_value : List ℕ → ℕ
unfolding digit_value
hex_value [] = 0
hex_value (c ∷ s) = digit_value c * 16 ^ length s + hex_value s

-- the number that a text stands for: 1 to 16 digits
unfoldable pub read_hex : List ℕ → Option ℕ
unfolding all_hex hex_value
read_hex s = cond (nat_le 1 (length s) && nat_le (length s) 16 && all_hex s) (Some (hex_value s)) None
