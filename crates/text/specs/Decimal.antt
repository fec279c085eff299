-- Whole numbers as decimal digits in ASCII, most significant first, without needless zeros. Definitions only.
use Rattle.std.specs.Prelude.{ℕ, zero, suc, ◌+◌, ◌-◌, ◌*◌, ◌/◌, ◌%◌, ◌^◌, Bool, ◌&&◌, cond, List, [], ◌∷◌, leb, ltb, eqb, length, get_or, drop, ℤ, pos, negsuc}
use Rattle.std.specs.Prelude.{Option, None, Some}

-- n's digits, of which there are at most k + 1, in front of s
unfoldable pub decimal_onto : ℕ → ℕ → List ℕ → List ℕ
decimal_onto zero n s = (48 + n) ∷ s
decimal_onto (suc k) n s =
    let longer = decimal_onto k (n / 10) ((48 + n % 10) ∷ s) in
    cond (ltb n 10) ((48 + n) ∷ s) longer

-- n's digits
unfoldable pub decimal_of : ℕ → List ℕ
unfolding decimal_onto
decimal_of n = decimal_onto n n []

-- the digits of a signed number, after a `-` where it is negative
unfoldable pub decimal_z : ℤ → List ℕ
unfolding decimal_of
decimal_z (pos n) = decimal_of n
decimal_z (negsuc n) = 45 ∷ decimal_of (suc n)

-- `0` to `9`
unfoldable pub is_digit : ℕ → Bool
is_digit c = leb 48 c && leb c 57

-- the number that v's digits and then s are, if it is at most max
unfoldable pub read_from : ℕ → ℕ → List ℕ → Option ℕ
unfolding is_digit
read_from max v [] = cond (leb v max) (Some v) None
read_from max v (c ∷ s) = cond (is_digit c) (read_from max (v * 10 + (c - 48)) s) None

-- the number that s is, if it is at most max: one digit or more, the first of several not `0`
unfoldable pub read_decimal : ℕ → List ℕ → Option ℕ
unfolding read_from
read_decimal max s =
    cond (eqb (length s) 0) None (cond (ltb 1 (length s) && eqb (get_or s 0 0) 48) None (read_from max 0 s))

-- -n, where n is not 0: `-0` is no number
unfoldable pub negative : Option ℕ → Option ℤ
negative None = None
negative (Some zero) = None
negative (Some (suc n)) = Some (negsuc n)

unfoldable pub non_negative : Option ℕ → Option ℤ
non_negative None = None
non_negative (Some n) = Some (pos n)

-- the `i32` that s is
unfoldable pub read_signed : List ℕ → Option ℤ
unfolding read_decimal negative non_negative
read_signed s =
    cond (eqb (get_or s 0 0) 45)
    (negative (read_decimal (2 ^ 31) (drop 1 s)))
    (non_negative (read_decimal (2 ^ 31 - 1) s))
