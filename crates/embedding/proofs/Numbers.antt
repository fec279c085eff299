-- Whole numbers as cells: which are zero, their quotients, and which of those are zero.
use mathlib.Core.Path.{◌≡◌, refl, sym, ap, ◌∙◌}
use mathlib.Core.Bool.{Bool, true, false, cond, false≢true}
use mathlib.Core.List.{List, [], ◌∷◌, map}
use Prim.Native.Nat.{ℕ, zero, suc, ◌+◌, ◌*◌, ◌/◌, ◌^◌, ◌≤◌, ◌<◌}
use native.Mathlib.Nat.{mul-one, mul-pos, mul_assoc, mul_comm, zero-mul}
use native.Mathlib.Nat.{zero-lt-suc, le_trans, le_of_eq, mul-le-mul_right, one-mul}
use native.Mathlib.Omega.{arith}
use lib.Count.{count_trailing_zeros}
use lib.Dec.{ltb, lit≤}
use lib.IntN.{ℤ, pos}
use lib.ListN.{get_or}
use lib.Ieee.{Float, nan, inf, fin, Format, up, down, binary64, low, prec, emax, round, units, odd, div, of_int}
use lib.Ieee.Back.{round_whole}
use lib.Ieee.Exact.{HasValue}
use lib.Ieee.Fits.{up_pos, down_pos}
use lib.Ieee.Scale.{round_same}
use borrow.Author.Tests.{ne_eqb}
use Rattle.float.specs.Number.{number}
use Rattle.float.specs.Value.{is_finite, is_zero, not_minus_zero}
use Rattle.float.proofs.Zeros.{round_zero, round_something}
use Rattle.embedding.specs.Design.{share}
use Rattle.embedding.specs.Listing.{seen_in}

-- ---- which whole numbers are zero

pub number_zero : is_zero (number 0) ≡ true
unfolding is_zero of_int
number_zero = refl

-- a value is not zero where the number that it equals is not
some_value : (x : Float) (s : Bool) (a b : ℕ) → HasValue x s a b → 0 < a → is_zero x ≡ false
unfolding is_zero
some_value nan s a b v h = absurd v
some_value (inf t) s a b v h = absurd v
some_value (fin t zero e) s a b v h =
    let some : 0 < a * down e = mul-pos h (down_pos e) in
    let none : a * down e ≡ 0 = sym v.1 ∙ ap (λ (k : ℕ). k * b) (zero-mul (up e)) ∙ zero-mul b in
    absurd (omega arith)
some_value (fin t (suc m) e) s a b v h = refl

pub number_some : (c : ℕ) → 0 < c → c ≤ 2 ^ 53 → is_zero (number c) ≡ false
unfolding of_int
number_some c h l = some_value (number c) false c 1 (round_whole binary64 false c l) h

-- and all of them are finite
finite_value : (x : Float) (s : Bool) (a b : ℕ) → HasValue x s a b → is_finite x ≡ true
unfolding is_finite
finite_value nan s a b v = absurd v
finite_value (inf t) s a b v = absurd v
finite_value (fin t m e) s a b v = refl

pub number_finite : (c : ℕ) → c ≤ 2 ^ 53 → is_finite (number c) ≡ true
unfolding of_int
number_finite c l = finite_value (number c) false c 1 (round_whole binary64 false c l)

-- ---- quotients

-- the quotient of two fractions, over the product of what they are divided by
crossed : (a b p q x y : ℕ) → x * 1 ≡ a * p → y * 1 ≡ b * q → x * q * b ≡ a * (y * p)
crossed a b p q x y h k =
    ap (λ (s : ℕ). s * q * b) (sym (mul-one x) ∙ h)
    ∙ mul_assoc (a * p) q b
    ∙ mul_assoc a p (q * b)
    ∙ ap (λ (s : ℕ). a * s) (mul_comm p (q * b) ∙ ap (λ (s : ℕ). s * p) (mul_comm q b ∙ sym k ∙ mul-one y))

-- of two whole numbers, rounded once
div_whole : (f : Format) (x y : Float) (a b : ℕ) → HasValue x false a 1 → HasValue y false b 1 → 0 < b
    → div f x y ≡ round f false a b
unfolding div
div_whole f nan y a b h k l = absurd h
div_whole f (inf s) y a b h k l = absurd h
div_whole f (fin s m e) nan a b h k l = absurd k
div_whole f (fin s m e) (inf t) a b h k l = absurd k
div_whole f (fin s m e) (fin t zero d) a b h k l =
    let some : 0 < b * down d = mul-pos l (down_pos d) in
    let none : b * down d ≡ 0 = sym k.1 ∙ mul-one (0 * up d) ∙ zero-mul (up d) in
    absurd (omega arith)
div_whole f (fin s m e) (fin t (suc n) d) a b h k l =
    rw (h.0, k.0, ne_eqb (suc n) 0 (λ e. omega arith))
    (round_same f false (m * up e * down d) (suc n * up d * down e) a b
    (mul-pos (mul-pos (zero-lt-suc n) (up_pos d)) (down_pos e))
    l
    (crossed a b (down e) (down d) (m * up e) (suc n * up d) h.1 k.1))

-- what is no -0.0 with the one sign is no zero with the other
plus_some : (m : ℕ) (e : ℤ) → not_minus_zero (fin true m e) ≡ true → is_zero (fin false m e) ≡ false
unfolding not_minus_zero is_zero
plus_some zero e h = absurd (false≢true h)
plus_some (suc m) e h = refl

odd_some : (d q k l : ℕ) → not_minus_zero (odd d true q k l) ≡ true → is_zero (odd d false q k l) ≡ false
unfolding odd
odd_some d zero k l h = plus_some 0 (pos 0) h
odd_some d (suc q) k l h = plus_some (suc q / 2 ^ count_trailing_zeros d (suc q)) _ h

units_some : (f : Format) (q k : ℕ) → not_minus_zero (units f true q k) ≡ true → is_zero (units f false q k) ≡ false
unfolding units is_zero
units_some f q k h = go (ltb (q * 2 ^ k) (2 ^ (low f + suc (emax f)))) h
  where
    go : (b : Bool) → not_minus_zero (cond b (odd (suc (prec f)) true q k (low f)) (inf true)) ≡ true
        → is_zero (cond b (odd (suc (prec f)) false q k (low f)) (inf false)) ≡ false
    go true h = odd_some (suc (prec f)) q k (low f) h
    go false h = refl

round_some : (f : Format) (a b : ℕ) → 0 < b → b ≤ a * 2 ^ low f → is_zero (round f false a b) ≡ false
unfolding round
round_some f a b h g = units_some f _ _ (round_something f true a b h g)

-- a share of a whole number is zero where the number is
pub share_zero : (n c : ℕ) → 0 < n → n ≤ 2 ^ 53 → c ≤ 2 ^ 53 → is_zero (share n c) ≡ is_zero (number c)
unfolding of_int is_zero
share_zero n zero h l m =
    ap is_zero
    (div_whole binary64 (number 0) (number n) 0 n (round_whole binary64 false 0 m) (round_whole binary64 false n l) h
    ∙ round_zero binary64 false n h)
share_zero n (suc c) h l m =
    ap is_zero
    (div_whole binary64 (number (suc c)) (number n) (suc c) n (round_whole binary64 false (suc c) m)
    (round_whole binary64 false n l) h)
    ∙ round_some binary64 (suc c) n h (le_trans l small)
    ∙ sym (number_some (suc c) (zero-lt-suc c) m)
  where
    small : 2 ^ 53 ≤ suc c * 2 ^ low binary64
    small =
        le_trans (le_trans (lit≤ tt) (le_of_eq (sym (one-mul (2 ^ low binary64)))))
        (mul-le-mul_right {m = 1} {n = suc c} (2 ^ low binary64) (omega arith))

-- ---- a row of shares

-- the shares that are not zero are those of the counts that are not
pub shares_seen : (n : ℕ) → 0 < n → n ≤ 2 ^ 53 → (cs : List ℕ) → ((k : ℕ) → get_or cs k 0 ≤ 2 ^ 53)
    → seen_in (map (share n) cs) ≡ seen_in (map number cs)
unfolding seen_in
shares_seen n h l [] b = refl
shares_seen n h l (c ∷ cs) b = rw (share_zero n c h l (b 0), shares_seen n h l cs (λ k. b (suc k)))
