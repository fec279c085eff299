-- Rounding a value of 53 digits to binary32, in whole numbers: which digits are kept, and what the pattern is.
use Rattle.std.proofs.Common.{◌≡◌, ℕ, zero, suc, ◌+◌, ◌-◌, ◌*◌, ◌/◌, ◌%◌, ◌^◌, ◌<◌, ◌≤◌, min, Bool, true, false, cond, not, T, eqb, ltb, ◌⊎◌, sym, refl, ap, ◌∙◌, subst, inl, inr, le_trans, le_of_eq, lt_of_lt_of_le, add_assoc, mul-le-mul_right, mod-eq_of_lt, mul_assoc, div-lt_iff_lt-mul, eq-or-lt_of_le, mul-pos, lt_of_not-le, le-div_iff_mul-le, not-le_of_lt, mul-div_cancel, arith, lit<, lit≤, eqb→eq, ltb→lt, leb→le, nltb→le, pow_pos, pow_mono, pow-add, shl_lt}
use Prim.Native.Nat.{compare, Ordering}
use native.Mathlib.Nat.{div-eq_of_lt}
use lib.Dec.{is_le, compare_is_eq, nleb→lt, eqb_refl, not_T}
use lib.Ieee.{Float, nan, inf, fin, binary32, binary64, up, down, size, nearest, odd, units, round, of_fields, to_bits}
use lib.Ieee.Digits.{size-lt, size-le, size_reaches}
use lib.Ieee.Fits.{down_pos, kept-lt, nearest-le, round_is}
use lib.Ieee.Bits.{cond_no}
use lib.Ieee.Exact.{HasValue, odd_sign}
use lib.Ieee.Nearest.{closest, closest_same, nearest-ge}
use lib.Ieee.Scale.{round_same}
use Rattle.float.specs.Convert.{narrowed}

-- ---- `closest`, by how twice the remainder compares with the divisor
pub by_compare : (a b q : ℕ)
    → (a < b → nearest q (compare a b) ≡ q) × (b < a → nearest q (compare a b) ≡ suc q) ×
    (a ≡ b → nearest q (compare a b) ≡ q + q % 2)
by_compare a b q =
    go (compare a b) (leb→le a b) (nleb→lt a b) (eqb→eq a b)
    (λ (e : a ≡ b). subst (λ (x : ℕ). T (eqb a x)) e (eqb_refl a))
  where
    go : (o : Ordering) → (T (is_le o) → a ≤ b) → (T (not (is_le o)) → b < a) → (T (compare_is_eq o) → a ≡ b)
        → (a ≡ b → T (compare_is_eq o))
        → (a < b → nearest q o ≡ q) × (b < a → nearest q o ≡ suc q) × (a ≡ b → nearest q o ≡ q + q % 2)
    go Ordering.lt h k e n = ((λ l. refl), (λ l. absurd (not-le_of_lt l (h tt))), (λ l. absurd (n l)))
    go Ordering.eq h k e n =
        ((λ l. absurd (not-le_of_lt l (le_of_eq (sym (e tt))))), (λ l. absurd (not-le_of_lt l (h tt))), (λ l. refl))
    go Ordering.gt h k e n = ((λ l. absurd (omega (arith, l, k tt))), (λ l. refl), (λ l. absurd (n l)))

-- ---- the number of digits of M * 2 ^ j * 2 ^ t / 2 ^ l, and of a number at large
size_gt : (n j : ℕ) → 2 ^ j ≤ n → j < size n
size_gt n j h = lt_of_not-le (λ (g : size n ≤ j). not-le_of_lt (size-lt n) (le_trans (pow_mono g) h))

-- i digits are more than 24
extra : (n i : ℕ) → n < 2 ^ (24 + i) → (i ≡ 0) ⊎ (2 ^ (23 + i) ≤ n) → size n - 24 ≡ i
extra n i hi lead =
    let z : size n ≤ 24 + i = size-le n (24 + i) hi in
    elim lead [ inl e ↦ omega arith | inr lo ↦ omega (arith, size_gt n (23 + i) lo) ]

powers : (M j t h l i : ℕ) → j + t + h ≡ l + i → M * 2 ^ j * 2 ^ t * 2 ^ h ≡ M * (2 ^ l * 2 ^ i)
powers M j t h l i e =
    ap (λ (x : ℕ). x * 2 ^ h) (mul_assoc M (2 ^ j) (2 ^ t))
    ∙ mul_assoc M (2 ^ j * 2 ^ t) (2 ^ h)
    ∙ ap (λ (x : ℕ). M * x)
    (ap (λ (x : ℕ). x * 2 ^ h) (sym (pow-add 2 j t)) ∙ sym (pow-add 2 (j + t) h) ∙ ap (λ (x : ℕ). 2 ^ x) e ∙ pow-add 2 l i)

at_least : (M d j t l a : ℕ) → 2 ^ d ≤ M → a + l ≡ d + j + t → 2 ^ a ≤ M * 2 ^ j * 2 ^ t / 2 ^ l
at_least M d j t l a h e =
    (le-div_iff_mul-le (pow_pos l)).1
    (le_trans (le_of_eq (sym (pow-add 2 a l) ∙ ap (λ (x : ℕ). 2 ^ x) e ∙ pow-add 2 (d + j) t ∙ ap (λ (x : ℕ). x * 2 ^ t) (pow-add 2 d j))) (mul-le-mul_right (2 ^ t) (mul-le-mul_right (2 ^ j) h)))

below : (M d j t l a : ℕ) → M < 2 ^ d → d + j + t ≤ a + l → M * 2 ^ j * 2 ^ t / 2 ^ l < 2 ^ a
below M d j t l a h e =
    (div-lt_iff_lt-mul (pow_pos l)).1
    (lt_of_lt_of_le (shl_lt (d + j) t (shl_lt d j h)) (le_trans (pow_mono e) (le_of_eq (pow-add 2 a l))))

-- ---- `round` at M * 2 ^ j / 2 ^ l, where i digits are dropped
round_at : (s : Bool) (M j l i h : ℕ) → size (M * 2 ^ j * 2 ^ 149 / 2 ^ l) - 24 ≡ i → j + 149 + h ≡ l + i
    → round binary32 s (M * 2 ^ j) (2 ^ l) ≡ units binary32 s (closest M (2 ^ h)) i
round_at s M j l i h d e =
    let n = M * 2 ^ j * 2 ^ 149 in
    round_is binary32 s (M * 2 ^ j) (2 ^ l)
    ∙ ap (λ (k : ℕ). units binary32 s (closest n (2 ^ l * 2 ^ k)) k) d
    ∙ ap (λ (q : ℕ). units binary32 s q i)
    (closest_same n (2 ^ l * 2 ^ i) M (2 ^ h) (mul-pos (pow_pos l) (pow_pos i)) (pow_pos h) (powers M j 149 h l i e))

round_normal : (s : Bool) (M j i : ℕ) → 2 ^ 52 ≤ M → M < 2 ^ 53 → j ≡ 896 + i
    → round binary32 s (M * 2 ^ j) (2 ^ 1074) ≡ units binary32 s (closest M (2 ^ 29)) i
round_normal s M j i lo hi e =
    round_at s M j 1074 i 29
    (extra (M * 2 ^ j * 2 ^ 149 / 2 ^ 1074) i (below M 53 j 149 1074 (24 + i) hi (omega arith)) (inr (at_least M 52 j 149 1074 (23 + i) lo (omega arith))))
    (omega arith)

round_low : (s : Bool) (M j : ℕ) → M < 2 ^ 53 → j < 896
    → round binary32 s (M * 2 ^ j) (2 ^ 1074) ≡ units binary32 s (closest M (2 ^ (925 - j))) 0
round_low s M j hi l =
    round_at s M j 1074 0 (925 - j)
    (extra (M * 2 ^ j * 2 ^ 149 / 2 ^ 1074) 0 (below M 53 j 149 1074 24 hi (omega arith)) (inl refl)) (omega arith)

-- ---- the pattern of a units, without its sign: the leading digit adds one to the exponent's field
abbrev fields : ℕ → ℕ
fields a = (size a - 24) * 0x80_0000 + a / 2 ^ (size a - 24)

fields_at : (q i : ℕ) → q < 2 ^ 24 → (i ≡ 0) ⊎ (2 ^ 23 ≤ q) → fields (q * 2 ^ i) ≡ i * 0x80_0000 + q
fields_at q i hi lead =
    ap (λ (k : ℕ). k * 0x80_0000 + q * 2 ^ i / 2 ^ k)
    (extra (q * 2 ^ i) i (shl_lt 24 i hi) (elim lead [ inl z ↦ inl z | inr lo ↦ inr (le_trans (le_of_eq (pow-add 2 23 i)) (mul-le-mul_right (2 ^ i) lo)) ]))
    ∙ ap (λ (y : ℕ). i * 0x80_0000 + y) (mul-div_cancel q (pow_pos i))

-- rounding up can give q one digit more, which adds one to the field too
fields_kept : (q i : ℕ) → q ≤ 2 ^ 24 → (i ≡ 0) ⊎ (2 ^ 23 ≤ q) → fields (q * 2 ^ i) ≡ i * 0x80_0000 + q
fields_kept q i top lead = elim (eq-or-lt_of_le top) [
  | inl e ↦
      let x : 24 + i ≡ 23 + suc i = omega arith in
      let c : suc i * 0x80_0000 + 2 ^ 23 ≡ i * 0x80_0000 + q = omega arith in
      ap (λ (y : ℕ). fields (y * 2 ^ i)) e
      ∙ ap fields (sym (pow-add 2 24 i) ∙ ap (λ (y : ℕ). 2 ^ y) x ∙ pow-add 2 23 (suc i))
      ∙ fields_at (2 ^ 23) (suc i) (lit< tt) (inr (lit≤ tt))
      ∙ c
  | inr l ↦ fields_at q i l lead
]

-- the largest value lies below 2 ^ 277 units, and its pattern below the infinity's
fields_under : (a : ℕ) → a < 2 ^ 277 → min (fields a) 0x7f80_0000 ≡ fields a
fields_under a h = go (size a) (a / 2 ^ (size a - 24)) (size-le a 277 h) (kept-lt 24 a)
  where
    go : (z w : ℕ) → z ≤ 277 → w < 2 ^ 24
        → min ((z - 24) * 0x80_0000 + w) 0x7f80_0000 ≡ (z - 24) * 0x80_0000 + w
    go z w l k = omega arith

fields_over : (a : ℕ) → 2 ^ 277 ≤ a → min (fields a) 0x7f80_0000 ≡ 0x7f80_0000
fields_over a h =
    go (size a) (a / 2 ^ (size a - 24)) g
    ((le-div_iff_mul-le (pow_pos (size a - 24))).1 (le_trans (le_of_eq (sym (pow-add 2 23 (size a - 24)))) (size_reaches a (23 + (size a - 24)) (in_use (size a) g))))
  where
    g : 277 < size a
    g = size_gt a 277 h

    in_use : (z : ℕ) → 277 < z → 23 + (z - 24) < z
    in_use z l = omega arith

    go : (z w : ℕ) → 277 < z → 2 ^ 23 ≤ w → min ((z - 24) * 0x80_0000 + w) 0x7f80_0000 ≡ 0x7f80_0000
    go z w l k = omega arith

-- ---- the pattern of a value of `units`
to_bits_value : (x : Float) (s : Bool) (a : ℕ) → HasValue x s a (2 ^ 149)
    → to_bits binary32 x ≡ cond s 0x8000_0000 0 + fields a
unfolding to_bits
to_bits_value nan s a v = absurd v
to_bits_value (inf t) s a v = absurd v
to_bits_value (fin t m e) s a v =
    ap (λ (n : ℕ). cond t 0x8000_0000 0 + (size n - 24) * 0x80_0000 + n / 2 ^ (size n - 24))
    (ap (λ (y : ℕ). y / down e) v.1 ∙ mul-div_cancel a (down_pos e))
    ∙ add_assoc (cond t 0x8000_0000 0) ((size a - 24) * 0x80_0000) (a / 2 ^ (size a - 24))
    ∙ ap (λ (b : Bool). cond b 0x8000_0000 0 + fields a) v.0

to_bits_inf : (s : Bool) → to_bits binary32 (inf s) ≡ cond s 0x8000_0000 0 + 0x7f80_0000
unfolding to_bits
to_bits_inf s = refl

pattern : (s : Bool) (q i : ℕ) → q ≤ 2 ^ 24 → (i ≡ 0) ⊎ (2 ^ 23 ≤ q)
    → to_bits binary32 (units binary32 s q i) ≡ cond s 0x8000_0000 0 + min (i * 0x80_0000 + q) 0x7f80_0000
unfolding units
pattern s q i top lead =
    go (ltb (q * 2 ^ i) (2 ^ 277)) (ltb→lt (q * 2 ^ i) (2 ^ 277)) (nltb→le (q * 2 ^ i) (2 ^ 277))
    ∙ ap (λ (y : ℕ). cond s 0x8000_0000 0 + min y 0x7f80_0000) (fields_kept q i top lead)
  where
    go : (b : Bool) → (T b → q * 2 ^ i < 2 ^ 277) → (T (not b) → 2 ^ 277 ≤ q * 2 ^ i)
        → to_bits binary32 (cond b (odd 25 s q i 149) (inf s))
        ≡ cond s 0x8000_0000 0 + min (fields (q * 2 ^ i)) 0x7f80_0000
    go true l g =
        to_bits_value (odd 25 s q i 149) s (q * 2 ^ i) (odd_sign 25 s q i 149)
        ∙ ap (λ (y : ℕ). cond s 0x8000_0000 0 + y) (sym (fields_under (q * 2 ^ i) (l tt)))
    go false l g = to_bits_inf s ∙ ap (λ (y : ℕ). cond s 0x8000_0000 0 + y) (sym (fields_over (q * 2 ^ i) (g tt)))

-- ---- how large the kept number is
pub kept_top : (M h : ℕ) → M < 2 ^ 53 → 29 ≤ h → closest M (2 ^ h) ≤ 2 ^ 24
kept_top M h hi l =
    le_trans (nearest-le (M / 2 ^ h) (compare (M % 2 ^ h * 2) (2 ^ h)))
    ((div-lt_iff_lt-mul (pow_pos h)).1 (lt_of_lt_of_le hi (le_trans (pow_mono {i = 53} {j = 24 + h} (omega arith)) (le_of_eq (pow-add 2 24 h)))))

kept_lead : (M : ℕ) → 2 ^ 52 ≤ M → 2 ^ 23 ≤ closest M (2 ^ 29)
kept_lead M lo =
    le_trans ((le-div_iff_mul-le (pow_pos 29)).1 lo) (nearest-ge (M / 2 ^ 29) (compare (M % 2 ^ 29 * 2) (2 ^ 29)))

kept_none : (M h : ℕ) → M < 2 ^ 53 → 54 ≤ h → closest M (2 ^ h) ≡ 0
kept_none M h hi l =
    let k : 2 ^ 54 ≤ 2 ^ h = pow_mono l in
    let s : M < 2 ^ h = omega arith in
    ap (λ (r : ℕ). nearest (M / 2 ^ h) (compare (r * 2) (2 ^ h))) (mod-eq_of_lt s)
    ∙ (by_compare (M * 2) (2 ^ h) (M / 2 ^ h)).0 (omega arith)
    ∙ div-eq_of_lt s

-- ---- narrowing, by the value and by the fields of the f64
narrowed_value : (x : Float) (s : Bool) (a c : ℕ) → 0 < c → HasValue x s a c
    → narrowed x ≡ round binary32 s a c
unfolding narrowed
narrowed_value nan s a c C v = absurd v
narrowed_value (inf t) s a c C v = absurd v
narrowed_value (fin t m e) s a c C v =
    round_same binary32 t (m * up e) (down e) a c (down_pos e) C v.1
    ∙ ap (λ (b : Bool). round binary32 b a c) v.0

narrowed_odd : (s : Bool) (q k : ℕ) → narrowed (odd 53 s q k 1074) ≡ round binary32 s (q * 2 ^ k) (2 ^ 1074)
narrowed_odd s q k = narrowed_value (odd 53 s q k 1074) s (q * 2 ^ k) (2 ^ 1074) (pow_pos 1074) (odd_sign 53 s q k 1074)

narrowed_zero : (s : Bool) (t : ℕ) → narrowed (of_fields binary64 s 0 t) ≡ round binary32 s (t * 2 ^ 0) (2 ^ 1074)
unfolding of_fields
narrowed_zero s t = narrowed_odd s t 0

narrowed_fields : (s : Bool) (x t : ℕ) → suc x < 2047
    → narrowed (of_fields binary64 s (suc x) t) ≡ round binary32 s ((2 ^ 52 + t) * 2 ^ x) (2 ^ 1074)
unfolding of_fields
narrowed_fields s x t h =
    ap narrowed
    (cond_no (eqb (suc x) 2047) (cond (eqb t 0) (inf s) nan) (odd 53 s (2 ^ 52 + t) x 1074) (not_T (eqb (suc x) 2047) (λ u. omega (arith, eqb→eq (suc x) 2047 u))))
    ∙ narrowed_odd s (2 ^ 52 + t) x

narrowed_top : (s : Bool) → narrowed (of_fields binary64 s 2047 0) ≡ inf s
unfolding of_fields narrowed
narrowed_top s = refl

-- ---- what the pattern is, by the fields of the f64
-- below the normal values, for any digits M
pattern_low : (s : Bool) (M j : ℕ) → M < 2 ^ 53 → j < 896
    → to_bits binary32 (round binary32 s (M * 2 ^ j) (2 ^ 1074)) ≡ cond s 0x8000_0000 0 + closest M (2 ^ (925 - j))
pattern_low s M j hi l =
    let q = closest M (2 ^ (925 - j)) in
    let t : q ≤ 2 ^ 24 = kept_top M (925 - j) hi (omega arith) in
    let c : min (0 * 0x80_0000 + q) 0x7f80_0000 ≡ q = omega arith in
    ap (to_bits binary32) (round_low s M j hi l)
    ∙ pattern s q 0 t (inl refl)
    ∙ ap (λ (y : ℕ). cond s 0x8000_0000 0 + y) c

pub bits_zero : (s : Bool) (e t : ℕ) → e < 865 → t < 2 ^ 52
    → to_bits binary32 (narrowed (of_fields binary64 s e t)) ≡ cond s 0x8000_0000 0 + 0
bits_zero s zero t l h =
    ap (to_bits binary32) (narrowed_zero s t)
    ∙ pattern_low s t 0 (omega arith) (omega arith)
    ∙ ap (λ (y : ℕ). cond s 0x8000_0000 0 + y) (kept_none t 925 (omega arith) (omega arith))
bits_zero s (suc x) t l h =
    ap (to_bits binary32) (narrowed_fields s x t (omega arith))
    ∙ pattern_low s (2 ^ 52 + t) x (omega arith) (omega arith)
    ∙ ap (λ (y : ℕ). cond s 0x8000_0000 0 + y) (kept_none (2 ^ 52 + t) (925 - x) (omega arith) (omega arith))

pub bits_subnormal : (s : Bool) (e t : ℕ) → 865 ≤ e → e < 897 → t < 2 ^ 52
    → to_bits binary32 (narrowed (of_fields binary64 s e t))
    ≡ cond s 0x8000_0000 0 + closest (2 ^ 52 + t) (2 ^ (926 - e))
bits_subnormal s zero t g l h = absurd (omega arith)
bits_subnormal s (suc x) t g l h =
    ap (to_bits binary32) (narrowed_fields s x t (omega arith))
    ∙ pattern_low s (2 ^ 52 + t) x (omega arith) (omega arith)
    ∙ ap (λ (y : ℕ). cond s 0x8000_0000 0 + closest (2 ^ 52 + t) (2 ^ y)) (omega arith)

pub bits_normal : (s : Bool) (e t : ℕ) → 897 ≤ e → e < 2048 → (e ≡ 2047 → t ≡ 0) → t < 2 ^ 52
    → to_bits binary32 (narrowed (of_fields binary64 s e t))
    ≡ cond s 0x8000_0000 0 + min ((e - 897) * 0x80_0000 + closest (2 ^ 52 + t) (2 ^ 29)) 0x7f80_0000
bits_normal s zero t g l n h = absurd (omega arith)
bits_normal s (suc x) t g l n h = elim (eq-or-lt_of_le l) [
  | inl e ↦
      let q = closest (2 ^ 52 + t) (2 ^ 29) in
      let o : suc x ≡ 2047 = omega arith in
      let c : 0x7f80_0000 ≡ min ((suc x - 897) * 0x80_0000 + q) 0x7f80_0000 = omega arith in
      ap (λ (y : ℕ). to_bits binary32 (narrowed (of_fields binary64 s y t))) o
      ∙ ap (λ (y : ℕ). to_bits binary32 (narrowed (of_fields binary64 s 2047 y))) (n o)
      ∙ ap (to_bits binary32) (narrowed_top s)
      ∙ to_bits_inf s
      ∙ ap (λ (y : ℕ). cond s 0x8000_0000 0 + y) c
  | inr k ↦
      ap (to_bits binary32)
      (narrowed_fields s x t (omega arith) ∙ round_normal s (2 ^ 52 + t) x (suc x - 897) (omega arith) (omega arith) (omega arith))
      ∙ pattern s (closest (2 ^ 52 + t) (2 ^ 29)) (suc x - 897)
      (kept_top (2 ^ 52 + t) 29 (omega arith) (omega arith)) (inr (kept_lead (2 ^ 52 + t) (omega arith)))
]
