-- Hex digits both ways, over the number of digits.
use Rattle.std.proofs.Common.{◌≡◌, ℕ, zero, suc, ◌+◌, ◌-◌, ◌*◌, ◌/◌, ◌%◌, ◌^◌, ◌<◌, ◌≤◌, Bool, true, false, cond, ◌&&◌, ltb, leb, List, [], ◌∷◌, length, get_or, drop, set, sym, refl, ap, ◌∙◌, subst, ap₂, lt_of_lt_of_le, add_assoc, mod-eq_of_lt, mul_assoc, add-mul, add_comm, pow-suc, div-add-mod', add-one, arith, drop-cons, get_or-set_same, drop-set-lt, lt-length-set, ltb-false, ltb-true, le-ltb, lt-ltb, le-leb, leb-true, Some, None}
use native.Mathlib.Nat.{pow-succ', one-le-pow, pow-le-pow_right, mod-one, add-mul-div_right, div-div-eq-div-mul}
use lib.Arith.{digits_lt, digits_div, mod-mul}
use borrow.Author.Tests.{lt-leb}
use Rattle.float.specs.Hex.{hex_digit, digit_value, read_digit, hex_of, all_hex, hex_value, read_hex}
use Rattle.float.proofs.Order.{and_true}

pow_pos : (k : ℕ) → 0 < 16 ^ k
pow_pos k = one-le-pow k 16 (omega arith)

-- ---- a digit and its value
pub value_decimal : (c : ℕ) → 48 ≤ c → c ≤ 57 → digit_value c ≡ c - 48
unfolding digit_value
value_decimal c h k = simp (le-leb 48 c h, le-leb c 57 k)

pub value_letter : (c : ℕ) → 65 ≤ c → c ≤ 70 → digit_value c ≡ c - 55
unfolding digit_value
value_letter c h k = simp (le-leb 48 c (omega arith), lt-leb c 57 (omega arith), le-leb 65 c h, le-leb c 70 k)

pub read_some : (c d : ℕ) → digit_value c ≡ d → d < 16 → Some d ≡ read_digit c
read_some c d e h = rw e (simp (lt-ltb d 16 h))

pub read_none : (c : ℕ) → digit_value c ≡ 16 → None ≡ read_digit c
read_none c e = rw e refl

-- a byte that reads as d is a digit of that value
pub read_by : (c d : ℕ) → read_digit c ≡ Some d → (digit_value c ≡ d) × (d < 16)
read_by c d = by (ltb (digit_value c) 16) (ltb-true (digit_value c) 16)
  where
    by : (t : Bool) → (t ≡ true → digit_value c < 16) → cond t (Some (digit_value c)) None ≡ Some d
        → (digit_value c ≡ d) × (d < 16)
    by true l e =
        let v : digit_value c ≡ d = cc in
        (v, omega (arith, l refl))
    by false l e = cc

-- and one that does not is none
pub read_not : (c : ℕ) → read_digit c ≡ None → ltb (digit_value c) 16 ≡ false
read_not c = by (ltb (digit_value c) 16)
  where
    by : (t : Bool) → cond t (Some (digit_value c)) None ≡ None → t ≡ false
    by true e = cc
    by false e = refl

pub value_digit : (d : ℕ) → d < 16 → digit_value (hex_digit d) ≡ d
unfolding hex_digit
value_digit d h = go (ltb d 10) (ltb-true d 10) (ltb-false d 10)
  where
    go : (t : Bool) → (t ≡ true → d < 10) → (t ≡ false → 10 ≤ d)
        → digit_value (cond t (48 + d) (55 + d)) ≡ d
    go true l g = let b = l refl in value_decimal (48 + d) (omega arith) (omega arith) ∙ omega arith
    go false l g = let b = g refl in value_letter (55 + d) (omega arith) (omega arith) ∙ omega arith

within : (c a b : ℕ) → (leb a c && leb c b) ≡ true → (a ≤ c) × (c ≤ b)
within c a b h = let t = and_true (leb a c) (leb c b) h in (leb-true a c t.0, leb-true c b t.1)

pub value_none : (c : ℕ) → (48 ≤ c → c ≤ 57 → ⊥) → (65 ≤ c → c ≤ 70 → ⊥)
    → digit_value c ≡ 16
unfolding digit_value
value_none c n m = go (leb 48 c && leb c 57) (leb 65 c && leb c 70) (within c 48 57) (within c 65 70)
  where
    go : (t u : Bool) → (t ≡ true → (48 ≤ c) × (c ≤ 57)) → (u ≡ true → (65 ≤ c) × (c ≤ 70))
        → cond t (c - 48) (cond u (c - 55) 16) ≡ 16
    go true u l g = absurd (n (l refl).0 (l refl).1)
    go false true l g = absurd (m (g refl).0 (g refl).1)
    go false false l g = refl

pub digit_value_lem : (c : ℕ) → digit_value c < 16 → hex_digit (digit_value c) ≡ c
unfolding digit_value hex_digit
digit_value_lem c = go (leb 48 c && leb c 57) (leb 65 c && leb c 70) (within c 48 57) (within c 65 70)
  where
    go : (t u : Bool) → (t ≡ true → (48 ≤ c) × (c ≤ 57)) → (u ≡ true → (65 ≤ c) × (c ≤ 70))
        → cond t (c - 48) (cond u (c - 55) 16) < 16
        → hex_digit (cond t (c - 48) (cond u (c - 55) 16)) ≡ c
    go true u l g h =
        let b = l refl in
        ap (λ (x : Bool). cond x (48 + (c - 48)) (55 + (c - 48))) (lt-ltb (c - 48) 10 (omega arith)) ∙ omega arith
    go false true l g h =
        let b = g refl in
        ap (λ (x : Bool). cond x (48 + (c - 55)) (55 + (c - 55))) (le-ltb (c - 55) 10 (omega arith)) ∙ omega arith
    go false false l g h = absurd (omega arith)

-- ---- the last k digits of a number
pub length_hex_of : (k v : ℕ) → length (hex_of k v) ≡ k
unfolding hex_of
length_hex_of zero v = refl
length_hex_of (suc k) v = ap suc (length_hex_of k v)

pub all_hex_hex_of : (k v : ℕ) → all_hex (hex_of k v) ≡ true
unfolding hex_of all_hex
all_hex_hex_of zero v = refl
all_hex_hex_of (suc k) v =
    let d : v / 16 ^ k % 16 < 16 = omega arith in
    ap₂ (λ (s t : Bool). s && t)
    (lt-ltb (digit_value (hex_digit (v / 16 ^ k % 16))) 16 (omega (arith, value_digit (v / 16 ^ k % 16) d)))
    (all_hex_hex_of k v)

-- what stands above them does not count
above : (k q w : ℕ) → hex_of k (q * 16 ^ k + w) ≡ hex_of k w
unfolding hex_of
above zero q w = refl
above (suc k) q w =
    let p = 16 ^ k in
    let x : q * 16 ^ suc k + w ≡ q * 16 * p + w =
    ap (λ (y : ℕ). q * y + w) (pow-succ' 16 k) ∙ ap (λ (y : ℕ). y + w) (sym (mul_assoc q 16 p)) in
    let d : (q * 16 * p + w) / p ≡ w / p + q * 16 =
    ap (λ (y : ℕ). y / p) (add_comm (q * 16 * p) w) ∙ add-mul-div_right w (q * 16) (pow_pos k) in
    let m : (w / p + q * 16) % 16 ≡ w / p % 16 = omega arith in
    ap (λ (y : ℕ). hex_digit (y / p % 16) ∷ hex_of k y) x
    ∙ ap₂ (λ (y : ℕ) (s : List ℕ). hex_digit y ∷ s) (ap (λ (y : ℕ). y % 16) d ∙ m) (above k (q * 16) w)

pub hex_of_mod : (k v : ℕ) → hex_of k (v % 16 ^ k) ≡ hex_of k v
hex_of_mod k v = sym (above k (v / 16 ^ k) (v % 16 ^ k)) ∙ ap (hex_of k) (div-add-mod' v (16 ^ k))

-- one digit more in front of a list whose last n - i are those of v
pub hex_of_front : (l : List ℕ) (i n v : ℕ) → 0 < i → i ≤ n → length l ≡ n → drop i l ≡ hex_of (n - i) v
    → drop (i - 1) (set l (i - 1) (hex_digit (v / 16 ^ (n - i) % 16))) ≡ hex_of (n - (i - 1)) v
unfolding hex_of
hex_of_front l zero n v p h e q = absurd (omega arith)
hex_of_front l (suc j) n v p h e q =
    let a = hex_digit (v / 16 ^ (n - suc j) % 16) in
    let k : n - j ≡ suc (n - suc j) = omega arith in
    let m : suc j - 1 ≡ j = omega arith in
    let b : j < length l = omega arith in
    ap (λ (x : ℕ). drop x (set l x a)) m
    ∙ drop-cons (set l j a) j 0 (lt-length-set l j a b)
    ∙ ap₂ (λ (x : ℕ) (t : List ℕ). x ∷ t) (get_or-set_same l j a 0 b)
    (drop-set-lt (suc j) l j a (omega arith) ∙ q)
    ∙ ap (λ (x : ℕ). hex_of x v) (sym k)
    ∙ ap (λ (x : ℕ). hex_of (n - x) v) (sym m)

pub div_pow : (v k : ℕ) → v / 16 ^ k / 16 ≡ v / 16 ^ suc k
div_pow v k = div-div-eq-div-mul v (16 ^ k) 16 ∙ ap (λ (x : ℕ). v / x) (sym (pow-suc 16 k))

-- ---- both ways
pub hex_value_hex_of : (k v : ℕ) → hex_value (hex_of k v) ≡ v % 16 ^ k
unfolding hex_of hex_value
hex_value_hex_of zero v = sym (mod-one v)
hex_value_hex_of (suc k) v =
    let d : v / 16 ^ k % 16 < 16 = omega arith in
    ap₂ (λ (x y : ℕ). x * 16 ^ y + hex_value (hex_of k v)) (value_digit (v / 16 ^ k % 16) d) (length_hex_of k v)
    ∙ ap (λ (y : ℕ). v / 16 ^ k % 16 * 16 ^ k + y) (hex_value_hex_of k v)
    ∙ sym (mod-mul v {m = 16} {c = 16 ^ k} (omega arith) (pow_pos k))
    ∙ ap (λ (y : ℕ). v % y) (sym (pow-succ' 16 k))

module _ (c : ℕ) (s : List ℕ) (h : all_hex (c ∷ s) ≡ true) where
  first : digit_value c < 16
  unfolding all_hex
  first = ltb-true (digit_value c) 16 (and_true (ltb (digit_value c) 16) (all_hex s) h).0

  others : all_hex s ≡ true
  unfolding all_hex
  others = (and_true (ltb (digit_value c) 16) (all_hex s) h).1

pub hex_value_lt : (s : List ℕ) → all_hex s ≡ true → hex_value s < 16 ^ length s
unfolding hex_value
hex_value_lt [] h = omega arith
hex_value_lt (c ∷ s) h =
    subst (λ (y : ℕ). digit_value c * 16 ^ length s + hex_value s < y) (sym (pow-succ' 16 (length s)))
    (digits_lt (first c s h) (hex_value_lt s (others c s h)))

pub hex_of_hex_value : (s : List ℕ) → all_hex s ≡ true → hex_of (length s) (hex_value s) ≡ s
unfolding hex_of hex_value
hex_of_hex_value [] h = refl
hex_of_hex_value (c ∷ s) h =
    let d = digit_value c in
    let l = hex_value_lt s (others c s h) in
    ap₂ (λ (x : ℕ) (t : List ℕ). hex_digit x ∷ t)
    (ap (λ (y : ℕ). y % 16) (digits_div d l) ∙ mod-eq_of_lt (first c s h))
    (above (length s) d (hex_value s) ∙ hex_of_hex_value s (others c s h))
    ∙ ap (λ (x : ℕ). x ∷ s) (digit_value_lem c (first c s h))

-- ---- the digits that are left, from the i-th on
module _ (s : List ℕ) (i : ℕ) (h : i < length s) where
  next : drop i s ≡ get_or s i 0 ∷ drop (i + 1) s
  next = rw (add-one, drop-cons s i 0)

  pub all_hex_drop : all_hex (drop i s) ≡ (ltb (digit_value (get_or s i 0)) 16 && all_hex (drop (i + 1) s))
  unfolding all_hex
  all_hex_drop = ap all_hex next

  -- v so far
  pub hex_value_drop : (v : ℕ)
      → v * 16 ^ length (drop i s) + hex_value (drop i s)
      ≡ (v * 16 + digit_value (get_or s i 0)) * 16 ^ length (drop (i + 1) s) + hex_value (drop (i + 1) s)
  unfolding hex_value
  hex_value_drop v =
      let d = digit_value (get_or s i 0) in
      let t = drop (i + 1) s in
      let p = 16 ^ length t in
      ap (λ (x : List ℕ). v * 16 ^ length x + hex_value x) next
      ∙ ap (λ (x : ℕ). x + (d * p + hex_value t))
      (ap (λ (x : ℕ). v * x) (pow-succ' 16 (length t)) ∙ sym (mul_assoc v 16 p))
      ∙ sym (add_assoc (v * 16 * p) (d * p) (hex_value t))
      ∙ ap (λ (x : ℕ). x + hex_value t) (sym (add-mul (v * 16) d p))

pub more_lt : (v i d : ℕ) → v < 16 ^ i → d < 16 → v * 16 + d < 16 ^ (i + 1)
more_lt v i d h k = rw (add-one, pow-suc) (digits_lt h k)

pub lt_16_digits : (v i : ℕ) → v < 16 ^ i → i < 16 → v < 16 ^ 15
lt_16_digits v i h k = lt_of_lt_of_le h (pow-le-pow_right {n = 16} (omega arith) {i = i} {j = 15} (omega arith))

-- ---- a text of 1 to 16 digits
pub read_hex_hex_of : (k v : ℕ) → 1 ≤ k → k ≤ 16 → read_hex (hex_of k v) ≡ Some (v % 16 ^ k)
unfolding read_hex
read_hex_hex_of k v h l =
    ap (λ (n : ℕ). cond (leb 1 n && leb n 16 && all_hex (hex_of k v)) (Some (hex_value (hex_of k v))) None)
    (length_hex_of k v)
    ∙ simp (le-leb 1 k h, le-leb k 16 l, all_hex_hex_of k v, hex_value_hex_of k v)

-- what is known of a text that stands for v
pub record Reads (s : List ℕ) (v : ℕ) : Type 0 where
  pub some : 1 ≤ length s
  pub most : length s ≤ 16
  pub digits : all_hex s ≡ true
  pub value : hex_value s ≡ v
  pub below : v < 16 ^ length s
  pub back : hex_of (length s) v ≡ s

pub read_hex_reads : (s : List ℕ) (v : ℕ) → read_hex s ≡ Some v → Reads s v
unfolding read_hex
read_hex_reads s v =
    go (leb 1 (length s)) (leb (length s) 16) (all_hex s) (leb-true 1 (length s)) (leb-true (length s) 16) (λ e. e)
  where
    differ : None ≡ Some v → ⊥
    differ h = let z : ◌≡◌ {A = ℕ} 0 1 = cc in omega arith

    go : (t u w : Bool) → (t ≡ true → 1 ≤ length s) → (u ≡ true → length s ≤ 16)
        → (w ≡ true → all_hex s ≡ true) → cond (t && u && w) (Some (hex_value s)) None ≡ Some v
        → Reads s v
    go true true true a b c h =
        let d = c refl in
        let e : hex_value s ≡ v = cc in
        record {
          some = a refl;
          most = b refl;
          digits = d;
          value = e;
          below = subst (λ (x : ℕ). x < 16 ^ length s) e (hex_value_lt s d);
          back = ap (hex_of (length s)) (sym e) ∙ hex_of_hex_value s d;
        }
    go true true false a b c h = absurd (differ h)
    go true false w a b c h = absurd (differ h)
    go false u w a b c h = absurd (differ h)

pub read_hex_lt : (k : ℕ) (s : List ℕ) {v : ℕ} → length s ≡ k → read_hex s ≡ Some v → v < 16 ^ k
read_hex_lt k s {v} e h = subst (λ (n : ℕ). v < 16 ^ n) e (read_hex_reads s v h).below
