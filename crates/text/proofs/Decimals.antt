-- Decimal digits both ways.
use mathlib.Core.Path.{◌≡◌, refl, sym, ap, ◌∙◌, subst}
use mathlib.Core.Bool.{true, false}
use mathlib.Core.List.{List, [], ◌∷◌}
use Rattle.std.specs.Prelude.{None, Some}
use Prim.Native.Nat.{ℕ, zero, suc, ◌+◌, ◌-◌, ◌*◌, ◌/◌, ◌%◌, ◌^◌, ◌≤◌, ◌<◌}
use native.Mathlib.Omega.{arith}
use native.Mathlib.Numerals.{add-one}
use lib.Dec.{leb, eqb}
use lib.ListN.{length, get_or}
use borrow.Author.Tests.{leb-true, lt-ltb, le-ltb, le-leb, lt-leb, eqb-false, eq-eqb, ne_eqb}
use Rattle.text.specs.Decimal.{decimal_onto, decimal_of, is_digit, read_from, read_decimal}
use Rattle.float.proofs.Order.{and_true}
use Rattle.text.proofs.Cases.{by_bool, by_lt, some_none, and_false}

-- ---- a number's digits
pub onto_short : (k n : ℕ) (s : List ℕ) → n < 10 → decimal_onto k n s ≡ (48 + n) ∷ s
unfolding decimal_onto
onto_short zero n s h = refl
onto_short (suc k) n s h = simp (lt-ltb n 10 h)

pub onto_more : (k n : ℕ) (s : List ℕ) → 10 ≤ n
    → decimal_onto (suc k) n s ≡ decimal_onto k (n / 10) ((48 + n % 10) ∷ s)
unfolding decimal_onto
onto_more k n s h = simp (le-ltb n 10 h)

-- k needs only be large enough
onto_any : (k j n : ℕ) (s : List ℕ) → n ≤ k → n ≤ j → decimal_onto k n s ≡ decimal_onto j n s
onto_any zero j n s h l = onto_short zero n s (omega arith) ∙ sym (onto_short j n s (omega arith))
onto_any (suc k) zero n s h l = onto_short (suc k) n s (omega arith) ∙ sym (onto_short zero n s (omega arith))
onto_any (suc k) (suc j) n s h l =
    by_lt n 10 (λ b. onto_short (suc k) n s b ∙ sym (onto_short (suc j) n s b))
    (λ b. onto_more k n s b ∙ onto_any k j (n / 10) ((48 + n % 10) ∷ s) (omega arith) (omega arith) ∙ sym (onto_more j n s b))

pub onto_long : (n : ℕ) (s : List ℕ) → 10 ≤ n
    → decimal_onto n n s ≡ decimal_onto (n / 10) (n / 10) ((48 + n % 10) ∷ s)
onto_long zero s h = absurd (omega arith)
onto_long (suc n) s h =
    onto_more n (suc n) s h
    ∙ onto_any n (suc n / 10) (suc n / 10) ((48 + suc n % 10) ∷ s) (omega arith) (omega arith)

onto_digit : (v d : ℕ) (s : List ℕ) → 1 ≤ v → d < 10
    → decimal_onto (v * 10 + d) (v * 10 + d) s ≡ decimal_onto v v ((48 + d) ∷ s)
onto_digit v d s h l =
    let q : (v * 10 + d) / 10 ≡ v = omega arith in
    let r : (v * 10 + d) % 10 ≡ d = omega arith in
    onto_long (v * 10 + d) s (omega arith)
    ∙ ap (λ (x : ℕ). decimal_onto x x ((48 + (v * 10 + d) % 10) ∷ s)) q
    ∙ ap (λ (x : ℕ). decimal_onto v v ((48 + x) ∷ s)) r

-- ---- reading
digit_is : (c : ℕ) → is_digit c ≡ true → (48 ≤ c) × (c ≤ 57)
unfolding is_digit
digit_is c h = let t = and_true (leb 48 c) (leb c 57) h in (leb-true 48 c t.0, leb-true c 57 t.1)

pub is_digit_lem : (c : ℕ) → 48 ≤ c → c ≤ 57 → is_digit c ≡ true
unfolding is_digit
is_digit_lem c h l = simp (le-leb 48 c h, le-leb c 57 l)

module _ (max v : ℕ) where
  pub from_end : v ≤ max → read_from max v [] ≡ Some v
  unfolding read_from
  from_end h = simp (le-leb v max h)

  pub from_digit : (c : ℕ) (s : List ℕ) → 48 ≤ c → c ≤ 57
      → read_from max v (c ∷ s) ≡ read_from max (v * 10 + (c - 48)) s
  unfolding read_from
  from_digit c s h l = simp (is_digit_lem c h l)

  pub from_other : (c : ℕ) (s : List ℕ) → is_digit c ≡ false → read_from max v (c ∷ s) ≡ None
  unfolding read_from
  from_other c s h = simp h

  pub from_next : (c : ℕ) (s : List ℕ) → is_digit c ≡ true
      → read_from max v (c ∷ s) ≡ read_from max (v * 10 + (c - 48)) s
  unfolding read_from
  from_next c s h = simp h

  end_sound : (n : ℕ) → read_from max v [] ≡ Some n → (v ≡ n) × (n ≤ max)
  unfolding read_from
  end_sound n h =
      by_bool (leb v max) (λ t. let e : v ≡ n = cc in (e, subst (λ (x : ℕ). x ≤ max) e (leb-true v max t)))
      (λ t. let z : ◌≡◌ {A = ℕ} 0 1 = cc in absurd (omega arith))

  digit_sound : (c n : ℕ) (s : List ℕ) → read_from max v (c ∷ s) ≡ Some n
      → (48 ≤ c) × (c ≤ 57) × (read_from max (v * 10 + (c - 48)) s ≡ Some n)
  unfolding read_from
  digit_sound c n s h =
      by_bool (is_digit c) (λ t. let d = digit_is c t in (d.0, d.1, (cc)))
      (λ t. let z : ◌≡◌ {A = ℕ} 0 1 = cc in absurd (omega arith))

-- what is above max stays so
pub from_over : (max v : ℕ) (s : List ℕ) → max < v → read_from max v s ≡ None
unfolding read_from
from_over max v [] h = simp (lt-leb v max h)
from_over max v (c ∷ s) h =
    by_bool (is_digit c) (λ t. simp (t, from_over max (v * 10 + (c - 48)) s (omega arith))) (λ t. simp t)

-- v's digits and then s are those of the number that is read
from_sound : (max v n : ℕ) (s : List ℕ) → 1 ≤ v → read_from max v s ≡ Some n
    → (decimal_onto v v s ≡ decimal_of n) × (n ≤ max)
unfolding decimal_of
from_sound max v n [] p h = let e = end_sound max v n h in (ap (λ (x : ℕ). decimal_onto x x []) e.0, e.1)
from_sound max v n (c ∷ s) p h =
    let d = digit_sound max v c n s h in
    let r = from_sound max (v * 10 + (c - 48)) n s (omega arith) d.2 in
    let e : 48 + (c - 48) ≡ c = omega arith in
    (ap (λ (x : ℕ). decimal_onto v v (x ∷ s)) (sym e) ∙ sym (onto_digit v (c - 48) s p (omega arith)) ∙ r.0, r.1)

-- reading v's digits and then s is reading s from v
from_short : (max k v : ℕ) (s : List ℕ) → v < 10 → read_from max 0 (decimal_onto k v s) ≡ read_from max v s
from_short max k v s b =
    let e : 0 * 10 + (48 + v - 48) ≡ v = omega arith in
    ap (read_from max 0) (onto_short k v s b)
    ∙ from_digit max 0 (48 + v) s (omega arith) (omega arith)
    ∙ ap (λ (x : ℕ). read_from max x s) e

from_onto : (max k v : ℕ) (s : List ℕ) → v ≤ k → read_from max 0 (decimal_onto k v s) ≡ read_from max v s
from_onto max zero v s h = from_short max zero v s (omega arith)
from_onto max (suc k) v s h =
    let e : v / 10 * 10 + (48 + v % 10 - 48) ≡ v = omega arith in
    by_lt v 10 (from_short max (suc k) v s)
    (λ b.
    ap (read_from max 0) (onto_more k v s b)
    ∙ from_onto max k (v / 10) ((48 + v % 10) ∷ s) (omega arith)
    ∙ from_digit max (v / 10) (48 + v % 10) s (omega arith) (omega arith)
    ∙ ap (λ (x : ℕ). read_from max x s) e)

-- there is a digit, and the first is `0` for 0 alone
pub onto_length : (k n : ℕ) (s : List ℕ) → length s < length (decimal_onto k n s)
unfolding decimal_onto
onto_length zero n s = omega arith
onto_length (suc k) n s =
    by_lt n 10 (λ b. rw (onto_short (suc k) n s b) (omega arith))
    (λ b. rw (onto_more k n s b) (omega (arith, onto_length k (n / 10) ((48 + n % 10) ∷ s))))

onto_first : (k n : ℕ) (s : List ℕ) → 1 ≤ n → n ≤ k → 48 < get_or (decimal_onto k n s) 0 0
onto_first zero n s p h = absurd (omega arith)
onto_first (suc k) n s p h =
    by_lt n 10 (λ b. rw (onto_short (suc k) n s b) (omega arith))
    (λ b. rw (onto_more k n s b) (onto_first k (n / 10) ((48 + n % 10) ∷ s) (omega arith) (omega arith)))

pub decimal_first : (n : ℕ) → 48 ≤ get_or (decimal_of n) 0 0
unfolding decimal_of decimal_onto
decimal_first zero = omega arith
decimal_first (suc n) = omega (arith, onto_first (suc n) (suc n) [] (omega arith) (omega arith))

-- ---- which texts are none
module _ (max : ℕ) (s : List ℕ) where
  pub read_empty : length s ≡ 0 → read_decimal max s ≡ None
  unfolding read_decimal
  read_empty h = simp (eq-eqb (length s) 0 h)

  pub read_zero : 1 < length s → get_or s 0 0 ≡ 48 → read_decimal max s ≡ None
  unfolding read_decimal
  read_zero h z = simp (ne_eqb (length s) 0 (λ e. omega arith), lt-ltb 1 (length s) h, eq-eqb (get_or s 0 0) 48 z)

  pub read_one : (length s ≡ 0 → ⊥) → length s ≤ 1 → read_decimal max s ≡ read_from max 0 s
  unfolding read_decimal
  read_one h l = simp (ne_eqb (length s) 0 h, le-ltb 1 (length s) l)

  pub read_more : 1 < length s → (get_or s 0 0 ≡ 48 → ⊥) → read_decimal max s ≡ read_from max 0 s
  unfolding read_decimal
  read_more h z = simp (ne_eqb (length s) 0 (λ e. omega arith), lt-ltb 1 (length s) h, ne_eqb (get_or s 0 0) 48 z)

-- ---- both ways
pub decimal_complete : (max n : ℕ) → n ≤ max → read_decimal max (decimal_of n) ≡ Some n
unfolding read_decimal decimal_of decimal_onto
decimal_complete max zero h = from_end max 0 h
decimal_complete max (suc n) h =
    simp (
      ne_eqb (length (decimal_onto (suc n) (suc n) [])) 0 (omega (arith, onto_length (suc n) (suc n) [])),
      ne_eqb (get_or (decimal_onto (suc n) (suc n) []) 0 0) 48
          (λ z. omega (arith, onto_first (suc n) (suc n) [] (omega arith) (omega arith))),
      and_false,
      from_onto max (suc n) (suc n) [] (omega arith),
    )
    (from_end max (suc n) h)

pub decimal_sound : (max n : ℕ) (s : List ℕ) → read_decimal max s ≡ Some n → (s ≡ decimal_of n) × (n ≤ max)
unfolding read_decimal decimal_of
decimal_sound max n [] h = let z : ◌≡◌ {A = ℕ} 0 1 = cc in absurd (omega arith)
decimal_sound max n (c ∷ []) h =
    let d = digit_sound max 0 c n [] h in
    let e = end_sound max (0 * 10 + (c - 48)) n d.2 in
    let x : 48 + n ≡ c = omega arith in
    (sym (onto_short n n [] (omega arith) ∙ ap (λ (y : ℕ). y ∷ []) x), e.1)
decimal_sound max n (c ∷ b ∷ s) h =
    let g =
    simp (ne_eqb (suc (suc (length s))) 0 (λ z. omega arith), lt-ltb 1 (suc (suc (length s))) (omega arith)) at h in
    by_bool (eqb c 48) (λ t. some_none (Some n) n refl (sym (simp t at g)))
    (λ t.
    let d = digit_sound max 0 c n (b ∷ s) (simp t at g) in
    let v = 0 * 10 + (c - 48) in
    let p : 1 ≤ v = omega (arith, eqb-false c 48 t) in
    let x : 48 + v ≡ c = omega arith in
    let r = from_sound max v n (b ∷ s) p d.2 in
    (sym (onto_short v v (b ∷ s) (omega arith) ∙ ap (λ (y : ℕ). y ∷ b ∷ s) x) ∙ r.0, r.1))

-- a number below 10 ^ (k + 1) has at most k + 1 digits
onto_most : (k j n : ℕ) (s : List ℕ) → n < 10 ^ suc k → length (decimal_onto j n s) ≤ suc k + length s
unfolding decimal_onto
onto_most k zero n s h = omega arith
onto_most zero (suc j) n s h = rw (onto_short (suc j) n s (omega arith)) (omega arith)
onto_most (suc k) (suc j) n s h =
    by_lt n 10 (λ b. rw (onto_short (suc j) n s b) (omega arith))
    (λ b. rw (onto_more j n s b) (omega (arith, onto_most k j (n / 10) ((48 + n % 10) ∷ s) (omega arith))))

pub decimal_length : (k n : ℕ) → n < 10 ^ suc k → length (decimal_of n) ≤ suc k
unfolding decimal_of
decimal_length k n h = omega (arith, onto_most k n n [] h)

-- a digit less
pub tenth_lt : (i n : ℕ) → n < 10 ^ (i + 1) → 10 ≤ n → (1 ≤ i) × (n / 10 < 10 ^ (i - 1 + 1))
tenth_lt zero n h l = absurd (omega arith)
tenth_lt (suc i) n h l =
    let p : n < 10 ^ suc (suc i) = subst (λ (k : ℕ). n < 10 ^ k) (add-one (suc i)) h in
    let q : n / 10 < 10 ^ suc i = omega arith in
    let e : suc i ≡ suc i - 1 + 1 = omega arith in
    (omega arith, subst (λ (k : ℕ). n / 10 < 10 ^ k) e q)
