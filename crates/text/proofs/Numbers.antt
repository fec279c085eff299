-- The lines with numbers, both ways.
use mathlib.Core.Path.{◌≡◌, refl, sym, ap, ◌∙◌, subst}
use mathlib.Core.Bool.{false}
use mathlib.Core.List.{List, [], ◌∷◌}
use Rattle.std.specs.Prelude.{Option, None, Some}
use Prim.Native.Nat.{ℕ, zero, suc, ◌+◌, ◌-◌, ◌/◌, ◌%◌, ◌^◌, ◌≤◌, ◌<◌}
use native.Mathlib.Nat.{mod-eq_of_lt}
use native.Mathlib.Omega.{arith}
use lib.Dec.{eqb}
use lib.ListN.{length, get_or, drop}
use lib.IntN.{ℤ, pos, negsuc}
use lib.Signed.{mag}
use borrow.Author.Tests.{eqb-true, eq-eqb, ne_eqb}
use Rattle.float.specs.Hex.{hex_digit, hex_of, read_hex}
use Rattle.float.proofs.Digits.{length_hex_of, read_hex_hex_of, read_hex_reads}
use Rattle.text.specs.Decimal.{decimal_onto, decimal_of, decimal_z, read_decimal, read_signed, negative, non_negative}
use Rattle.text.specs.Line.{line, line_of, starts_with, read_hex_digits, decimal_line, signed_line, hex_line}
use Rattle.text.proofs.Cases.{by_bool, by_lt, some_none}
use Rattle.text.proofs.Decimals.{onto_short, onto_more, decimal_first, decimal_complete, decimal_sound}
use Rattle.text.proofs.Lines.{Spells, Reads, keyed_spells, first_reads}

-- ---- no digit is an LF
clean_cons : (c : ℕ) (s : List ℕ) → 10 < c → line_of s ≡ None → line_of (c ∷ s) ≡ None
unfolding line_of
clean_cons c s h l = simp (ne_eqb c 10 (λ z. omega arith), l)

clean_onto : (k n : ℕ) (s : List ℕ) → line_of s ≡ None → line_of (decimal_onto k n s) ≡ None
unfolding decimal_onto
clean_onto zero n s h = clean_cons (48 + n) s (omega arith) h
clean_onto (suc k) n s h =
    by_lt n 10 (λ b. rw (onto_short (suc k) n s b) (clean_cons (48 + n) s (omega arith) h))
    (λ b. rw (onto_more k n s b) (clean_onto k (n / 10) ((48 + n % 10) ∷ s) (clean_cons (48 + n % 10) s (omega arith) h)))

clean_decimal : (n : ℕ) → line_of (decimal_of n) ≡ None
unfolding decimal_of line_of
clean_decimal n = clean_onto n n [] refl

clean_signed : (z : ℤ) → line_of (decimal_z z) ≡ None
unfolding decimal_z
clean_signed (pos n) = clean_decimal n
clean_signed (negsuc n) = clean_cons 45 (decimal_of (suc n)) (omega arith) (clean_decimal (suc n))

above_lf : (d : ℕ) → 10 < hex_digit d
unfolding hex_digit
above_lf d = by_bool (lib.Dec.ltb d 10) (λ t. rw t (omega arith)) (λ t. rw t (omega arith))

clean_hex : (k v : ℕ) → line_of (hex_of k v) ≡ None
unfolding hex_of line_of
clean_hex zero v = refl
clean_hex (suc k) v = clean_cons (hex_digit (v / 16 ^ k % 16)) (hex_of k v) (above_lf (v / 16 ^ k % 16)) (clean_hex k v)

-- ---- numbers
decimal_spells : (max : ℕ) → Spells (read_decimal max) decimal_of (λ n. n ≤ max)
decimal_spells max =
    record {
      complete = λ n h. decimal_complete max n h;
      sound = λ n s h. let w = decimal_sound max n s h in (w.1, w.0);
      clean = λ n h. clean_decimal n;
    }

hex_sound : (k v : ℕ) (s : List ℕ) → read_hex_digits k s ≡ Some v → (v < 16 ^ k) × (s ≡ hex_of k v)
unfolding read_hex_digits
hex_sound k v s h =
    by_bool (eqb (length s) k)
    (λ t.
    let l = eqb-true (length s) k t in
    let r = read_hex_reads s v (simp t at h) in
    (subst (λ (i : ℕ). v < 16 ^ i) l r.below, sym r.back ∙ ap (λ (i : ℕ). hex_of i v) l))
    (λ t. some_none (read_hex_digits k s) v h (simp t))

pub hex_digits : (k : ℕ) (s : List ℕ) → length s ≡ k → read_hex_digits k s ≡ read_hex s
unfolding read_hex_digits
hex_digits k s h = simp (eq-eqb (length s) k h)

pub hex_other : (k : ℕ) (s : List ℕ) → (length s ≡ k → ⊥) → read_hex_digits k s ≡ None
unfolding read_hex_digits
hex_other k s h = simp (ne_eqb (length s) k h)

hex_spells : (k : ℕ) → 1 ≤ k → k ≤ 16 → Spells (read_hex_digits k) (hex_of k) (λ v. v < 16 ^ k)
hex_spells k h l =
    record {
      complete = λ v o. hex_digits k (hex_of k v) (length_hex_of k v) ∙ read_hex_hex_of k v h l ∙ ap Some (mod-eq_of_lt o);
      sound = hex_sound k;
      clean = λ v o. clean_hex k v;
    }

signed_complete : (z : ℤ) → mag z < 2 ^ 31 → read_signed (decimal_z z) ≡ Some z
unfolding read_signed decimal_z negative non_negative
signed_complete (pos n) h =
    simp
    (ne_eqb (get_or (decimal_of n) 0 0) 45 (λ e. omega (arith, decimal_first n)), decimal_complete (2 ^ 31 - 1) n (omega arith))
signed_complete (negsuc n) h = simp (decimal_complete (2 ^ 31) (suc n) h)

negative_sound : (o : Option ℕ) (z : ℤ) → negative o ≡ Some z
    → (n : ℕ) × (o ≡ Some (suc n)) × (negsuc n ≡ z)
unfolding negative
negative_sound None z h = some_none (Some z) z refl (sym h)
negative_sound (Some zero) z h = some_none (Some z) z refl (sym h)
negative_sound (Some (suc n)) z h = (n, refl, (cc))

non_negative_sound : (o : Option ℕ) (z : ℤ) → non_negative o ≡ Some z
    → (n : ℕ) × (o ≡ Some n) × (pos n ≡ z)
unfolding non_negative
non_negative_sound None z h = some_none (Some z) z refl (sym h)
non_negative_sound (Some n) z h = (n, refl, (cc))

-- which of the two a text is
signed_minus : (s : List ℕ) → read_signed (45 ∷ s) ≡ negative (read_decimal (2 ^ 31) s)
unfolding read_signed
signed_minus s = refl

pub signed_empty : (s : List ℕ) → length s ≡ 0 → read_signed s ≡ None
unfolding read_signed
signed_empty [] h = refl
signed_empty (c ∷ s) h = absurd (omega arith)

pub signed_first : (s : List ℕ) → get_or s 0 0 ≡ 45 → read_signed s ≡ negative (read_decimal (2 ^ 31) (drop 1 s))
unfolding read_signed
signed_first s h = simp (eq-eqb (get_or s 0 0) 45 h)

-- whether a text begins with `-`
pub minus_first : (s : List ℕ) → starts_with (45 ∷ []) s ≡ eqb (get_or s 0 0) 45
unfolding starts_with
minus_first [] = refl
minus_first (c ∷ s) = by_bool (eqb c 45) (λ t. simp t) (λ t. simp t)

pub negative_is : (n : ℕ) → (n ≡ 0 → ⊥) → negative (Some n) ≡ Some (negsuc (n - 1))
unfolding negative
negative_is zero h = absurd (h refl)
negative_is (suc n) h = let e : suc n - 1 ≡ n = omega arith in ap (λ (k : ℕ). Some (negsuc k)) (sym e)

pub signed_plain : (s : List ℕ) → eqb (get_or s 0 0) 45 ≡ false
    → read_signed s ≡ non_negative (read_decimal (2 ^ 31 - 1) s)
unfolding read_signed
signed_plain s h = simp h

plain_sound : (z : ℤ) (s : List ℕ) → eqb (get_or s 0 0) 45 ≡ false → read_signed s ≡ Some z
    → (mag z < 2 ^ 31) × (s ≡ decimal_z z)
unfolding decimal_z
plain_sound z s t h =
    let w = non_negative_sound (read_decimal (2 ^ 31 - 1) s) z (sym (signed_plain s t) ∙ h) in
    let d = decimal_sound (2 ^ 31 - 1) w.0 s w.1 in
    subst (λ (z : ℤ). (mag z < 2 ^ 31) × (s ≡ decimal_z z)) w.2 (omega arith, d.0)

pub signed_sound : (z : ℤ) (s : List ℕ) → read_signed s ≡ Some z → (mag z < 2 ^ 31) × (s ≡ decimal_z z)
unfolding decimal_z
signed_sound z [] h = plain_sound z [] refl h
signed_sound z (c ∷ s) h =
    by_bool (eqb c 45)
    (λ t.
    let e = eqb-true c 45 t in
    let w =
    negative_sound (read_decimal (2 ^ 31) s) z
    (sym (signed_minus s) ∙ ap (λ (x : ℕ). read_signed (x ∷ s)) (sym e) ∙ h) in
    let d = decimal_sound (2 ^ 31) (suc w.0) s w.1 in
    subst (λ (z : ℤ). (mag z < 2 ^ 31) × (c ∷ s ≡ decimal_z z)) w.2
    (omega arith, ap (λ (x : ℕ). x ∷ s) e ∙ ap (λ (x : List ℕ). 45 ∷ x) d.0))
    (λ t. plain_sound z (c ∷ s) t h)

signed_spells : Spells read_signed decimal_z (λ z. mag z < 2 ^ 31)
signed_spells = record { complete = signed_complete; sound = signed_sound; clean = λ z h. clean_signed z }

-- ---- lines
module _ (key : List ℕ) (clean : line_of key ≡ None) where
  pub decimal_line_reads : (max : ℕ) → Reads (decimal_line key max) (λ n. line key (decimal_of n)) (λ n. n ≤ max)
  unfolding decimal_line
  decimal_line_reads max = first_reads _ _ _ (keyed_spells _ _ _ key clean (decimal_spells max))

  pub signed_line_reads : Reads (signed_line key) (λ z. line key (decimal_z z)) (λ z. mag z < 2 ^ 31)
  unfolding signed_line
  signed_line_reads = first_reads _ _ _ (keyed_spells _ _ _ key clean signed_spells)

  pub hex_line_reads : (k : ℕ) → 1 ≤ k → k ≤ 16
      → Reads (hex_line key k) (λ v. line key (hex_of k v)) (λ v. v < 16 ^ k)
  unfolding hex_line
  hex_line_reads k h l = first_reads _ _ _ (keyed_spells _ _ _ key clean (hex_spells k h l))
