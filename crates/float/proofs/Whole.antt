-- The sum of two whole numbers, each of which its format holds, is the whole number of their sum, rounded once.
use Rattle.std.proofs.Common.{◌≡◌, ℕ, ◌+◌, ◌*◌, ◌^◌, ◌≤◌, false, sym, ap, ◌∙◌, ap₂, zero-lt-suc, mul_assoc, mul_comm, add-mul, mul-pos, mul-one}
use lib.Ieee.{Float, nan, inf, fin, Format, up, down, binary64, round, add, of_int}
use lib.Ieee.Back.{round_whole}
use lib.Ieee.Exact.{HasValue}
use lib.Ieee.Positive.{den_pos}
use lib.Ieee.Scale.{round_same}
use Rattle.float.specs.Number.{number}

-- the sum of two fractions, over the product of what they are divided by
crossed : (a b p q x y : ℕ) → x * 1 ≡ a * p → y * 1 ≡ b * q → (x * q + y * p) * 1 ≡ (a + b) * (p * q)
crossed a b p q x y h k =
    mul-one (x * q + y * p)
    ∙ ap₂ (λ (s t : ℕ). s * q + t * p) (sym (mul-one x) ∙ h) (sym (mul-one y) ∙ k)
    ∙ ap₂ (λ (s t : ℕ). s + t) (mul_assoc a p q) (mul_assoc b q p ∙ ap (λ (s : ℕ). b * s) (mul_comm q p))
    ∙ sym (add-mul a b (p * q))

-- by whole numbers that the terms equal
add_whole : (f : Format) (x y : Float) (a b : ℕ) → HasValue x false a 1 → HasValue y false b 1
    → add f x y ≡ round f false (a + b) 1
unfolding add
add_whole f nan y a b h k = absurd h
add_whole f (inf s) y a b h k = absurd h
add_whole f (fin s m e) nan a b h k = absurd k
add_whole f (fin s m e) (inf t) a b h k = absurd k
add_whole f (fin s m e) (fin t n d) a b h k =
    rw (h.0, k.0)
    (round_same f false (m * up e * down d + n * up d * down e) (down e * down d) (a + b) 1
    (mul-pos (den_pos (fin false m e)) (den_pos (fin false n d)))
    (zero-lt-suc 0)
    (crossed a b (down e) (down d) (m * up e) (n * up d) h.1 k.1))

-- the whole numbers up to 2^53 among themselves
pub number_add : (a b : ℕ) → a ≤ 2 ^ 53 → b ≤ 2 ^ 53 → add binary64 (number a) (number b) ≡ number (a + b)
unfolding of_int
number_add a b h k =
    add_whole binary64 (number a) (number b) a b (round_whole binary64 false a h) (round_whole binary64 false b k)
