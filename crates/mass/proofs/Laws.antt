-- Laws of VALID_AA and of a letter's column.
use mathlib.Core.Path.{◌≡◌, refl, sym, ap, ◌∙◌}
use mathlib.Core.Bool.{Bool, true, false, cond, ◌&&◌, true≢false, and-eq-true_iff}
use mathlib.Core.List.{List, [], ◌∷◌}
use Prim.Native.Nat.{ℕ, suc, ◌+◌, ◌≤◌, ◌<◌}
use native.Mathlib.Omega.{arith}
use lib.Dec.{eqb, leb, lit<}
use borrow.Author.Tests.{leb-true, ne_eqb}
use lib.ListN.{length}
use Rattle.mass.specs.Mass.{valid_aa, place_from, column_of, is_letter}

-- a place is below every bound that is above 0 and not below the places looked at
place_below : (n i b : ℕ) (xs : List ℕ) → 0 < n → i + length xs ≤ n → place_from i b xs < n
unfolding place_from
place_below n i b [] h l = h
place_below n i b (x ∷ xs) h l = pick (eqb b x) (omega arith) (place_below n (suc i) b xs h (omega arith))
  where
    pick : (t : Bool) {j k : ℕ} → j < n → k < n → cond t j k < n
    pick true p q = p
    pick false p q = q

-- a column is one of 22, whatever the byte
pub column_below : (b : ℕ) → column_of b < 22
unfolding column_of valid_aa
column_below b = place_below 22 0 b valid_aa (lit< tt) (omega arith)

-- a letter's bounds
pub letter_bounds : (b : ℕ) → is_letter b ≡ true → (65 ≤ b) × (b ≤ 90)
letter_bounds b e =
    let h = (and-eq-true_iff (leb 65 b) (leb b 90)).0 e in
    (leb-true 65 b h.0, leb-true b 90 h.1)

-- whether all are letters
letters : List ℕ → Bool
letters [] = true
letters (x ∷ xs) = is_letter x && letters xs

-- a byte that is no letter stands nowhere among letters
not_placed : (b i : ℕ) (xs : List ℕ) → letters xs ≡ true → is_letter b ≡ false → place_from i b xs ≡ 0
unfolding place_from letters
not_placed b i [] l f = refl
not_placed b i (x ∷ xs) l f =
    let h = (and-eq-true_iff (is_letter x) (letters xs)).0 l in
    rw (ne_eqb b x (λ e. true≢false (sym h.0 ∙ ap is_letter (sym e) ∙ f))) (not_placed b (suc i) xs h.1 f)

-- it has column 0
pub no_letter_column : (b : ℕ) → is_letter b ≡ false → column_of b ≡ 0
unfolding column_of valid_aa letters
no_letter_column b f = not_placed b 0 valid_aa refl f
