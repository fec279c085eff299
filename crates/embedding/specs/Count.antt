-- Counting in lists, and the part of a list at some positions. Definitions only.
use Rattle.std.specs.Prelude.{ℕ, zero, suc, ◌+◌, Bool, false, ◌||◌, cond, List, [], ◌∷◌, map, eqb}

-- how many elements pass the test
unfoldable pub how_many : {A : Type 0} → (A → Bool) → List A → ℕ
how_many p [] = 0
how_many p (x ∷ xs) = cond (p x) 1 0 + how_many p xs

-- whether n stands in the list
unfoldable pub one_of : List ℕ → ℕ → Bool
one_of [] n = false
one_of (k ∷ ks) n = eqb n k || one_of ks n

-- m numbers, from k on
unfoldable pub range : ℕ → ℕ → List ℕ
range k zero = []
range k (suc m) = k ∷ range (suc k) m

-- for each number of ks, how many elements of xs equal it
unfoldable pub tallied : List ℕ → List ℕ → List ℕ
unfolding how_many
tallied ks xs = map (λ k. how_many (λ x. eqb x k) xs) ks

-- the elements whose positions, the first of which is i, pass the test
unfoldable pub picked : {A : Type 0} → (ℕ → Bool) → ℕ → List A → List A
picked p i [] = []
picked p i (x ∷ xs) = let rest = picked p (suc i) xs in cond (p i) (x ∷ rest) rest

-- the sum of a list
unfoldable pub total : List ℕ → ℕ
total [] = 0
total (x ∷ xs) = x + total xs
