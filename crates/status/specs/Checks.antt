-- The checks that several entry points share, as tests on the whole input. Definitions only.
use Rattle.std.specs.Prelude.{ℕ, Bool, true, ◌&&◌, List, [], ◌∷◌, eqb, ltb}

-- the test passes at each element
unfoldable pub every : {A : Type 0} → (A → Bool) → List A → Bool
every p [] = true
every p (x ∷ xs) = p x && every p xs

-- each number is below n: what file numbers and peptide numbers are asked
abbrev pub all_below : ℕ → List ℕ → Bool
all_below n xs = every (λ x. ltb x n) xs

-- each length is n: what columns that belong together are asked
abbrev pub lengths_agree : ℕ → List ℕ → Bool
lengths_agree n lengths = every (λ m. eqb m n) lengths
