-- Lists that the definitions of several crates are made of: a table, a list made anew from one beside it, and one
-- written over another. For any elements. Definitions only.
use Rattle.std.specs.Prelude.{ℕ, zero, suc, List, [], ◌∷◌, ◌++◌, length, drop}

-- f 0, f 1, .., f (n - 1)
unfoldable pub tabulate : {A : Type 0} → ℕ → (ℕ → A) → List A
tabulate zero f = []
tabulate (suc n) f = f 0 ∷ tabulate n (λ i. f (suc i))

-- the first list, each cell that has one beside it in the second made anew from the two
unfoldable pub zipped : {A B : Type 0} → (A → B → A) → List A → List B → List A
zipped g [] src = []
zipped g (d ∷ dst) [] = d ∷ dst
zipped g (d ∷ dst) (s ∷ src) = g d s ∷ zipped g dst src

-- the old cells with the new ones over the first of them
abbrev pub overwritten : {A : Type 0} → (new old : List A) → List A
overwritten new old = new ++ drop (length new) old
