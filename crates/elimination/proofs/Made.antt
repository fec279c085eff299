-- A loop that makes each element of a list anew, from its index and what it was: for any elements and any way to make
-- them. Cells of a row and rows of a matrix both go by these laws.
use mathlib.Core.Path.{◌≡◌, refl, sym, ap}
use mathlib.Core.List.{List, [], ◌∷◌, map}
use Prim.Native.Nat.{ℕ, zero, suc, ◌≤◌}
use native.Mathlib.Nat.{le_of_suc-le-suc, not-suc-le-zero, le_of_eq}
use native.Mathlib.Omega.{arith}
use lib.ListN.{length, get_or, set, replicate}
use Rattle.matrix.specs.Lists.{zipped}
use Rattle.elimination.specs.Rows.{indexed}

module _ {A : Type 0} where
  -- the first j elements made anew, the others as they were
  unfoldable pub made : (ℕ → A → A) → ℕ → List A → List A
  made g zero xs = xs
  made g (suc j) [] = []
  made g (suc j) (x ∷ xs) = g zero x ∷ made (λ i. g (suc i)) j xs

  pub made_none : (g : ℕ → A → A) (xs : List A) → xs ≡ made g 0 xs
  unfolding made
  made_none g xs = refl

  -- one element more
  pub made_suc : (g : ℕ → A → A) (j : ℕ) (xs : List A) (d : A)
      → set (made g j xs) j (g j (get_or (made g j xs) j d)) ≡ made g (suc j) xs
  unfolding made
  made_suc g zero [] d = refl
  made_suc g zero (x ∷ xs) d = refl
  made_suc g (suc j) [] d = refl
  made_suc g (suc j) (x ∷ xs) d = ap {B = List A} (λ r. g zero x ∷ r) (made_suc (λ i. g (suc i)) j xs d)

  -- what is not yet made anew is as it was
  pub made_later : (g : ℕ → A → A) (j : ℕ) (xs : List A) (d : A) → get_or (made g j xs) j d ≡ get_or xs j d
  unfolding made
  made_later g zero xs d = refl
  made_later g (suc j) [] d = refl
  made_later g (suc j) (x ∷ xs) d = made_later (λ i. g (suc i)) j xs d

  pub length_made : (g : ℕ → A → A) (j : ℕ) (xs : List A) → length (made g j xs) ≡ length xs
  unfolding made
  length_made g zero xs = refl
  length_made g (suc j) [] = refl
  length_made g (suc j) (x ∷ xs) = ap suc (length_made (λ i. g (suc i)) j xs)

  -- all of them
  pub made_all : (g : ℕ → A → A) (j : ℕ) (xs : List A) → length xs ≤ j → made g j xs ≡ indexed g xs
  unfolding made indexed
  made_all g zero [] h = refl
  made_all g zero (x ∷ xs) h = absurd (not-suc-le-zero h)
  made_all g (suc j) [] h = refl
  made_all g (suc j) (x ∷ xs) h =
      ap {B = List A} (λ r. g zero x ∷ r) (made_all (λ i. g (suc i)) j xs (le_of_suc-le-suc h))

  -- each element by one function
  pub made_map : (f : A → A) (j : ℕ) (xs : List A) → length xs ≤ j → made (λ i. f) j xs ≡ map f xs
  unfolding made
  made_map f zero [] h = refl
  made_map f zero (x ∷ xs) h = absurd (not-suc-le-zero h)
  made_map f (suc j) [] h = refl
  made_map f (suc j) (x ∷ xs) h = ap {B = List A} (λ r. f x ∷ r) (made_map f j xs (le_of_suc-le-suc h))

  -- each element the one beside it in another list as long
  pub made_copy : (ys : List A) (d : A) (j : ℕ) (xs : List A) → length xs ≡ length ys → length xs ≤ j
      → made (λ i x. get_or ys i d) j xs ≡ ys
  unfolding made
  made_copy [] d zero [] e h = refl
  made_copy [] d (suc j) [] e h = refl
  made_copy [] d zero (x ∷ xs) e h = absurd (not-suc-le-zero h)
  made_copy [] d (suc j) (x ∷ xs) e h = absurd (not-suc-le-zero (le_of_eq e))
  made_copy (y ∷ ys) d zero [] e h = absurd (not-suc-le-zero (le_of_eq (sym e)))
  made_copy (y ∷ ys) d (suc j) [] e h = absurd (not-suc-le-zero (le_of_eq (sym e)))
  made_copy (y ∷ ys) d zero (x ∷ xs) e h = absurd (not-suc-le-zero h)
  made_copy (y ∷ ys) d (suc j) (x ∷ xs) e h =
      ap {B = List A} (λ r. y ∷ r) (made_copy ys d j xs (omega arith) (le_of_suc-le-suc h))

  -- every element the same
  pub made_fill : (v : A) (j : ℕ) (xs : List A) → length xs ≤ j
      → made (λ i x. v) j xs ≡ replicate (length xs) v
  unfolding made
  made_fill v zero [] h = refl
  made_fill v zero (x ∷ xs) h = absurd (not-suc-le-zero h)
  made_fill v (suc j) [] h = refl
  made_fill v (suc j) (x ∷ xs) h = ap {B = List A} (λ r. v ∷ r) (made_fill v j xs (le_of_suc-le-suc h))

-- each element from itself and the one beside it in another list that is no shorter
pub made_zipped : {A B : Type 0} (g : A → B → A) (d : B) (j : ℕ) (xs : List A) (ys : List B)
    → length xs ≤ length ys → length xs ≤ j
    → made (λ i x. g x (get_or ys i d)) j xs ≡ zipped g xs ys
unfolding made zipped
made_zipped g d zero [] ys l h = refl
made_zipped g d (suc j) [] ys l h = refl
made_zipped g d zero (x ∷ xs) [] l h = absurd (not-suc-le-zero h)
made_zipped g d zero (x ∷ xs) (y ∷ ys) l h = absurd (not-suc-le-zero h)
made_zipped g d (suc j) (x ∷ xs) [] l h = absurd (not-suc-le-zero l)
made_zipped {A = A} g d (suc j) (x ∷ xs) (y ∷ ys) l h =
    ap {B = List A} (λ r. g x y ∷ r) (made_zipped g d j xs ys (le_of_suc-le-suc l) (le_of_suc-le-suc h))
