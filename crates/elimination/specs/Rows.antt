-- Rows of a system of equations, beside matrix's rows: any cells. Definitions only.
use Rattle.std.specs.Prelude.{List, [], ◌∷◌, ◌++◌, ◌≡◌, ℕ, zero, suc, ◌+◌, ◌*◌, ◌≤◌, length, get_or}
use Rattle.status.specs.Limits.{max_order, max_columns}

-- a row of a list of rows
abbrev pub row_of : {A : Type 0} → List (List A) → ℕ → List A
row_of rows i = get_or rows i []

-- each element made anew from its place in the list and what it is
unfoldable pub indexed : {A : Type 0} → (ℕ → A → A) → List A → List A
indexed g [] = []
indexed g (x ∷ xs) = g zero x ∷ indexed (λ i. g (suc i)) xs

-- each row of the left matrix followed by the same row of the right one
unfoldable pub augmented : {A : Type 0} → List (List A) → List (List A) → List (List A)
augmented [] right = []
augmented (l ∷ left) [] = []
augmented (l ∷ left) (r ∷ right) = (l ++ r) ∷ augmented left right

-- the cells of the widest row, left and right
abbrev pub max_width : ℕ
max_width = max_order + max_columns

-- a system of n equations in rows of w cells, as the elimination takes it
pub record Shape {A : Type 0} (n w : ℕ) (cells : List A) : Type 0 where
  pub order : n ≤ max_order
  pub wide : w ≤ max_width
  pub left : n ≤ w
  pub count : length cells ≡ n * w
