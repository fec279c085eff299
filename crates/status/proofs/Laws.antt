-- Laws of the shared checks: what a test that passes says of each element, and how a loop goes through it.
use mathlib.Core.Path.{◌≡◌, refl, ap}
use mathlib.Core.Bool.{Bool, true, false, ◌&&◌}
use mathlib.Core.List.{List, [], ◌∷◌}
use Prim.Native.Nat.{ℕ, zero, suc, ◌*◌, ◌≤◌, ◌<◌}
use native.Mathlib.Nat.{le_of_suc-le-suc, not-suc-le-zero}
use native.Mathlib.Omega.{arith}
use lib.Dec.{eqb, leb, ltb}
use lib.ListN.{length, get_or, take, drop}
use lib.Seq.{drop-cons}
use borrow.Author.Tests.{ltb-true, leb-true, eqb-true}
use Rattle.std.specs.List.{list_all}
use Rattle.status.specs.Checks.{every, all_below, lengths_agree}
use Rattle.status.specs.Limits.{
  within_limits,
  within_row_limits,
  within_system_limits,
  max_files,
  max_rows,
  max_peptides,
  max_cells,
  max_order,
  max_columns,
}

-- both of two tests that pass together
pub and_true : (a b : Bool) → (a && b) ≡ true → (a ≡ true) × (b ≡ true)
and_true true b e = (refl, e)
and_true false b e = (e, cc)

module _ {A : Type 0} (p : A → Bool) where
  -- it is the library's test of all elements
  pub every_is : (xs : List A) → list_all p xs ≡ every p xs
  unfolding every
  every_is [] = refl
  every_is (x ∷ xs) = ap (λ (b : Bool). p x && b) (every_is xs)

  -- a loop's step: the element at i and the rest
  pub every_step : (i : ℕ) (xs : List A) (d : A) → i < length xs
      → every p (drop i xs) ≡ p (get_or xs i d) && every p (drop (suc i) xs)
  unfolding every
  every_step i xs d h = rw (drop-cons xs i d h)

  -- the test passes at each place
  pub every_at : (xs : List A) (i : ℕ) (d : A) → every p xs ≡ true → i < length xs → p (get_or xs i d) ≡ true
  unfolding every
  every_at [] i d e h = absurd (not-suc-le-zero h)
  every_at (x ∷ xs) zero d e h = (and_true (p x) (every p xs) e).0
  every_at (x ∷ xs) (suc i) d e h = every_at xs i d (and_true (p x) (every p xs) e).1 (le_of_suc-le-suc h)

  -- and where it passes at each place it passes
  pub every_all : (xs : List A) (d : A) → ((i : ℕ) → i < length xs → p (get_or xs i d) ≡ true)
      → every p xs ≡ true
  unfolding every
  every_all [] d h = refl
  every_all (x ∷ xs) d h = rw (h 0 (omega arith)) (every_all xs d (λ i l. h (suc i) (omega arith)))

  -- it passes at each element of a part
  pub every_take : (k : ℕ) (xs : List A) → every p xs ≡ true → every p (take k xs) ≡ true
  unfolding every
  every_take zero xs e = refl
  every_take (suc k) [] e = refl
  every_take (suc k) (x ∷ xs) e = let s = and_true (p x) (every p xs) e in rw s.0 (every_take k xs s.1)

  pub every_drop : (k : ℕ) (xs : List A) → every p xs ≡ true → every p (drop k xs) ≡ true
  unfolding every
  every_drop zero xs e = e
  every_drop (suc k) [] e = refl
  every_drop (suc k) (x ∷ xs) e = every_drop k xs (and_true (p x) (every p xs) e).1

-- a number of a list that is below n throughout
pub below_at : (n : ℕ) (xs : List ℕ) (i : ℕ) → all_below n xs ≡ true → i < length xs → get_or xs i 0 < n
below_at n xs i e h = ltb-true (get_or xs i 0) n (every_at (λ x. ltb x n) xs i 0 e h)

-- a length of a list of lengths that agree
pub length_at : (n : ℕ) (lengths : List ℕ) (i : ℕ) → lengths_agree n lengths ≡ true → i < length lengths
    → get_or lengths i 0 ≡ n
length_at n lengths i e h = eqb-true (get_or lengths i 0) n (every_at (λ m. eqb m n) lengths i 0 e h)

-- what the limits say
pub record RowLimits (rows peptides : ℕ) : Type 0 where
  pub rows_max : rows ≤ max_rows
  pub peptides_max : peptides ≤ max_peptides

pub row_limits : (rows peptides : ℕ) → within_row_limits rows peptides ≡ true → RowLimits rows peptides
row_limits rows peptides e =
    let s = and_true (leb rows max_rows) (leb peptides max_peptides) e in
    record { rows_max = leb-true rows max_rows s.0; peptides_max = leb-true peptides max_peptides s.1 }

pub record Limits (files rows peptides : ℕ) : Type 0 where
  pub files_min : 1 ≤ files
  pub files_max : files ≤ max_files
  pub rows_max : rows ≤ max_rows
  pub peptides_max : peptides ≤ max_peptides
  pub cells_max : peptides * files ≤ max_cells

pub limits : (files rows peptides : ℕ) → within_limits files rows peptides ≡ true → Limits files rows peptides
limits files rows peptides e =
    let s =
    and_true (leb 1 files && leb files max_files && within_row_limits rows peptides) (leb (peptides * files) max_cells) e in
    let t = and_true (leb 1 files && leb files max_files) (within_row_limits rows peptides) s.0 in
    let u = and_true (leb 1 files) (leb files max_files) t.0 in
    let r = row_limits rows peptides t.1 in
    record {
      files_min = leb-true 1 files u.0;
      files_max = leb-true files max_files u.1;
      rows_max = r.rows_max;
      peptides_max = r.peptides_max;
      cells_max = leb-true (peptides * files) max_cells s.1;
    }

pub record SystemLimits (n c : ℕ) : Type 0 where
  pub order : n ≤ max_order
  pub columns : c ≤ max_columns

pub system_limits : (n c : ℕ) → within_system_limits n c ≡ true → SystemLimits n c
system_limits n c e =
    let s = and_true (leb 1 n && leb n max_order && leb 1 c) (leb c max_columns) e in
    let t = and_true (leb 1 n && leb n max_order) (leb 1 c) s.0 in
    record {
      order = leb-true n max_order (and_true (leb 1 n) (leb n max_order) t.0).1;
      columns = leb-true c max_columns s.1;
    }
