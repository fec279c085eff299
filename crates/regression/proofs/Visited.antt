-- Laws of a sample whose zeros are skipped, for every order and all samples: what is added with the zeros skipped is
-- what is added with them, since each cell is a sum that began at +0.0. How many pairs are visited.
use mathlib.Core.Path.{◌≡◌, refl, sym, ap, ◌∙◌}
use mathlib.Core.Bool.{Bool, true, false, ◌||◌, cond}
use mathlib.Core.List.{List, [], ◌∷◌, ◌++◌, map}
use Prim.Native.Nat.{ℕ, zero, suc, ◌+◌, ◌-◌, ◌<◌}
use native.Mathlib.Nat.{lt_of_not-le}
use native.Mathlib.Decide.{dec_le}
use native.Mathlib.Omega.{arith}
use lib.Dec.{T}
use lib.ListN.{length, get_or, length-append, get_or-eq_default}
use lib.Seq.{take_at}
use lib.Ieee.{Float, nan, binary64, mul, add, fits}
use lib.Ieee.Fits.{mul-fits}
use Rattle.float.specs.Number.{zero64, sum_from}
use Rattle.float.specs.Value.{is_finite, is_zero, not_minus_zero, Sum}
use Rattle.float.proofs.Zeros.{sum_starts, sum_next, sum_product}
use Rattle.status.specs.Checks.{every}
use Rattle.status.proofs.Laws.{and_true}
use Rattle.matrix.specs.Lists.{tabulate, zipped}
use Rattle.matrix.proofs.Lists.{length_tabulate, get_d_tabulate}
use Rattle.regression.specs.Regression.{Sample, extended, column, cov, rhs}
use Rattle.packed_rows.specs.Added.{plus_scaled, plus_nonzero}
use Rattle.packed_rows.specs.Falling.{falling_start}
use Rattle.regression.specs.Triangle.{cov_from, triangle, add_triangle_by, add_triangle}
use Rattle.matrix.specs.Nonzero.{nonzeros}
use Rattle.regression.specs.Sparse.{all_finite, add_visited, pairs, visited}
use Rattle.packed_rows.proofs.Falling.{half_falling}

-- ---- skipping zeros changes no sum that began at +0.0

-- each cell is such a sum
abbrev pub Clean : List Float → Type 0
Clean cells = (i : ℕ) → Sum (get_or cells i nan)

same_cell : (x c y : Float) → is_finite x ≡ true → is_finite y ≡ true → Sum c → plus_nonzero x c y ≡ plus_scaled x c y
same_cell x c y f g s = by (is_zero x || is_zero y) refl
  where
    by : (b : Bool) → is_zero x || is_zero y ≡ b → cond b c (plus_scaled x c y) ≡ plus_scaled x c y
    by true z = sym (sum_product c x y s f g z)
    by false z = refl

same_row : (x : Float) (row rest : List Float) → is_finite x ≡ true → all_finite rest ≡ true → Clean row
    → zipped (plus_nonzero x) row rest ≡ zipped (plus_scaled x) row rest
unfolding zipped every
same_row x [] rest f g s = refl
same_row x (c ∷ row) [] f g s = refl
same_row x (c ∷ row) (y ∷ rest) f g s =
    let h = and_true (is_finite y) (all_finite rest) g in
    cc (same_cell x c y f h.0 (s 0), same_row x row rest f h.1 (λ i. s (suc i)))

same_rows : (rows : List (List Float)) (ext : List Float) → all_finite ext ≡ true → ((j : ℕ) → Clean (get_or rows j []))
    → add_triangle_by plus_nonzero rows ext ≡ add_triangle rows ext
unfolding add_triangle_by every
same_rows [] ext f s = refl
same_rows (row ∷ rows) [] f s = refl
same_rows (row ∷ rows) (x ∷ ext) f s =
    let h = and_true (is_finite x) (all_finite ext) f in
    cc (same_row x row (x ∷ ext) h.0 f (s 0), same_rows rows ext h.1 (λ j. s (suc j)))

pub visited_clean : (rows : List (List Float)) (ext : List Float) → ((j : ℕ) → Clean (get_or rows j []))
    → add_visited rows ext ≡ add_triangle rows ext
unfolding add_visited
visited_clean rows ext s = by (all_finite ext) refl
  where
    by : (b : Bool) → all_finite ext ≡ b
        → cond b (add_triangle_by plus_nonzero rows ext) (add_triangle rows ext) ≡ add_triangle rows ext
    by true f = same_rows rows ext f s
    by false f = refl

-- ---- every cell of the stored equations is such a sum

sum_nan : Sum nan
unfolding not_minus_zero fits
sum_nan = record { held = tt; plain = refl }

-- the sum over the samples of values of the format
sum_from_lem : (f : Sample → Float) → ((s : Sample) → T (fits binary64 (f s))) → (c : Float) → Sum c
    → (ss : List Sample) → Sum (sum_from c (map f ss))
sum_from_lem f h c s [] = s
sum_from_lem f h c s (x ∷ ss) = sum_from_lem f h (add binary64 c (f x)) (sum_next c (f x) s (h x)) ss

sum_cov : (ss : List Sample) (j k : ℕ) → Sum (cov ss j k)
sum_cov ss j k =
    sum_from_lem (λ s. mul binary64 (column j s) (column k s)) (λ s. mul-fits binary64 (column j s) (column k s))
    zero64 sum_starts ss

sum_rhs : (ss : List Sample) (j : ℕ) → Sum (rhs ss j)
sum_rhs ss j =
    sum_from_lem (λ s. mul binary64 (column j s) s.y) (λ s. mul-fits binary64 (column j s) s.y) zero64 sum_starts ss

clean_nil : Clean []
clean_nil i = sum_nan

clean_cons : (x : Float) (l : List Float) → Sum x → Clean l → Clean (x ∷ l)
clean_cons x l s c zero = s
clean_cons x l s c (suc i) = c i

clean_cells : (n : ℕ) (f : ℕ → Float) (l : List Float) → ((i : ℕ) → Sum (f i)) → Clean l → Clean (tabulate n f ++ l)
unfolding tabulate
clean_cells zero f l s c = c
clean_cells (suc n) f l s c =
    clean_cons (f 0) (tabulate n (λ i. f (suc i)) ++ l) (s 0) (clean_cells n (λ i. f (suc i)) l (λ i. s (suc i)) c)

clean_triangle : (D : ℕ) (ss : List Sample) (j : ℕ) → Clean (get_or (triangle D ss) j [])
unfolding triangle
clean_triangle D ss j = by (dec_le (suc j) D)
  where
    row : ℕ → List Float
    row i = cov_from D ss i ++ rhs ss i ∷ []

    by : Dec (j < D) → Clean (get_or (tabulate D row) j [])
    by (yes h) =
        rw (get_d_tabulate D row j [] h)
        (clean_cells (D - j) (λ k. cov ss j (j + k)) (rhs ss j ∷ []) (λ k. sum_cov ss j (j + k))
        (clean_cons (rhs ss j) [] (sum_rhs ss j) clean_nil))
    by (no f) =
        rw (get_or-eq_default (tabulate D row) [] {n = j} (omega (arith, length_tabulate D row, lt_of_not-le f)))
        clean_nil

-- For every order, all samples, and any row that is added to their equations: with its zeros skipped as with them.
pub visited_triangle : (D : ℕ) (ss : List Sample) (ext : List Float)
    → add_visited (triangle D ss) ext ≡ add_triangle (triangle D ss) ext
visited_triangle D ss ext = visited_clean (triangle D ss) ext (clean_triangle D ss)

-- ---- how many pairs are visited

-- k × (k + 1) / 2 where k columns are not zero and all cells are finite, and else D × (D + 1) / 2
pub visited_sample : (s : Sample)
    → visited (extended s)
    ≡ cond (all_finite (extended s)) (pairs (length (nonzeros 0 s.row))) (pairs (length s.row))
unfolding visited
visited_sample s =
    let n : length (extended s) - 1 ≡ length s.row = simp length-append (omega arith) in
    rw (n, take_at s.row (s.y ∷ []) (length s.row) refl)

-- the pairs j ≤ k of columns that are both not zero, counted row by row
unfoldable pub pairs_in : List Float → ℕ
pairs_in [] = 0
pairs_in (x ∷ xs) = cond (is_zero x) 0 (length (nonzeros 0 (x ∷ xs))) + pairs_in xs

count_same : (i j : ℕ) (xs : List Float) → length (nonzeros i xs) ≡ length (nonzeros j xs)
unfolding nonzeros
count_same i j [] = refl
count_same i j (x ∷ xs) = by (is_zero x) (count_same (suc i) (suc j) xs)
  where
    by : (b : Bool) → length (nonzeros (suc i) xs) ≡ length (nonzeros (suc j) xs)
        → length (cond b (nonzeros (suc i) xs) (i ∷ nonzeros (suc i) xs))
        ≡ length (cond b (nonzeros (suc j) xs) (j ∷ nonzeros (suc j) xs))
    by true e = e
    by false e = ap suc e

more_pairs : (n : ℕ) → pairs (suc n) ≡ suc n + pairs n
unfolding falling_start
more_pairs n =
    let less : suc n - 1 ≡ n = omega arith in
    sym (half_falling (suc n)) ∙ rw less (ap (λ (k : ℕ). suc n + k) (half_falling n))

-- they are k × (k + 1) / 2
pub pairs_in_lem : (xs : List Float) → pairs_in xs ≡ pairs (length (nonzeros 0 xs))
unfolding pairs_in nonzeros
pairs_in_lem [] = refl
pairs_in_lem (x ∷ xs) = by (is_zero x) (pairs_in_lem xs) (count_same 0 1 xs)
  where
    by : (b : Bool) → pairs_in xs ≡ pairs (length (nonzeros 0 xs)) → length (nonzeros 0 xs) ≡ length (nonzeros 1 xs)
        → cond b 0 (length (cond b (nonzeros 1 xs) (0 ∷ nonzeros 1 xs))) + pairs_in xs
        ≡ pairs (length (cond b (nonzeros 1 xs) (0 ∷ nonzeros 1 xs)))
    by true e c = omega (arith, e ∙ ap pairs c)
    by false e c = rw (more_pairs (length (nonzeros 1 xs))) (omega (arith, e ∙ ap pairs c))
