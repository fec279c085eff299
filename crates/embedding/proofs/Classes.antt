-- Laws of class counts, for any table of classes, any number of a letter that the table is read with and any number of
-- counters: the counters at a class's numbers add up to the letters in the class, and do so in floats.
use mathlib.Core.Path.{◌≡◌, refl, sym, ap, ◌∙◌}
use mathlib.Core.Bool.{Bool, true, ◌&&◌}
use mathlib.Core.List.{List, [], ◌∷◌, map}
use Prim.Native.Nat.{ℕ, ◌+◌, ◌^◌, ◌≤◌, ◌<◌}
use native.Mathlib.Nat.{add-zero, zero-add}
use native.Mathlib.Omega.{arith}
use lib.Dec.{T}
use lib.Ieee.{Float}
use lib.ListN.{length, get_or, get_or-map}
use mir.Facts.{and_yes}
use Rattle.mass.proofs.Laws.{column_below}
use Rattle.float.specs.Number.{number, sum_from}
use Rattle.float.proofs.Whole.{number_add}
use Rattle.embedding.specs.Count.{how_many, one_of, range, tallied, total}
use Rattle.embedding.specs.Design.{column_counts}
use Rattle.embedding.specs.Classes.{class_counts, class_sum, class_sums, class_number, classes}
use Rattle.embedding.proofs.Counting.{how_many_le, how_many_map, tally_cells, total_tally, distinct}
use Rattle.embedding.proofs.Rows.{none}
use Rattle.embedding.proofs.Appending.{length_composition, length_counted}

-- the sum of cells that hold whole numbers, from a whole number on
sum_cells : (cs : List ℕ) (a : ℕ) (ks : List ℕ) → a + total (map (λ k. get_or cs k 0) ks) ≤ 2 ^ 53
    → sum_from (number a) (map (λ k. get_or (map number cs) k (number 0)) ks)
    ≡ number (a + total (map (λ k. get_or cs k 0) ks))
unfolding total
sum_cells cs a [] h = ap number (sym (add-zero a))
sum_cells cs a (k ∷ ks) h =
    let v = get_or cs k 0 in
    let t = total (map (λ k. get_or cs k 0) ks) in
    rw (get_or-map number cs k 0, number_add a v (omega arith) (omega arith))
    (sum_cells cs (a + v) ks (omega arith) ∙ ap number {x = a + v + t} {y = a + (v + t)} (omega arith))

-- every class holds different numbers
unfoldable pub proper : List (List ℕ) → Bool
unfolding distinct
proper [] = true
proper (class ∷ cs) = distinct class && proper cs

module _ (m : ℕ) (at : ℕ → ℕ) (below : (x : ℕ) → at x < m) (letters : List ℕ)
    (short : length letters ≤ 2 ^ 53) where
  one_class : (class : List ℕ) → T (distinct class)
      → class_sum (map number (tallied (range 0 m) (map at letters))) class
      ≡ number (how_many (λ letter. one_of class (at letter)) letters)
  unfolding class_sum
  one_class class d =
      let cs = tallied (range 0 m) (map at letters) in
      let n : total (map (λ k. get_or cs k 0) class) ≡ how_many (λ letter. one_of class (at letter)) letters =
      ap total (tally_cells m at below letters class)
      ∙ total_tally class (map at letters) d
      ∙ how_many_map (one_of class) at letters in
      rw none
      (sum_cells cs 0 class (omega (arith, n, how_many_le (λ letter. one_of class (at letter)) letters)) ∙ ap number (zero-add _ ∙ n))

  pub sums_of_lem : (cs : List (List ℕ)) → T (proper cs)
      → map (class_sum (map number (tallied (range 0 m) (map at letters)))) cs
      ≡ map number (map (λ class. how_many (λ letter. one_of class (at letter)) letters) cs)
  unfolding proper
  sums_of_lem [] t = refl
  sums_of_lem (class ∷ cs) t =
      let u = and_yes (distinct class) (proper cs) t in
      rw (one_class class u.0, sums_of_lem cs u.1)

pub class_sums_lem : (letters : List ℕ) → length letters < 2 ^ 32
    → class_sums (map number (column_counts letters)) ≡ map number (class_counts letters)
unfolding class_sums class_counts proper column_counts
class_sums_lem letters h = sums_of_lem 22 class_number column_below letters (omega arith) classes tt

pub length_class_counts : (letters : List ℕ) → length (class_counts letters) ≡ 6
unfolding class_counts
length_class_counts letters = refl

pub length_class_sums : (cells : List Float) → length (class_sums cells) ≡ 6
unfolding class_sums
length_class_sums cells = refl

-- how many cells the blocks of a row have
pub ruleset block_lengths = (length_composition, length_counted, length_class_sums)
