-- What holds of every peptide's row, for both models at once: the row has the model's order, and each of its three
-- blocks of 22 counts adds up to the number of positions that it counts.
use mathlib.Core.Path.{◌≡◌, refl, sym, ap, ◌∙◌}
use mathlib.Core.Bool.{Bool}
use mathlib.Core.List.{List, map}
use Prim.Native.Nat.{ℕ, ◌-◌, min}
use native.Mathlib.Nat.{zero-add}
use native.Mathlib.Omega.{arith}
use lib.Ieee.{Float}
use lib.ListN.{length, take, drop, length-take, length-drop}
use Rattle.mass.specs.Mass.{column_of}
use Rattle.mass.proofs.Laws.{column_below}
use Rattle.embedding.specs.declared.Model.{Model}
use Rattle.embedding.specs.declared.Model.TheVariants.{Retention, Mobility}
use Rattle.embedding.specs.Count.{one_of, range, total}
use Rattle.float.specs.Number.{number}
use Rattle.embedding.specs.Design.{order_of, everywhere, n_terminal, c_terminal, chosen, counts, block, design, n_terminal_at, c_terminal_at}
use Rattle.embedding.proofs.Counting.{how_many_all, how_many_map, total_tally, distinct, one_of_range}
use Rattle.embedding.proofs.Positions.{chosen_everywhere, chosen_n, chosen_c, end_of}

-- ---- totals of counts

-- The counts of a selection of positions, whichever it is, total the number of positions selected: each letter has one
-- of the 22 columns.
pub total_counts : (sel : ℕ → ℕ → Bool) (letters : List ℕ)
    → total (counts sel letters) ≡ length (chosen sel letters)
unfolding counts distinct
total_counts sel letters =
    total_tally (range 0 22) (map column_of (chosen sel letters)) tt
    ∙ how_many_map (one_of (range 0 22)) column_of (chosen sel letters)
    ∙ how_many_all (λ x. one_of (range 0 22) (column_of x)) (chosen sel letters)
    (λ x. ap (one_of (range 0 22)) (sym (zero-add (column_of x))) ∙ one_of_range 0 22 (column_of x) (column_below x))

-- how many C-terminal positions a peptide of length n has: n less 3 or n less 2, at most 2, and never below 0
abbrev pub c_terminals : Model → ℕ → ℕ
c_terminals Retention n = min 2 (n - 3)
c_terminals Mobility n = min 2 (n - 2)

pub length_everywhere : (letters : List ℕ) → length (chosen everywhere letters) ≡ length letters
length_everywhere letters = ap length (chosen_everywhere letters)

pub length_n : (letters : List ℕ) → length (chosen n_terminal letters) ≡ min (length letters) 2
length_n letters = ap length (chosen_n letters) ∙ length-take 2 letters ∙ omega arith

pub length_c : (model : Model) (letters : List ℕ)
    → length (chosen (c_terminal model) letters) ≡ c_terminals model (length letters)
unfolding end_of
length_c Retention letters = ap length (chosen_c Retention letters) ∙ simp (length-drop, length-take) (omega arith)
length_c Mobility letters = ap length (chosen_c Mobility letters) ∙ simp (length-drop, length-take) (omega arith)

-- ---- blocks of a row

-- the 22 cells from a column on are whole numbers that total n
pub record Block (at n : ℕ) (row : List Float) : Type 0 where
  pub numbers : List ℕ
  pub cells : take 22 (drop at row) ≡ map number numbers
  pub totals : total numbers ≡ n

pub record Totals (model : Model) (n : ℕ) (row : List Float) : Type 0 where
  pub columns : length row ≡ order_of model
  pub all : Block 0 n row
  pub first : Block (n_terminal_at model) (min n 2) row
  pub last : Block (c_terminal_at model) (c_terminals model n) row

held : (sel : ℕ → ℕ → Bool) (letters : List ℕ) (at n : ℕ) (row : List Float)
    → take 22 (drop at row) ≡ block sel letters → length (chosen sel letters) ≡ n → Block at n row
unfolding block
held sel letters at n row e l =
    record { numbers = counts sel letters; cells = e; totals = total_counts sel letters ∙ l }

pub totals : (model : Model) (letters : List ℕ) (log mass : Float) (charge : ℕ)
    → Totals model (length letters) (design model letters log mass charge)
unfolding design
totals Retention letters log mass charge = record {
  columns = refl;
  all = held everywhere letters 0 _ _ refl (length_everywhere letters);
  first = held n_terminal letters 22 _ _ refl (length_n letters);
  last = held (c_terminal Retention) letters 44 _ _ refl (length_c Retention letters);
}
totals Mobility letters log mass charge = record {
  columns = refl;
  all = held everywhere letters 0 _ _ refl (length_everywhere letters);
  first = held n_terminal letters 44 _ _ refl (length_n letters);
  last = held (c_terminal Mobility) letters 66 _ _ refl (length_c Mobility letters);
}
