-- `packed_rows::four_at` meets its contract: a row from each place.
use mathlib.Core.Path.{◌≡◌, ap, ◌∙◌}
use mathlib.Core.List.{List, [], ◌∷◌}
use Prim.Native.Nat.{ℕ, suc, ◌+◌}
use native.Mathlib.Omega.{arith}
use lib.Ieee.{Float}
use Rattle.packed_rows.specs.Added.{row_at, rows_at}
use Rattle.packed_rows.specs.declared.Row.{Row}
use Rattle.packed_rows.proofs.four_at.Goals as goal

-- the rows by numbers that are said in two ways
module _ (places : List ℕ) (values : List Float) (starts : List ℕ) where
  abbrev row : ℕ → Row
  row p = row_at places values starts p

  four_rows : (m : ℕ) (a b c d : Row) → a ≡ row m → b ≡ row (m + 1) → c ≡ row (m + 2) → d ≡ row (m + 3)
      → a ∷ b ∷ c ∷ d ∷ [] ≡ rows_at places values starts 4 m
  four_rows m a b c d e f g h =
      let one : row (m + 1) ≡ row (suc m) = ap row {x = m + 1} {y = suc m} (omega arith) in
      let two : row (m + 2) ≡ row (suc (suc m)) = ap row {x = m + 2} {y = suc (suc m)} (omega arith) in
      let three : row (m + 3) ≡ row (suc (suc (suc m))) = ap row {x = m + 3} {y = suc (suc (suc m))} (omega arith) in
      cc (e, f ∙ one, g ∙ two, h ∙ three)

pub row_at-requires : goal.row_at-requires
row_at-requires c =
    record { m_in_bounds = (omega arith, omega arith); start = c.requires.by_index c.args.m (omega arith) (omega arith) }

pub row_at-requires-2 : goal.row_at-requires-2
row_at-requires-2 c =
    record {
      m_in_bounds = (omega arith, omega arith);
      start = c.requires.by_index (c.args.m + 1) (omega arith) (omega arith);
    }

pub row_at-requires-3 : goal.row_at-requires-3
row_at-requires-3 c =
    record {
      m_in_bounds = (omega arith, omega arith);
      start = c.requires.by_index (c.args.m + 2) (omega arith) (omega arith);
    }

pub row_at-requires-4 : goal.row_at-requires-4
row_at-requires-4 c =
    record {
      m_in_bounds = (omega arith, omega arith);
      start = c.requires.by_index (c.args.m + 3) (omega arith) (omega arith);
    }

pub returns : goal.returns
returns c =
    four_rows c.args.places.now c.args.values.now c.args.starts.now c.args.m _ _ _ _
    c.row_at.ensures c.row_at-2.ensures c.row_at-3.ensures c.row_at-4.ensures
