-- The series of ridges, and the first that solves a system. Definitions only.
use Rattle.std.specs.Prelude.{List, [], ◌∷◌, map, true, false, ℕ, zero, suc, drop, pos, Float}
use Rattle.std.specs.Float.{fin, binary64}
use Rattle.std.specs.Float.Ieee.{mul, le}
use Rattle.matrix.specs.Rows.{flat}
use Rattle.float.specs.Number.{one64, tiny64}
use Rattle.elimination.specs.Elimination.{eliminate, left_solved}

abbrev pub ten64 : Float
ten64 = fin false 5 (pos 1)

-- eps and its products with 10.0, each rounded, while at most 1.0: so many of them at most
unfoldable pub ridges_from : ℕ → Float → List Float
ridges_from zero eps = []
ridges_from (suc count) eps =
    elim (le eps one64) [ true ↦ eps ∷ ridges_from count (mul binary64 eps ten64) | false ↦ [] ]

-- from 1E-8. There are nine, so that the 16 cuts none off.
abbrev pub ridges : List Float
ridges = ridges_from 16 tiny64

-- a solution with its ridge, the cells of the right side in row order, or none
pub data Solution : Type 0 where
  solved : Float → List Float → Solution
  unsolved : Solution

-- a list of as many cells as the solution has, after it: only a solution changes it
abbrev pub written : Solution → List Float → List Float
written (solved ridge cells) held = cells
written unsolved held = held

-- the right side's cells
abbrev pub right_side : ℕ → List (List Float) → List Float
right_side n rows = flat (map (drop n) rows)

-- the first ridge of the list that solves the system
unfoldable pub first_solved : ℕ → List (List Float) → List Float → Solution
first_solved n rows [] = unsolved
first_solved n rows (eps ∷ more) =
    let tried = eliminate n eps rows in
    elim (left_solved n tried) [ true ↦ solved eps (right_side n tried) | false ↦ first_solved n rows more ]
