-- What the solver of a fit answers and leaves behind. Definitions only.
use Rattle.std.specs.Prelude.{◌≡◌, List, Bool, ℕ, ◌+◌, take, drop, Float, Option, Some, None}
use Rattle.params.specs.Slice.{Change}
use Rattle.matrix.specs.Rows.{rows_of}
use Rattle.elimination.specs.Elimination.{eliminate, left_solved}
use Rattle.elimination.specs.Ridge.{Solution, solved, unsolved, first_solved, ridges, written}
use Rattle.regression.specs.Workspace.{system_length, equations, cleared, FitSlices}

-- one try: the full rows are eliminated, and the stored ones as they were
pub record Attempted (D : ℕ) (eps : Float) (cells₀ cells₁ : List Float) (r : Bool) : Type 0 where
  pub answer : r ≡ left_solved D (eliminate D eps (equations D cells₀))
  pub system : rows_of (D + 1) D (take (system_length D) cells₁) ≡ eliminate D eps (equations D cells₀)
  pub rest : drop (system_length D) cells₁ ≡ drop (system_length D) cells₀

-- the solution of the equations that a workspace holds, for the first ridge of the series that solves them
abbrev pub solution_in : ℕ → (cells : List Float) → Solution
solution_in D cells = first_solved D (equations D cells) ridges

-- the ridge of a solution
abbrev pub ridge_of : Solution → Option Float
ridge_of (solved ridge cells) = Some ridge
ridge_of unsolved = None

-- the first ridge that solves the system, and the coefficients
pub record Found (s : Solution) (beta₀ beta₁ : List Float) (r : Option Float) : Type 0 where
  pub answer : r ≡ ridge_of s
  pub coefficients : beta₁ ≡ written s beta₀

-- and the workspace is cleared
pub record SolvedBy (D : ℕ) (s : Change FitSlices) (r : Option Float) : Type 0 where
  pub answer : r ≡ ridge_of (solution_in D s.entry.workspace)
  pub workspace : s.exit.workspace ≡ cleared s.entry.workspace
  pub coefficients : s.exit.coefficients ≡ written (solution_in D s.entry.workspace) s.entry.coefficients
