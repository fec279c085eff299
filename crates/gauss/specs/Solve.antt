-- What a call of `solve` answers and leaves behind. Definitions only.
use Rattle.std.specs.Prelude.{List, [], ◌∷◌, ◌&&◌, ◌≡◌, ℕ, ◌+◌, ◌*◌, ◌≤◌, length, replicate, leb, eqb, Float, Option, Some, None, Result, Ok, Err}
use Rattle.params.specs.Slice.{Held, MutHeld, Change, change, Slice, MutSlice}
use Rattle.status.specs.declared.Refusal.{Refusal}
use Rattle.status.specs.Status.{bad_lengths, past_limit, too_short, not_solved, first_failing, number_of, refusal_by}
use Rattle.status.specs.Limits.{within_system_limits, max_order, max_columns}
use Rattle.status.specs.Told.{Told, gives, only, if_accepted, told_for}
use Rattle.matrix.specs.Rows.{rows_of}
use Rattle.float.specs.Number.{zero64}
use Rattle.matrix.specs.Lists.{overwritten}
use Rattle.elimination.specs.Rows.{augmented}
use Rattle.elimination.specs.Ridge.{ridges, Solution, solved, unsolved, first_solved, written}

-- what is read: the two sides, the order and the number of right columns
pub record System : Type 0 where
  pub left : List Float
  pub right : List Float
  pub n : ℕ
  pub c : ℕ

-- what is written
pub record Slices : Type 0 where
  pub workspace : List Float
  pub solution : List Float

-- ---- as a function's parameters hold them

-- in a `requires`
abbrev pub system_at : (left right : Held Float) (n c : ℕ) → System
system_at left right n c = record { left = left.now; right = right.now; n = n; c = c }

abbrev pub slices_at : (workspace solution : MutHeld Float) → Slices
slices_at workspace solution = record { workspace = workspace.now; solution = solution.now }

-- in an `ensures`: what is read as the call begins, and what is written as it begins and as it returns
abbrev pub system_of : (left right : Slice Float) (n c : ℕ) → System
system_of left right n c = system_at left.entry right.entry n c

abbrev pub slices_of : (workspace solution : MutSlice Float) → Change Slices
slices_of workspace solution =
    change (slices_at workspace.entry solution.entry) (slices_at workspace.exit solution.exit)

-- ---- the checks

-- the cells of the right side, and the needed workspace
abbrev pub outputs : ℕ → ℕ → ℕ
outputs n c = n * c

abbrev pub needed : ℕ → ℕ → ℕ
needed n c = n * n + n * c

-- 1, 2, 3: from the lengths of the sides, the order n, the number of right columns c and the lengths of the slices
abbrev pub status_by : (left right n c workspace solution : ℕ) → ℕ
status_by left right n c workspace solution =
    first_failing
    ((bad_lengths, eqb left (n * n) && eqb right (n * c))
    ∷ (past_limit, within_system_limits n c)
    ∷ (too_short, leb (needed n c) workspace && leb (outputs n c) solution)
    ∷ [])

abbrev pub status : System → Slices → ℕ
status i s =
    status_by (length i.left) (length i.right) i.n i.c (length s.workspace) (length s.solution)

-- ---- the answer

-- what every case of it tells: a solved system has its ridge
abbrev pub told_by : Result (Option Float) Refusal → Told Float
told_by (Ok (Some ridge)) = gives ridge
told_by (Ok None) = only not_solved
told_by (Err r) = only (number_of r)

-- the system's solution
unfoldable pub solution_of : ℕ → ℕ → List Float → List Float → Solution
solution_of n c left right = first_solved n (augmented (rows_of n n left) (rows_of c n right)) ridges

abbrev pub solution_for : System → Solution
solution_for i = solution_of i.n i.c i.left i.right

-- what an accepted call answers, and tells
abbrev pub answer_by : Solution → Option Float
answer_by (solved ridge cells) = Some ridge
answer_by unsolved = None

abbrev pub solution_told : Solution → Told Float
solution_told (solved ridge cells) = gives ridge
solution_told unsolved = only not_solved

-- what a call with a status answers
abbrev pub answer_of : (status : ℕ) → Solution → Result (Option Float) Refusal
answer_of status x = if_accepted status (Ok (answer_by x)) (Err (refusal_by status))

-- ---- the slices

-- the solution's cells and then those beyond as they were; only a solution changes any
abbrev pub solution_over : Solution → List Float → List Float
solution_over (solved ridge cells) held = overwritten cells held
solution_over unsolved held = held

-- what an accepted call leaves: the needed workspace +0.0
abbrev pub filled : System → Slices → Slices
filled i s =
    record {
      workspace = overwritten (replicate (needed i.n i.c) zero64) s.workspace;
      solution = solution_over (solution_for i) s.solution;
    }

-- what a call leaves: a refused one both slices as they were
abbrev pub slices_after : System → Slices → Slices
slices_after i s = if_accepted (status i s) (filled i s) s

-- The contract of `solve`: the answer, what it tells, and both slices, each cell of them.
pub record Solves (i : System) (s : Change Slices) (r : Result (Option Float) Refusal) : Type 0 where
  pub answer : r ≡ answer_of (status i s.entry) (solution_for i)
  pub told : told_by r ≡ told_for (status i s.entry) (solution_told (solution_for i))
  pub slices : s.exit ≡ slices_after i s.entry

-- ---- what stands behind it

-- sides and slices of the right lengths, within the limits
pub record Accepted (i : System) (s : Slices) : Type 0 where
  pub order : i.n ≤ max_order
  pub columns : i.c ≤ max_columns
  pub left_count : length i.left ≡ i.n * i.n
  pub right_count : length i.right ≡ i.n * i.c
  pub cell_count : length s.workspace ≡ i.n * (i.n + i.c)
  pub solution_count : length s.solution ≡ i.n * i.c

-- the first ridge that solves it is the answer, the workspace ends as +0.0
pub record Searched (i : System) (s : Change Slices) (r : Option Float) : Type 0 where
  pub answer : r ≡ answer_by (solution_for i)
  pub cells : s.exit.workspace ≡ replicate (length s.entry.workspace) zero64
  pub solution : s.exit.solution ≡ written (solution_for i) s.entry.solution
