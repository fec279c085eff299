-- The checks and the contract of `solve`, from what stands behind them.
use mathlib.Core.Path.{◌≡◌, refl, sym, ap, ◌∙◌}
use mathlib.Core.List.{List, [], ◌∷◌, ◌++◌}
use mathlib.Core.Bool.{Bool, true, false, ◌&&◌, cond, true≢false}
use Prim.Native.Nat.{ℕ, ◌*◌, ◌≤◌, ◌<◌}
use native.Mathlib.Nat.{mul-add}
use native.Mathlib.Omega.{arith}
use lib.ListN.{length, get_or, take, drop, replicate, take-append-drop}
use lib.Seq.{length-take-le}
use lib.Dec.{leb, eqb}
use lib.Ieee.{Float}
use borrow.Author.Tests.{leb-true, eqb-true, eq-eqb}
use Rattle.params.specs.Slice.{change}
use Rattle.status.specs.Checks.{every}
use Rattle.std.specs.Prelude.{Option, Result, Ok, Err, ⊤}
use Rattle.status.specs.declared.Refusal.{Refusal}
use Rattle.status.specs.Status.{accepted, bad_lengths, past_limit, too_short, first_failing, number_of, refusal_by, checked}
use Rattle.status.specs.Told.{only}
use Rattle.status.specs.Limits.{within_system_limits, max_order, max_columns}
use Rattle.status.proofs.Laws.{and_true, system_limits}
use Rattle.status.proofs.First.{passed_at_lem}
use Rattle.float.specs.Number.{zero64}
use Rattle.matrix.proofs.Lists.{overwrite_front}
use Rattle.elimination.specs.Ridge.{Solution, solved, unsolved, written}
use Rattle.gauss.specs.Solve.{
  System,
  Slices,
  outputs,
  needed,
  status,
  told_by,
  solution_for,
  answer_by,
  solution_told,
  solution_over,
  filled,
  Solves,
  Accepted,
  Searched,
}

-- ---- the checks

-- what holds where no check fails
pub record Passed (i : System) (s : Slices) : Type 0 where
  pub order : i.n ≤ max_order
  pub columns : i.c ≤ max_columns
  pub left_count : length i.left ≡ i.n * i.n
  pub right_count : length i.right ≡ i.n * i.c
  pub cell_room : needed i.n i.c ≤ length s.workspace
  pub solution_room : outputs i.n i.c ≤ length s.solution

module _ (i : System) (s : Slices) (accept : status i s ≡ accepted) where
  abbrev checks : List (ℕ × Bool)
  checks =
      (bad_lengths, eqb (length i.left) (i.n * i.n) && eqb (length i.right) (i.n * i.c))
      ∷ (past_limit, within_system_limits i.n i.c)
      ∷
      (too_short, leb (needed i.n i.c) (length s.workspace) && leb (outputs i.n i.c) (length s.solution))
      ∷ []

  check_at : (k : ℕ) → k < 3 → (get_or checks k (0, true)).1 ≡ true
  unfolding every
  check_at k h = passed_at_lem checks k refl accept h

  pub passed : Passed i s
  passed =
      let sides = and_true _ _ (check_at 0 (omega arith)) in
      let limits = system_limits i.n i.c (check_at 1 (omega arith)) in
      let room = and_true _ _ (check_at 2 (omega arith)) in
      record {
        order = limits.order;
        columns = limits.columns;
        left_count = eqb-true (length i.left) (i.n * i.n) sides.0;
        right_count = eqb-true (length i.right) (i.n * i.c) sides.1;
        cell_room = leb-true (needed i.n i.c) (length s.workspace) room.0;
        solution_room = leb-true (outputs i.n i.c) (length s.solution) room.1;
      }

-- ---- the contract

-- the number of a refusal is the status that it was made of: of the three checks, the first that fails
numbered : (sides limits room : Bool)
    → let q = first_failing ((bad_lengths, sides) ∷ (past_limit, limits) ∷ (too_short, room) ∷ []) in
    eqb q accepted ≡ false → number_of (refusal_by q) ≡ q
numbered false limits room e = refl
numbered true false room e = refl
numbered true true false e = refl
numbered true true true e = absurd (true≢false e)

-- a check's answer: an error where one fails, by its status, and else none
module _ (q : ℕ) where
  err_by : (b : Bool) (r : Refusal) → eqb q accepted ≡ b
      → cond {A = Result ⊤ Refusal} b (Ok tt) (Err (refusal_by q)) ≡ Err r
      → (eqb q accepted ≡ false) × (r ≡ refusal_by q)
  err_by true r t h = cc
  err_by false r t h = (t, cc)

  ok_by : (b : Bool) (u : ⊤) → eqb q accepted ≡ b → cond {A = Result ⊤ Refusal} b (Ok tt) (Err (refusal_by q)) ≡ Ok u
      → q ≡ accepted
  ok_by true u t h = eqb-true q accepted t
  ok_by false u t h = cc

  pub is_accepted : (u : ⊤) → checked q ≡ Ok u → q ≡ accepted
  is_accepted u e = ok_by (eqb q accepted) u refl e

-- a refused call
pub refused : (i : System) (s : Slices) (r : Refusal) → checked (status i s) ≡ Err r
    → Solves i (change s s) (Err r)
refused i s r e =
    let q = err_by (status i s) (eqb (status i s) accepted) r refl e in
    let number = numbered (eqb (length i.left) (i.n * i.n) && eqb (length i.right) (i.n * i.c))
    (within_system_limits i.n i.c)
    (leb (needed i.n i.c) (length s.workspace) && leb (outputs i.n i.c) (length s.solution)) q.0 in
    rw q.1
    (record {
      answer = simp (q.0);
      told = ap only number ∙ simp (q.0);
      slices = simp (q.0);
    })

-- what a call needs of its slices: n cells of the workspace, m of the output
module _ (i : System) (s : Slices) (n m : ℕ) (en : n ≡ needed i.n i.c) (em : m ≡ outputs i.n i.c) where
  abbrev pub parts : Slices
  parts = record { workspace = take n s.workspace; solution = take m s.solution }

  module _ (p : Passed i s) where
    pub cells_taken : length parts.workspace ≡ n
    cells_taken = length-take-le n s.workspace (omega (arith, p.cell_room))

    pub outputs_taken : length parts.solution ≡ m
    outputs_taken = length-take-le m s.solution (omega (arith, p.solution_room))

    -- the search takes them
    pub taken : Accepted i parts
    taken =
        record {
          order = p.order;
          columns = p.columns;
          left_count = p.left_count;
          right_count = p.right_count;
          cell_count = cells_taken ∙ en ∙ sym (mul-add i.n i.n i.c);
          solution_count = outputs_taken ∙ em;
        }

  -- the part of the output that was lent, in front of the rest
  written_is : (x : Solution) (cells : List Float) → cells ≡ written x parts.solution → length cells ≡ m
      → cells ++ drop m s.solution ≡ solution_over x s.solution
  written_is (solved eps x) cells e l = overwrite_front x cells s.solution m e l
  written_is unsolved cells e l =
      ap (λ (t : List Float). t ++ drop m s.solution) e ∙ take-append-drop m s.solution

  told_is : (x : Solution) → told_by (Ok (answer_by x)) ≡ solution_told x
  told_is (solved eps cells) = refl
  told_is unsolved = refl

  -- an accepted one, from what the search left in the parts
  pub answered : status i s ≡ accepted → (t : Slices) (r : Option Float) → Searched i (change parts t) r
      → length t.workspace ≡ length parts.workspace → length t.solution ≡ length parts.solution
      → Solves i (change s (record {
        workspace = t.workspace ++ drop n s.workspace;
        solution = t.solution ++ drop m s.solution;
      })) (Ok r)
  answered e t r f lw ls =
      let p = passed i s e in
      let test : eqb (status i s) accepted ≡ true = eq-eqb (status i s) 0 e in
      let workspace_is =
      overwrite_front (replicate (needed i.n i.c) zero64) t.workspace s.workspace n
      (f.cells ∙ ap (λ (k : ℕ). replicate k zero64) (cells_taken p ∙ en)) (lw ∙ cells_taken p) in
      let solution_is = written_is (solution_for i) t.solution f.solution (ls ∙ outputs_taken p) in
      record {
        answer = rw test (ap Ok f.answer);
        told = rw test (ap (λ (o : Option Float). told_by (Ok o)) f.answer ∙ told_is (solution_for i));
        slices =
            (λ k. record { workspace = workspace_is k; solution = solution_is k })
            ∙ sym (ap (λ (b : Bool). cond b (filled i s) s) test);
      }
