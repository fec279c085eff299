-- `elimination::reduced::left_solved` meets its contract. The loop's invariant: what is left of the rows gives what
-- all of them give; row i starts at `at`.
use mathlib.Core.Path.{◌≡◌, ap, ◌∙◌}
use mathlib.Core.Bool.{Bool, true, false, not}
use mathlib.Core.List.{List}
use Prim.Native.Nat.{ℕ, suc, ◌+◌, ◌-◌, ◌*◌, ◌≤◌, ◌<◌}
use native.Mathlib.Omega.{arith}
use native.Mathlib.Numerals.{add-one}
use lib.ListN.{length, take, drop, drop_of_length-le}
use lib.Ieee.{Float}
use Rattle.matrix.specs.Rows.{rows_of}
use Rattle.matrix.proofs.Laws.{length_rows_of}
use Rattle.elimination.specs.Rows.{row_of}
use Rattle.elimination.specs.Elimination.{row_solved, solved_from, left_solved}
use Rattle.elimination.proofs.Elimination.{left_solved_row, test_fails, test_holds}
use Rattle.elimination.proofs.Rows.{next_start, left_part}
use Rattle.elimination.proofs.reduced.left_solved.Goals as goal

-- a row, and what its test says of the rows from it on
module _ (n w i at : ℕ) (r : Bool) (cells : List Float) (t : i < n) (wide : n ≤ w) (e : at ≡ i * w)
    (is : r ≡ row_solved i 0 (take (at + n - at) (drop at cells)))
    (inv : solved_from n i (drop i (rows_of w n cells)) ≡ left_solved n (rows_of w n cells)) where
  here : r ≡ row_solved i 0 (take n (row_of (rows_of w n cells) i))
  here = is ∙ ap (row_solved i 0) (left_part n w i at cells t wide e)

  fails : not r ≡ true → false ≡ left_solved n (rows_of w n cells)
  fails f =
      let rows : List (List Float) = rows_of w n cells in
      let h : i < length rows = rw length_rows_of t in
      test_fails r (row_solved i 0 (take n (row_of rows i))) (solved_from n (suc i) (drop (suc i) rows))
      (solved_from n i (drop i rows)) (left_solved n rows) here (left_solved_row n i rows h) inv f

  holds : not r ≡ false → solved_from n (i + 1) (drop (i + 1) (rows_of w n cells)) ≡ left_solved n (rows_of w n cells)
  holds f =
      let rows : List (List Float) = rows_of w n cells in
      let h : i < length rows = rw length_rows_of t in
      rw add-one
      (test_holds r (row_solved i 0 (take n (row_of rows i))) (solved_from n (suc i) (drop (suc i) rows))
      (solved_from n i (drop i rows)) (left_solved n rows) here (left_solved_row n i rows h) inv f)

pub returns-then-not-row_solved : goal.returns-then-not-row_solved
returns-then-not-row_solved c =
    let l = c.loop-i in
    let s = c.args.size in
    fails s.n s.w l.i l.at c.row_solved.result c.args.cells.now (omega arith) s.left l.invariant.0
    c.row_solved.ensures l.invariant.1 (ap not c.if-not-row_solved.true)

pub loop-i-preserved : goal.loop-i-preserved
loop-i-preserved c =
    let l = c.loop-i in
    let s = c.args.size in (
      next_start l.at l.i s.w l.invariant.0,
      holds s.n s.w l.i l.at c.row_solved.result c.args.cells.now (omega arith) s.left l.invariant.0
          c.row_solved.ensures l.invariant.1 (ap not c.if-not-row_solved.false),
    )

pub returns : goal.returns
unfolding solved_from
returns c =
    let rows : List (List Float) = rows_of c.args.size.w c.args.size.n c.args.cells.now in
    let all : length rows ≤ c.loop-i.i = rw length_rows_of (omega arith) in
    rw (drop_of_length-le rows all) at c.loop-i.invariant.1
