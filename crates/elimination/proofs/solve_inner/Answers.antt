-- `elimination::solve_inner` meets its contract: each step's rows are those of the step before it, in the
-- definition's order.
use mathlib.Core.Path.{◌≡◌, ap, ◌∙◌}
use mathlib.Core.List.{List}
use Prim.Native.Nat.{ℕ, ◌+◌}
use lib.Ieee.{Float}
use Rattle.matrix.specs.Rows.{rows_of}
use Rattle.matrix.proofs.Laws.{is_flat}
use Rattle.elimination.specs.Elimination.{echelon, reduce, backfill, left_solved, eliminate}
use Rattle.elimination.proofs.solve_inner.Goals as goal

pub returns : goal.returns
unfolding eliminate
returns c =
    let n : ℕ = c.args.n in
    let w : ℕ = c.args.n + c.args.c in
    let last : List Float = c.backfill.new.cells in
    let rows : rows_of w n last ≡ eliminate n c.args.eps (rows_of w n c.args.cells.now) =
    c.backfill.ensures
    ∙ ap (backfill n)
    (c.reduce.ensures ∙ ap (reduce n) (c.echelon.ensures ∙ ap (echelon n) c.fill_zero.ensures)) in
    record {
      rows = rows;
      cells =
          is_flat w n last (eliminate n c.args.eps (rows_of w n c.args.cells.now))
          (c.backfill.auto.cells ∙ c.reduce.auto.cells ∙ c.echelon.auto.cells ∙ c.fill_zero.auto.cells
          ∙ c.requires.count) rows;
      solved = c.left_solved.ensures ∙ ap (left_solved n) rows;
    }
