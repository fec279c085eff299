-- `gauss::first_solved` meets its contract. The loop's invariant: what the ridges from eps on solve is what all of
-- them solve, the ridges from eps on are within the series, and the output is as it was. The measure is how many
-- ridges are left.
use mathlib.Core.Path.{◌≡◌, refl, sym, ap, ◌∙◌}
use mathlib.Core.List.{List}
use mathlib.Core.Bool.{Bool}
use Prim.Native.Nat.{ℕ, ◌+◌}
use lib.ListN.{replicate}
use lib.Ieee.{Float, of_bits, round}
use Rattle.matrix.specs.Rows.{rows_of}
use Rattle.float.specs.Number.{zero64}
use Rattle.elimination.specs.Rows.{augmented}
use Rattle.elimination.specs.Elimination.{Tried, eliminate, left_solved}
use Rattle.elimination.specs.Ridge.{Solution, solved, unsolved, right_side, written}
use Rattle.gauss.specs.Solve.{solution_of, answer_by}
use Rattle.elimination.proofs.Ridges.{within_first, within_next, fewer, solves_here, solves_later, none_solves}
use Rattle.gauss.proofs.first_solved.Goals as goal

-- a try on the joined rows: what it leaves, and what it answers
same_rows : (n c : ℕ) (eps : Float) (rows : List (List Float)) (joined after : List Float) (r : Bool)
    → rows_of (n + c) n joined ≡ rows
    → Tried n c eps joined after r
    → (rows_of (n + c) n after ≡ eliminate n eps rows) × (r ≡ left_solved n (eliminate n eps rows))
same_rows n c eps rows joined after r e t =
    (t.rows ∙ ap (eliminate n eps) e, t.solved ∙ ap (λ (z : List (List Float)). left_solved n (eliminate n eps z)) e)

pub returns-then-solve_inner : goal.returns-then-solve_inner
unfolding of_bits
returns-then-solve_inner c =
    let t =
    c.solve_inner in
    let rows =
    same_rows c.args.n c.args.c c.loop-eps.eps
    (augmented (rows_of c.args.n c.args.n c.args.left.now) (rows_of c.args.c c.args.n c.args.right.now))
    c.augment.new.cells
    t.new.cells t.result
    c.augment.ensures
    t.ensures in
    let is : solved c.loop-eps.eps
    (right_side c.args.n (eliminate c.args.n c.loop-eps.eps
    (augmented (rows_of c.args.n c.args.n c.args.left.now) (rows_of c.args.c c.args.n c.args.right.now))))
    ≡ solution_of c.args.n c.args.c c.args.left.now c.args.right.now =
    sym
    (solves_here c.args.n
    (augmented (rows_of c.args.n c.args.n c.args.left.now) (rows_of c.args.c c.args.n c.args.right.now))
    c.loop-eps.eps c.loop-eps.invariant.0 c.loop-eps-test.true (sym rows.1 ∙ c.if-solve_inner.true))
    ∙ c.loop-eps.invariant.3 in
    record {
      answer = ap answer_by is;
      cells =
          c.zeros.ensures
          ∙ ap (λ (k : ℕ). replicate k zero64)
          (t.auto.cells ∙ c.augment.auto.cells ∙ c.loop-eps.invariant.2);
      solution =
          c.right_side.ensures
          ∙ ap (right_side c.args.n) rows.0
          ∙ ap (λ (z : Solution). written z c.args.solution.now) is;
    }

pub loop-eps-smaller : goal.loop-eps-smaller
unfolding of_bits
loop-eps-smaller c =
    fewer c.loop-eps.eps c.loop-eps.invariant.0
    c.loop-eps-test.true

pub loop-eps-preserved : goal.loop-eps-preserved
unfolding of_bits
loop-eps-preserved c =
    let t = c.solve_inner in
    let rows =
    same_rows c.args.n c.args.c c.loop-eps.eps
    (augmented (rows_of c.args.n c.args.n c.args.left.now) (rows_of c.args.c c.args.n c.args.right.now))
    c.augment.new.cells t.new.cells t.result c.augment.ensures t.ensures in (
      within_next c.loop-eps.eps c.loop-eps.invariant.0
          c.loop-eps-test.true,
      c.loop-eps.invariant.1,
      t.auto.cells ∙ c.augment.auto.cells ∙ c.loop-eps.invariant.2,
      sym (solves_later c.args.n
          (augmented (rows_of c.args.n c.args.n c.args.left.now) (rows_of c.args.c c.args.n c.args.right.now))
          c.loop-eps.eps c.loop-eps.invariant.0 c.loop-eps-test.true (sym rows.1 ∙ c.if-solve_inner.false))
          ∙ c.loop-eps.invariant.3,
    )

pub returns : goal.returns
unfolding of_bits
returns c =
    let is : unsolved ≡ solution_of c.args.n c.args.c c.args.left.now c.args.right.now =
    sym
    (none_solves c.args.n
    (augmented (rows_of c.args.n c.args.n c.args.left.now) (rows_of c.args.c c.args.n c.args.right.now))
    c.loop-eps.eps c.loop-eps-test.false)
    ∙ c.loop-eps.invariant.3 in
    record {
      answer = ap answer_by is;
      cells = c.zeros-2.ensures ∙ ap (λ (k : ℕ). replicate k zero64) c.loop-eps.invariant.2;
      solution = c.loop-eps.invariant.1 ∙ ap (λ (z : Solution). written z c.args.solution.now) is;
    }

pub loop-eps-init : goal.loop-eps-init
unfolding solution_of of_bits round
loop-eps-init c = (within_first, refl, refl, refl)
