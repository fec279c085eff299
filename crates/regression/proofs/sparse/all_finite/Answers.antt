-- `regression::sparse::all_finite` meets its contract. The loop's invariant: all cells are finite where the flag
-- says so and those from the index on are.
use mathlib.Core.Path.{◌≡◌, sym, ap, ◌∙◌}
use mathlib.Core.Bool.{Bool, ◌&&◌, and-true, and-false}
use Prim.Native.Nat.{ℕ, ◌+◌}
use native.Mathlib.Numerals.{add-one}
use native.Mathlib.Omega.{arith}
use lib.ListN.{get_or, drop, drop_of_length-le}
use lib.Ieee.{Float, nan}
use Rattle.float.specs.Value.{is_finite}
use Rattle.status.specs.Checks.{every}
use Rattle.status.proofs.Laws.{every_step}
use Rattle.regression.specs.Sparse.{all_finite}
use Rattle.regression.proofs.sparse.all_finite.Goals as goal
use Rattle.regression.proofs.sparse.all_finite.Goals.{then-not-is_finite64, else-not-is_finite64}

pub loop-cell-preserved : goal.loop-cell-preserved
loop-cell-preserved c =
    let f = c.is_finite64 in
    let l = c.loop-cell in
    let cells = c.args.cells.now in
    let i : ℕ = l.cell-index in
    let x : Float = get_or cells i nan in
    let later : Bool = every is_finite (drop (i + 1) cells) in
    let step : all_finite cells ≡ l.finite && (is_finite x && later) =
    l.invariant ∙ ap (λ (b : Bool). l.finite && b) (every_step is_finite i cells nan (omega arith) ∙ rw add-one) in
    elim c.if-not-is_finite64.branch [
      | then-not-is_finite64 w ↦
          rw w.finite-is (step ∙ rw (sym f.ensures ∙ w.if-not-is_finite64.true) (and-false l.finite))
      | else-not-is_finite64 w ↦ rw w.finite-is (step ∙ rw (sym f.ensures ∙ w.if-not-is_finite64.false))
    ]

pub returns : goal.returns
unfolding every
returns c =
    let l = c.loop-cell in
    let cells = c.args.cells.now in
    sym (l.invariant ∙ rw (drop_of_length-le cells {i = l.cell-index} (omega arith)) (and-true l.finite))
