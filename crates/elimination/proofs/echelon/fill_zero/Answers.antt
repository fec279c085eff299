-- `elimination::echelon::fill_zero` meets its contract. The loop's invariant: the ridge is on the diagonal of the
-- first i rows (`made i`), and row i starts at `at`.
use mathlib.Core.Path.{◌≡◌, sym, ◌∙◌}
use mathlib.Core.List.{List, []}
use Prim.Native.Nat.{ℕ, suc, ◌+◌, ◌*◌, ◌≤◌, ◌<◌}
use native.Mathlib.Nat.{zero-mul}
use native.Mathlib.Omega.{arith}
use native.Mathlib.Numerals.{add-one}
use lib.ListN.{get_or, set}
use lib.Ieee.{Float, nan, binary64, add}
use Rattle.matrix.specs.Rows.{rows_of}
use Rattle.matrix.proofs.Laws.{length_rows_of, get_d_rows_of, rows_of_cell}
use Rattle.elimination.specs.Elimination.{ridged}
use Rattle.elimination.proofs.Made.{made, made_none, made_suc, made_all}
use Rattle.elimination.proofs.echelon.fill_zero.Goals as goal

-- one row more
turn : (n w i : ℕ) (eps : Float) (rows : List (List Float)) (xs : List Float) → i < n → n ≤ w
    → rows_of w n xs ≡ made (ridged eps) i rows
    → rows_of w n (set xs (i * w + i) (add binary64 (get_or xs (i * w + i) nan) eps)) ≡ made (ridged eps) (suc i) rows
turn n w i eps rows xs h l inv =
    rows_of_cell w n i i xs (add binary64 (get_or xs (i * w + i) nan) eps) h (omega arith)
    ∙ rw (← get_d_rows_of w n i i xs nan h (omega arith), inv) (made_suc (ridged eps) i rows [])

pub loop-i-preserved : goal.loop-i-preserved
loop-i-preserved c =
    let n = c.args.size.n in
    let w = c.args.size.w in (
      omega arith,
      rw (add-one, c.loop-i.invariant.0)
          (turn n w c.loop-i.i c.args.eps (rows_of w n c.args.cells.now) c.loop-i.cells (omega arith) c.args.size.left
          c.loop-i.invariant.1),
    )

pub returns : goal.returns
returns c = c.loop-i.invariant.1 ∙ made_all _ _ _ (rw length_rows_of (omega arith))

pub loop-i-init : goal.loop-i-init
loop-i-init c = (sym (zero-mul _), made_none _ _)
