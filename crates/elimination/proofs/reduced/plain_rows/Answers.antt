-- `elimination::reduced::plain_rows` meets its contract. The loop's invariant: the flags of the first i rows say what
-- they are to say; row i starts at `at`.
use mathlib.Core.Path.{◌≡◌, ◌∙◌}
use Prim.Native.Nat.{◌+◌, ◌≤◌, ◌<◌, ◌-◌}
use native.Mathlib.Nat.{add-sub_cancel_left}
use native.Mathlib.Omega.{arith}
use lib.ListN.{length, take, drop, length-set}
use Rattle.matrix.specs.Rows.{rows_of}
use Rattle.elimination.proofs.Parts.{part_length}
use Rattle.elimination.proofs.Plain.{flag_set, left_plain}
use Rattle.elimination.proofs.Rows.{next_start}
use Rattle.elimination.proofs.Shape.{inside, shape_of}
use Rattle.elimination.proofs.reduced.plain_rows.Goals as goal

pub loop-i-preserved : goal.loop-i-preserved
loop-i-preserved c =
    let l = c.loop-i in
    let n = c.args.size.n in
    let w = c.args.size.w in
    let cells = c.args.cells.now in
    let t : l.i < n = omega arith in
    let e = inside (shape_of c.args.size cells c.requires) l.i t in
    let wide : n ≤ w = c.args.size.left in
    let within : l.at + (l.at + n - l.at) ≤ length cells = omega (arith, e.0, wide) in
    let len : length (take (l.at + n - l.at) (drop l.at cells)) ≡ n =
    part_length l.at (l.at + n - l.at) cells within ∙ add-sub_cancel_left l.at n in
    let row = left_plain n w l.i l.at cells t wide l.invariant.0 len in (
      next_start l.at l.i w l.invariant.0,
      simp length-set l.invariant.1,
      flag_set l.i n l.plain (rows_of w n cells) c.is_plain.result
          (omega (arith, l.invariant.1, c.args.size.order)) l.invariant.2 (λ f. row (c.is_plain.ensures f)),
    )

pub returns : goal.returns
returns c r h = c.loop-i.invariant.2 r (omega arith)
