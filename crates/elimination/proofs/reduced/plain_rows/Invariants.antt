-- `elimination::reduced::plain_rows` meets its contract. The loop's invariant: the flags of the first i rows say what
-- they are to say; row i starts at `at`.
use mathlib.Core.Path.{◌≡◌}
use Prim.Native.Nat.{◌*◌}
use lib.ListN.{length}
use Rattle.status.specs.Limits.{max_order}
use Rattle.matrix.specs.Rows.{rows_of}
use Rattle.elimination.specs.Plain.{PlainRows}
use Rattle.elimination.proofs.reduced.plain_rows.Given as goal

abbrev pub invariant-loop-i : goal.invariant-loop-i
invariant-loop-i l =
    (l.at ≡ l.i * l.size.w) × (length l.plain ≡ max_order)
    × PlainRows l.i l.size.n l.plain (rows_of l.size.w l.size.n l.cells)
