-- `elimination::echelon::fill_zero` meets its contract. The loop's invariant: the ridge is on the diagonal of the
-- first i rows (`made i`), and row i starts at `at`.
use mathlib.Core.Path.{◌≡◌}
use Prim.Native.Nat.{◌*◌}
use Rattle.matrix.specs.Rows.{rows_of}
use Rattle.elimination.specs.Elimination.{ridged}
use Rattle.elimination.proofs.Made.{made}
use Rattle.elimination.proofs.echelon.fill_zero.Given as goal

abbrev pub invariant-loop-i : goal.invariant-loop-i
invariant-loop-i l =
    (l.at ≡ l.i * l.size.w)
    × (rows_of l.size.w l.size.n l.cells
    ≡ made (ridged l.eps) l.i (rows_of l.size.w l.size.n l.initial.cells))
