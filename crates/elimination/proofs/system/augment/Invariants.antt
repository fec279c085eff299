-- `elimination::system::augment` meets its contract. The loop's invariant: the first i rows are joined (`made i`),
-- and row i of the cells and of the two sides starts at `at`, `l` and `r`.
use mathlib.Core.Path.{◌≡◌}
use Prim.Native.Nat.{◌+◌, ◌*◌}
use Rattle.matrix.specs.Rows.{rows_of}
use Rattle.elimination.specs.Rows.{row_of, augmented}
use Rattle.elimination.proofs.Made.{made}
use Rattle.elimination.proofs.system.augment.Given as goal

abbrev pub invariant-loop-i : goal.invariant-loop-i
invariant-loop-i l =
    (l.at ≡ l._i * (l.n + l.c))
    × (l.l ≡ l._i * l.n)
    × (l.r ≡ l._i * l.c)
    ×
    (rows_of (l.n + l.c) l.n l.cells
    ≡ made (λ j x. row_of (augmented (rows_of l.n l.n l.left) (rows_of l.c l.n l.right)) j) l._i
    (rows_of (l.n + l.c) l.n l.initial.cells))
