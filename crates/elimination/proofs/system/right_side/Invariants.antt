-- `elimination::system::right_side` meets its contract. The loop's invariant: the first i rows of the output are the
-- right side's (`made i`), and row i of the system and of the output starts at `at` and `s`.
use mathlib.Core.Path.{◌≡◌}
use mathlib.Core.List.{[], map}
use Prim.Native.Nat.{◌+◌, ◌*◌}
use lib.ListN.{get_or, drop}
use Rattle.matrix.specs.Rows.{rows_of}
use Rattle.elimination.proofs.Made.{made}
use Rattle.elimination.proofs.system.right_side.Given as goal

abbrev pub invariant-loop-i : goal.invariant-loop-i
invariant-loop-i l =
    (l.at ≡ l._i * (l.n + l.c))
    × (l.s ≡ l._i * l.c)
    ×
    (rows_of l.c l.n l.solution
    ≡ made (λ j x. get_or (map (drop l.n) (rows_of (l.n + l.c) l.n l.cells)) j (drop l.n [])) l._i
    (rows_of l.c l.n l.initial.solution))
