-- `regression::put_starts` meets its contract. The loop's invariant: the starts of the first j rows are written, and
-- start is row j's.
use mathlib.Core.Path.{◌≡◌}
use Prim.Native.Nat.{ℕ, ◌+◌, ◌*◌, ◌≤◌, ◌<◌}
use lib.ListN.{length, get_or}
use Rattle.packed_rows.specs.Falling.{falling_start}
use Rattle.regression.proofs.put_starts.Given as goal

abbrev pub invariant-loop-j : goal.invariant-loop-j
invariant-loop-j l =
    (l.start ≡ falling_start (l.d + 1) l.j)
    × (l.start ≤ l.j * 101)
    × (length l.starts ≡ length l.initial.starts)
    × ((i : ℕ) → i < l.j → get_or l.starts i 0 ≡ falling_start (l.d + 1) i)
