-- The loop's invariant: the states, carried on over the rows that are left, give what the whole gives; `left` holds
-- these rows; and each file has room for a point of each of them.
use mathlib.Core.Path.{◌≡◌}
use mathlib.Core.List.{foldl}
use Prim.Native.Nat.{◌+◌, ◌-◌, ◌*◌, ◌<◌, ◌^◌}
use lib.ListN.{length}
use Rattle.std.specs.List.{All}
use Rattle.rt_matrix.specs.Cells.{row_shares, after_row}
use Rattle.rt_matrix.proofs.points.add_peptides.Given as goal

abbrev pub invariant-loop-p : goal.invariant-loop-p
invariant-loop-p g l =
    (length l.left ≡ (l.peptides - l.p) * length l.max)
    × All (λ s. g.T.Gather.count s + (l.peptides - l.p) < 2 ^ 32) l.states
    ×
    (foldl (after_row g.T.Gather.step) l.states (row_shares l.max (l.peptides - l.p) l.left)
    ≡ foldl (after_row g.T.Gather.step) l.initial.states (row_shares l.max l.peptides l.cells))
