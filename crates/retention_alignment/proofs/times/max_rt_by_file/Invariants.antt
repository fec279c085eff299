-- The loop's invariant: each file's longest time so far, with that of the rows from i on, is that of all rows.
use mathlib.Core.Path.{◌≡◌}
use Prim.Native.Nat.{ℕ, ◌<◌}
use lib.ListN.{length, get_or}
use Rattle.retention_alignment.specs.Observation.{max_rt, observations}
use Rattle.retention_alignment.proofs.Rows.{rows_from}
use Rattle.retention_alignment.proofs.times.max_rt_by_file.Given as goal

abbrev pub invariant-loop-i : goal.invariant-loop-i
invariant-loop-i l =
    let o = l.observed in
    (f : ℕ) → f < length l.initial.max → Prim.Native.Nat.max
    (get_or l.max f 0) (max_rt f (rows_from o.file.now o.peptide.now o.rt.now l.i))
    ≡ max_rt f (observations o.file.now o.peptide.now o.rt.now)
