-- `align_output::write_aligned` meets its contract. The loop's invariant: what is written, and the lines of the times
-- that are left behind it, are what was written before, and the lines of all behind it.
use Rattle.std.proofs.Common.{◌≡◌, ◌++◌, drop}
use Rattle.align_output.specs.Output.{aligned_text}
use Rattle.align_output.proofs.write_aligned.Given as goal

abbrev pub invariant-loop-time : goal.invariant-loop-time
invariant-loop-time g l =
    l.out ++ aligned_text (drop l.time-index l.aligned) ≡ l.initial.out ++ aligned_text l.aligned
