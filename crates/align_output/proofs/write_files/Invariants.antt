-- `align_output::write_files` meets its contract. The loop's invariant: what is written, and the texts of the files
-- that are left behind it, are what was written before, and the texts of all behind it.
use Rattle.std.proofs.Common.{◌≡◌, ◌++◌, drop}
use Rattle.align_output.specs.Output.{printed_at, files_text}
use Rattle.align_output.proofs.write_files.Given as goal

abbrev pub invariant-loop-i : goal.invariant-loop-i
invariant-loop-i g l =
    l.out ++ files_text l.i (drop l.i (printed_at l.files)) ≡ l.initial.out ++ files_text 0 (printed_at l.files)
