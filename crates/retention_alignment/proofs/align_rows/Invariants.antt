-- The loop's invariant: the first i rows' times are written (`up_to i`).
use mathlib.Core.Path.{◌≡◌}
use mathlib.Core.List.{map}
use Rattle.matrix.proofs.Lists.{over}
use Rattle.rt_matrix.proofs.Lists.{up_to}
use Rattle.retention_alignment.specs.Observation.{observations}
use Rattle.retention_alignment.specs.Alignments.{aligned_in}
use Rattle.retention_alignment.proofs.align_rows.Given as goal

abbrev pub invariant-loop-i : goal.invariant-loop-i
invariant-loop-i l =
    l.aligned
    ≡ up_to over l.i l.initial.aligned
    (map (aligned_in l.columns.max_rt.now l.columns.slope.now l.columns.intercept.now)
    (observations l.observed.file.now l.observed.peptide.now l.observed.rt.now))
