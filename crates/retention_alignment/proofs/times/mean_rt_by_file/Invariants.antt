-- The loop's invariant: what each cell holds, carried on over the training rows from i on, is the smallest time of all
-- training rows.
use mathlib.Core.Path.{◌≡◌}
use Prim.Native.Nat.{ℕ, ◌<◌}
use Rattle.retention_alignment.specs.Observation.{min_rt}
use Rattle.retention_alignment.proofs.Rows.{training_from}
use Rattle.retention_alignment.proofs.Smallest.{carried}
use Rattle.retention_alignment.proofs.times.mean_rt_by_file.Given as goal

abbrev pub invariant-loop-i : goal.invariant-loop-i
invariant-loop-i l =
    let o = l.observed in
    (p f : ℕ) → p < o.peptides → f < o.files
    → carried l.cells o.files (training_from o.file.now o.peptide.now o.rt.now o.label.now o.q.now l.i) p f
    ≡ min_rt p f (training_from o.file.now o.peptide.now o.rt.now o.label.now o.q.now 0)
