-- `retention_alignment::aligned_time` meets its contract.
use Rattle.retention_alignment.specs.Alignments.{on_line}
use Rattle.retention_alignment.proofs.aligned_time.Goals as goal

pub returns : goal.returns
unfolding on_line
returns c = c.canonical32.ensures
