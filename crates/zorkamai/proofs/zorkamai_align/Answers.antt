-- `zorkamai::zorkamai_align` meets its contract: by those of the two that it calls.
use Rattle.std.proofs.Common.{rules}
use Rattle.zorkamai.proofs.Calls.{exported, columns_are, aligned_by}
use Rattle.zorkamai.specs.Answers.{of_align}
use Rattle.zorkamai.proofs.zorkamai_align.Goals as goal

pub returns : goal.returns
returns c =
    let entry = c.global_alignment.ensures.aligned in
    let columns = c.global_alignment.new.columns in
    exported of_align _ c.status_of.ensures entry.answer
    (aligned_by _ _ _ _ _ _ _ entry
    (columns_are columns _ _ _ _ _ _ _
    (search rules) (search rules) (search rules) (search rules) (search rules) (search rules) (search rules)))
