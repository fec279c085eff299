-- `zorkamai::zorkamai_run` meets its contract: by those of the two that it calls.
use Rattle.std.proofs.Common.{rules}
use Rattle.zorkamai.proofs.Calls.{exported, columns_are, outputs_are, run_by}
use Rattle.zorkamai.specs.Answers.{of_run}
use Rattle.zorkamai.proofs.zorkamai_run.Goals as goal

pub returns : goal.returns
returns c =
    let entry = c.run.ensures.called in
    let columns = c.run.new.records in
    exported of_run _ c.from.ensures entry.answer
    (run_by _ _ _ _ _ _ _ _ _ _ _ entry
    (columns_are columns _ _ _ _ _ _ _
    (search rules) (search rules) (search rules) (search rules) (search rules) (search rules) (search rules))
    (outputs_are _ _ _ _ (search rules) (search rules) (search rules))
    (outputs_are _ _ _ _ (search rules) (search rules) (search rules)))
