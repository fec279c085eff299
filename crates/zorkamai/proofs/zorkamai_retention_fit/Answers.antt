-- `zorkamai::zorkamai_retention_fit` meets its contract: by those of the two that it calls.
use Rattle.zorkamai.proofs.Calls.{exported}
use Rattle.zorkamai.specs.Answers.{of_fit}
use Rattle.zorkamai.proofs.zorkamai_retention_fit.Goals as goal

pub returns : goal.returns
returns c =
    let entry = c.fit.ensures in
    exported of_fit _ c.from.ensures entry.answer entry
