-- `zorkamai::zorkamai_solve` meets its contract: by those of the two that it calls.
use Rattle.zorkamai.proofs.Calls.{exported}
use Rattle.zorkamai.specs.Answers.{of_solve}
use Rattle.zorkamai.proofs.zorkamai_solve.Goals as goal

pub returns : goal.returns
returns c =
    exported of_solve _ c.from.ensures c.solve.ensures.answer
    c.solve.ensures
