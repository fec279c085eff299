-- `elimination::row::first_nonzero` meets its contract: the chain's test is that of the clause.
use mathlib.Core.Bool.{not}
use lib.Ieee.{eq, ne, of_bits}
use Rattle.std.proofs.Common.{tests}
use Rattle.std.proofs.lemmas.Iterator.{YieldsList-from_slice}
use Rattle.std.proofs.lemmas.Iterator.Search.{position_from_yields_List}
use Rattle.float.specs.Number.{zero64}
use borrow.Author.Rules.{rules}
use Rattle.elimination.proofs.row.first_nonzero.Goals as goal

pub returns : goal.returns
unfolding of_bits ne
returns c =
    position_from_yields_List (λ x. not (eq x zero64)) _ _ c.position.result c.position.ensures.ran
    (YieldsList-from_slice c.args.row.now c.iter.ensures.rest) (λ x b q k. search (rules, tests))
