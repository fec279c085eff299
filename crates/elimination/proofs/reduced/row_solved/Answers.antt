-- `elimination::reduced::row_solved` meets its contract: each cell passes the test of its place.
use mathlib.Core.Path.{◌∙◌}
use lib.Dec.{eqb}
use Rattle.std.proofs.Common.{tests}
use Rattle.std.proofs.lemmas.Iterator.{YieldsList-from_slice}
use Rattle.std.proofs.lemmas.Iterator.Consumers.{YieldsList-from_enumerate}
use Rattle.std.proofs.lemmas.Iterator.Search.{all_from_yields_List}
use Rattle.elimination.specs.Elimination.{cell_solved}
use Rattle.elimination.proofs.Elimination.{row_solved_all}
use borrow.Author.Rules.{rules}
use Rattle.elimination.proofs.reduced.row_solved.Goals as goal

pub returns : goal.returns
returns c =
    all_from_yields_List (λ p. cell_solved (eqb c.args.i p.0) p.1) _ _ c.all.result c.all.ensures.ran
    (YieldsList-from_enumerate (YieldsList-from_slice c.args.row.now (cc)) (cc)) (λ x b q k. search (rules, tests))
    ∙ row_solved_all c.args.i 0 c.args.row.now
