-- `status::all_below` meets its contract: `all` answers what `every` does.
use Rattle.std.proofs.Common.{◌∙◌, ltb, rules, tests}
use Rattle.std.proofs.lemmas.Iterator.{YieldsList-from_slice}
use Rattle.std.proofs.lemmas.Iterator.Search.{all_from_yields_List}
use Rattle.status.proofs.Laws.{every_is}
use Rattle.status.proofs.all_below.Goals as goal

pub returns : goal.returns
returns c =
    let p = c.args in
    all_from_yields_List (λ x. ltb x p.n) _ _ c.all.result c.all.ensures.ran (YieldsList-from_slice p.xs.now cc) (λ x b q k. search (rules, tests))
    ∙ every_is (λ x. ltb x p.n) p.xs.now
