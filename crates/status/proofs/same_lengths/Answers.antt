-- `status::same_lengths` meets its contract: `all` answers what `every` does.
use Rattle.std.proofs.Common.{◌∙◌, [], ◌∷◌, eqb, rules, tests}
use Rattle.std.proofs.lemmas.Iterator.{YieldsList-from_slice}
use Rattle.std.proofs.lemmas.Iterator.Search.{all_from_yields_List}
use Rattle.status.proofs.Laws.{every_is}
use Rattle.status.proofs.same_lengths.Goals as goal

pub returns : goal.returns
returns c =
    let p = c.args in
    let lengths = p.a ∷ p.b ∷ p.c ∷ p.d ∷ [] in
    all_from_yields_List (λ m. eqb m p.n) _ _ c.all.result c.all.ensures.ran (YieldsList-from_slice lengths cc) (λ x b q k. search (rules, tests))
    ∙ every_is (λ m. eqb m p.n) lengths
