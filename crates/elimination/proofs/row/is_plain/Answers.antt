-- `elimination::row::is_plain` meets its contract: each cell passed the test.
use mathlib.Core.Path.{◌≡◌, sym, ◌∙◌}
use Rattle.std.proofs.Common.{tests}
use Rattle.std.proofs.lemmas.Iterator.{YieldsList-from_slice}
use Rattle.std.proofs.lemmas.Iterator.Search.{all_from_yields_List}
use Rattle.std.specs.List.{list_all}
use Rattle.float.specs.Value.{not_minus_zero}
use Rattle.elimination.proofs.Plain.{all_plain}
use borrow.Author.Rules.{rules}
use Rattle.elimination.proofs.row.is_plain.Goals as goal

pub returns : goal.returns
returns c e =
    let all : c.all.result ≡ list_all not_minus_zero c.args.row.now =
    all_from_yields_List not_minus_zero _ _ c.all.result c.all.ensures.ran
    (YieldsList-from_slice c.args.row.now c.iter.ensures.rest) (λ x b q k. search (rules, tests)) in
    all_plain c.args.row.now c.type_inv.row (sym all ∙ e)
