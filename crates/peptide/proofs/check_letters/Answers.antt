-- `peptide::check_letters` meets its contract: `all` answers what `every` does.
use Rattle.std.proofs.Common.{◌∙◌, rules, tests}
use Rattle.std.proofs.lemmas.Iterator.{YieldsList-from_slice}
use Rattle.std.proofs.lemmas.Iterator.Search.{all_from_yields_List}
use Rattle.mass.specs.Mass.{is_letter}
use Rattle.status.proofs.Laws.{every_is}
use Rattle.peptide.proofs.check_letters.Goals as goal

pub returns : goal.returns
returns c =
    let letters = c.args.letters.now in
    all_from_yields_List is_letter _ _ c.all.result c.all.ensures.ran (YieldsList-from_slice letters cc) (λ x b q k. search (rules, tests))
    ∙ every_is is_letter letters
