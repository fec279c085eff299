-- `embedding::retention_model::split` meets its contract: the counts are written out, and the rest is listed.
use mathlib.Core.Path.{refl, sym, ap, ◌∙◌}
use mathlib.Core.List.{map}
use lib.ListN.{take, drop}
use lib.Seq.{take_at}
use Rattle.float.specs.Number.{number}
use Rattle.embedding.specs.Design.{column_counts}
use Rattle.embedding.proofs.Rows.{retention_first}
use Rattle.embedding.proofs.Appending.{all_counted, length_counted}
use Rattle.embedding.proofs.retention_model.split.Goals as goal

pub returns-clause-head_after : goal.returns-clause-head_after
returns-clause-head_after c =
    let a = c.args in
    let l = a.ion.letters.now in
    ap (take 22) c.put_counts.ensures
    ∙ take_at (map number (column_counts l)) (drop 22 a.head.now) 22 (length_counted l)
    ∙ all_counted l refl
    ∙ sym (retention_first l a.ion.log)
