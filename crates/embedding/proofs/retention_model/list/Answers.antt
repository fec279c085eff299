-- `embedding::retention_model::list` meets its contract: the counts, and behind them the rest.
use native.Mathlib.Omega.{arith}
use Rattle.embedding.specs.Design.{everywhere}
use Rattle.embedding.proofs.Rows.{length_block, retention_whole}
use Rattle.embedding.proofs.Appending.{both_listed, listed_as, all_counted}
use Rattle.embedding.proofs.retention_model.list.Goals as goal

pub returns-clause-listed : goal.returns-clause-listed
returns-clause-listed c =
    let l = c.args.ion.letters.now in
    listed_as (retention_whole l c.args.ion.log)
    (both_listed (listed_as (all_counted l c.count-seen.ensures.counts_after) c.push_counts.ensures.listed)
    (omega (arith, length_block everywhere l))
    c.list_rest.ensures.listed)
