-- `embedding::mobility_model::list_composition` meets its contract: the counts, and behind them their shares.
use mathlib.Core.Path.{ap, ◌∙◌}
use native.Mathlib.Omega.{arith}
use lib.ListN.{length}
use Rattle.embedding.proofs.Appending.{length_counted, listed_as}
use Rattle.embedding.proofs.Shares.{place_listed, shares_listed}
use Rattle.embedding.proofs.mobility_model.list_composition.Goals as goal

pub push_shares-requires-clause-places_bound : goal.push_shares-requires-clause-places_bound
push_shares-requires-clause-places_bound c =
    let size = ap length c.count-seen.ensures.counts_after ∙ length_counted c.args.letters.now in
    let listed = rw c.requires.first at c.push_counts.ensures.listed in
    λ k h. omega (arith, place_listed listed k h)

pub returns-clause-listed : goal.returns-clause-listed
returns-clause-listed c =
    let r = c.requires in
    let e = c.push_shares.ensures in
    let listed = rw r.first at c.push_counts.ensures.listed in
    rw r.first
    (shares_listed c.args.letters.now r.letters_nonzero.0 r.letters_nonzero.1 (listed_as c.count-seen.ensures.counts_after listed)
    e.twice e.places_after (rw c.u32_to_f64.ensures at e.values_after))
