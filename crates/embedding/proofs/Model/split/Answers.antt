-- `embedding::Model::split` meets its contract: what is listed is no more than the row.
use native.Mathlib.Omega.{arith}
use lib.ListN.{length-drop}
use Rattle.embedding.specs.Design.{head_of, design}
use Rattle.embedding.proofs.Totals.{totals}
use Rattle.embedding.proofs.Model.split.Goals as goal

pub returns-clause-upper_bound : goal.returns-clause-upper_bound
returns-clause-upper_bound c =
    let m = c.args.self in
    let i = c.args.ion in
    let row = design m i.letters.now i.log i.mass i.charge in
    let few = rw c.new-listing.ensures at c.split_row.ensures.listed.few in
    omega (
      arith,
      few,
      length-drop (head_of m) row,
      (totals m i.letters.now i.log i.mass i.charge).columns,
    )
