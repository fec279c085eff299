-- `elimination::reduced::reduce` meets its contract: each row is divided.
use mathlib.Core.Path.{◌≡◌}
use Prim.Native.Nat.{◌≤◌}
use native.Mathlib.Omega.{arith}
use borrow.Author.Rules.{rules}
use lib.ListN.{length}
use Rattle.elimination.specs.Elimination.{divided}
use Rattle.elimination.proofs.Rows.{row_length, rows_changed}
use Rattle.elimination.proofs.reduced.reduce.Goals as goal

pub each_row-requires-clause-accepts : goal.each_row-requires-clause-accepts
each_row-requires-clause-accepts c = λ i p h e.
    let s = c.args.size in
    let w : length p.now ≡ s.w = row_length s.w s.n i c.args.cells.now p.now c.requires h e in
    let k : s.n ≤ length p.now = omega (arith, s.left) in
    search rules

pub returns : goal.returns
returns c =
    let s = c.args.size in
    rows_changed s.w s.n (divided s.n) c.args.cells.now c.each_row.new.cells c.each_row.ensures
    (λ i p q k. search rules)
