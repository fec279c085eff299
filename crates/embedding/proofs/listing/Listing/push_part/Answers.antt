-- `embedding::listing::Listing::push_part` meets its contract: by how many letters there are.
use mathlib.Core.Path.{refl, sym, ap}
use mathlib.Core.List.{map, append-nil}
use Prim.Native.Nat.{◌<◌}
use native.Mathlib.Omega.{arith}
use lib.Ieee.{of_bits, of_int}
use lib.ListN.{take}
use Rattle.float.specs.Number.{number}
use Rattle.embedding.proofs.Rows.{column_within}
use Rattle.embedding.proofs.Appending.{listed_as}
use Rattle.embedding.proofs.Pairs.{no_letter, one_letter, two_letters, pair_listed, cell_shown, one_some}
use Rattle.embedding.proofs.listing.Listing.push_part.Goals as goal

pub returns-in-empty-clause-listed : goal.returns-in-empty-clause-listed
returns-in-empty-clause-listed c =
    let a = c.args in
    let s = c.args.self.now in
    pair_listed (no_letter a.part.now a.at (omega arith)) (omega arith)
    (sym (append-nil (take s.len s.places.now))) (sym (append-nil (take s.len s.values.now)))

pub overflow_add-at : goal.overflow_add-at
overflow_add-at c =
    let h : c.column.result < 22 = column_within _ _ c.column.ensures in
    omega arith

pub returns-in-len1-clause-listed : goal.returns-in-len1-clause-listed
unfolding of_bits of_int
returns-in-len1-clause-listed c =
    let a = c.args in
    cell_shown (one_letter a.part.now a.at c.column.result (omega arith) c.column.ensures)
    refl refl one_some c.push_some.ensures.listed

pub push_two-requires-clause-columns : goal.push_two-requires-clause-columns
push_two-requires-clause-columns c =
    (column_within _ _ c.column-in-len2-up.ensures, column_within _ _ c.column-in-len2-up-2.ensures, omega arith)

pub returns-in-len2-up-clause-listed : goal.returns-in-len2-up-clause-listed
returns-in-len2-up-clause-listed c =
    listed_as
    (sym
    (ap (map number)
    (two_letters c.args.part.now _ _ (omega arith) c.column-in-len2-up.ensures c.column-in-len2-up-2.ensures)))
    c.push_two.ensures.listed

pub push_some-requires-clause-some : goal.push_some-requires-clause-some
unfolding of_bits of_int
push_some-requires-clause-some c = one_some
