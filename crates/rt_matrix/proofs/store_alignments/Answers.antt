-- `rt_matrix::store_alignments` meets its contract. The loop's invariant: the first f records are written over the
-- columns, whose slices are those that were lent.
use mathlib.Core.Path.{◌≡◌, refl, sym, ap₂, ◌∙◌}
use native.Mathlib.Omega.{arith}
use borrow.Author.Rules.{rules}
use lib.ListN.{length, get_or}
use Rattle.rt_matrix.specs.Cells.{records_from}
use Rattle.rt_matrix.specs.Columns.{held_columns, stored_at}
use Rattle.rt_matrix.proofs.Fitted.{length_from, from_at}
use Rattle.rt_matrix.proofs.RecordColumns.{no_record, from_less, stored_from, written_more, all_written}
use Rattle.rt_matrix.proofs.store_alignments.Goals as goal

pub loop-f-init : goal.loop-f-init
loop-f-init c = (search rules, c.requires.2, refl)

pub store-requires : goal.store-requires
store-requires c =
    from_less (length c.args.max.now) _ (held_columns c.loop-f.columns) (omega arith) c.loop-f.invariant.1

pub loop-f-preserved : goal.loop-f-preserved
loop-f-preserved c =
    let a = c.args in
    let f = c.loop-f.f in
    let inv = c.loop-f.invariant in
    let old = held_columns a.columns.now in
    let made = records_from a.max.now a.sums.now a.squares.now in
    let made_long = length_from a.max.now a.sums.now a.squares.now c.requires.0 c.requires.1 in
    let is : c.fit_line.result ≡ get_or made f no_record =
    c.fit_line.ensures
    ∙ sym (from_at a.max.now a.sums.now a.squares.now c.requires.0 c.requires.1 f _ _ c.loop-f-test.true) in
    let stored = c.store.ensures.stored in (
      search rules,
      rw stored (stored_from (length a.max.now) f c.fit_line.result (held_columns c.loop-f.columns) inv.1),
      stored
          ∙ ap₂ (stored_at f) is inv.2
          ∙ written_more made old f (omega (arith, made_long)) (from_less (length a.max.now) (length made) old (omega (arith, made_long)) c.requires.2),
    )

pub returns : goal.returns
returns c =
    let a = c.args in
    let inv = c.loop-f.invariant in
    let made = records_from a.max.now a.sums.now a.squares.now in
    record {
      same = inv.0;
      records =
          inv.2
          ∙ all_written made (held_columns a.columns.now) c.loop-f.f
          (omega (arith, length_from a.max.now a.sums.now a.squares.now c.requires.0 c.requires.1));
    }
