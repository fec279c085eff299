-- `embedding::mobility_model::embed` meets its contract: one block after the other.
use mathlib.Core.Path.{refl, ap, ◌∙◌}
use mathlib.Core.List.{[], map}
use native.Mathlib.Omega.{arith}
use lib.ListN.{length, length-map}
use Rattle.embedding.specs.declared.Model.TheVariants.{Mobility}
use Rattle.embedding.specs.Classes.{class_counts, class_sums}
use Rattle.float.specs.Number.{number}
use Rattle.embedding.specs.Design.{n_terminal, c_terminal, everywhere, counts, block, share, share_of, mobility_scalars, mobility_row}
use Rattle.embedding.proofs.Classes.{length_class_counts, class_sums_lem}
use Rattle.embedding.proofs.Rows.{done_none, next_block, next_filled, length_block, length_counts, made, embedded}
use Rattle.embedding.proofs.Appending.{all_counted}
use Rattle.embedding.proofs.mobility_model.embed.Goals as goal

pub returns : goal.returns
unfolding mobility_row block
returns c =
    let i = c.args.ion in
    let l = i.letters.now in
    let old = c.args.row.now in
    let n = length l in
    let h = c.requires in
    let e = c.count.ensures.counts_after in
    let d1 = next_filled 0 22 [] (block everywhere l) old old _ (done_none old) (length_block everywhere l) (omega arith)
    (c.copy_from_slice.ensures.after ∙ all_counted l e) in
    let d2 = next_block 22 22 22 _ (map (share n) (counts everywhere l)) old _ _ d1 (length-map (counts everywhere l) (share n) ∙ length_counts everywhere l) (omega arith) (omega arith)
    (made (share_of n) l _ _ _ c.put_shares.ensures e) in
    let d3 = next_block 44 22 22 _ (block n_terminal l) old _ _ d2 (length_block n_terminal l) (omega arith) (omega arith)
    (embedded l n_terminal _ _ _ c.put_counts.ensures c.n_terminal.ensures.part) in
    let d4 = next_block 66 22 22 _ (block (c_terminal Mobility) l) old _ _ d3 (length_block (c_terminal Mobility) l) (omega arith) (omega arith)
    (embedded l (c_terminal Mobility) _ _ _ c.put_counts-2.ensures c.c_terminal.ensures.part) in
    let d5 = next_filled 88 6 _ (map number (class_counts l)) old _ _ d4 (length-map (class_counts l) number ∙ length_class_counts l) (omega arith)
    (c.copy_from_slice-2.ensures.after ∙ c.class_sums.ensures ∙ ap class_sums e ∙ class_sums_lem l i.short) in
    (next_filled 94 6 _ (mobility_scalars n i.mass i.charge) old _ _ d5 refl (omega arith)
    (c.copy_from_slice-3.ensures.after ∙ c.scalars.ensures)).cells
