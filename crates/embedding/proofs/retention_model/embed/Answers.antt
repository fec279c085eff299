-- `embedding::retention_model::embed` meets its contract: one block after the other.
use mathlib.Core.Path.{refl, sym, ◌∙◌}
use mathlib.Core.List.{[], ◌∷◌}
use native.Mathlib.Omega.{arith}
use lib.ListN.{length}
use Rattle.embedding.specs.declared.Model.TheVariants.{Retention}
use Rattle.float.specs.Number.{number}
use Rattle.embedding.specs.Design.{n_terminal, c_terminal, everywhere, block, retention_row}
use Rattle.embedding.proofs.Positions.{chosen_everywhere}
use Rattle.embedding.proofs.Rows.{embedded, done_none, next_block, next_filled, length_block}
use Rattle.embedding.proofs.retention_model.embed.Goals as goal

pub returns : goal.returns
unfolding retention_row
returns c =
    let l = c.args.ion.letters.now in
    let old = c.args.row.now in
    let h = c.requires in
    let d1 = next_block 0 22 22 [] (block everywhere l) old old _ (done_none old) (length_block everywhere l) (omega arith) (omega arith)
    (embedded l everywhere l _ _ c.put_counts.ensures (sym (chosen_everywhere l))) in
    let d2 = next_block 22 22 22 _ (block n_terminal l) old _ _ d1 (length_block n_terminal l) (omega arith) (omega arith)
    (embedded l n_terminal _ _ _ c.put_counts-2.ensures c.n_terminal.ensures.part) in
    let d3 = next_block 44 22 22 _ (block (c_terminal Retention) l) old _ _ d2 (length_block (c_terminal Retention) l) (omega arith) (omega arith)
    (embedded l (c_terminal Retention) _ _ _ c.put_counts-3.ensures c.c_terminal.ensures.part) in
    (next_filled 66 3 _ (number (length l) ∷ c.args.ion.log ∷ number 1 ∷ []) old _ _ d3 refl (omega arith)
    (c.copy_from_slice.ensures.after ∙ c.scalars.ensures)).cells
