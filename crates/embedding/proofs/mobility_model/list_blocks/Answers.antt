-- `embedding::mobility_model::list_blocks` meets its contract: one block after the other.
use mathlib.Core.Path.{◌≡◌, sym, ap, ◌∙◌}
use mathlib.Core.List.{List, ◌++◌, map, append_assoc}
use Prim.Native.Nat.{ℕ, ◌^◌, ◌<◌}
use native.Mathlib.Omega.{arith}
use lib.Ieee.{Float}
use lib.ListN.{length}
use Rattle.float.specs.Number.{number}
use Rattle.embedding.specs.declared.Model.TheVariants.{Mobility}
use Rattle.embedding.specs.Design.{n_terminal, c_terminal, column_counts, counts, block, share, mobility_scalars, mobility_row}
use Rattle.embedding.specs.Classes.{class_counts, class_sums}
use Rattle.embedding.proofs.Positions.{chosen_everywhere}
use Rattle.embedding.proofs.Classes.{class_sums_lem, length_class_sums}
use Rattle.embedding.proofs.Rows.{length_block}
use Rattle.embedding.proofs.Appending.{both_listed, listed_as, part_listed, composition, length_composition}
use Rattle.embedding.proofs.mobility_model.list_blocks.Goals as goal

-- the row in the parts that the calls listed
row_blocks : (l : List ℕ) (mass : Float) (charge : ℕ) (cells : List Float) → length l < 2 ^ 32
    → cells ≡ map number (column_counts l)
    → composition l
    ++ (block n_terminal l ++ (block (c_terminal Mobility) l ++ (class_sums cells ++ mobility_scalars (length l) mass charge)))
    ≡ mobility_row l mass charge
unfolding mobility_row block counts
row_blocks l mass charge cells h e =
    let after : List Float → List Float =
    λ (t : List Float). block n_terminal l ++ (block (c_terminal Mobility) l ++ (t ++ mobility_scalars (length l) mass charge)) in
    let rest : List Float = after (map number (class_counts l)) in
    ap (λ (t : List Float). composition l ++ after t) (ap class_sums e ∙ class_sums_lem l h)
    ∙ append_assoc (map number (column_counts l)) (map (share (length l)) (column_counts l)) rest
    ∙ ap (λ (t : List ℕ). map number (column_counts t) ++ (map (share (length l)) (column_counts t) ++ rest))
    (sym (chosen_everywhere l))

pub returns-clause-listed : goal.returns-clause-listed
returns-clause-listed c =
    let i = c.args.ion in
    let l = i.letters.now in
    listed_as (row_blocks l i.mass i.charge _ i.short c.list_composition.ensures.counts_after)
    (both_listed c.list_composition.ensures.listed (omega (arith, length_composition l))
    (both_listed (part_listed n_terminal l c.n_terminal.ensures.part c.push_part.ensures.listed)
    (omega (arith, length_block n_terminal l))
    (both_listed (part_listed (c_terminal Mobility) l c.c_terminal.ensures.part c.push_part-2.ensures.listed)
    (omega (arith, length_block (c_terminal Mobility) l))
    (both_listed (listed_as c.class_sums.ensures c.push_all.ensures.listed) (omega (arith, length_class_sums c.list_composition.new.counts))
    (listed_as c.scalars.ensures c.push_all-2.ensures.listed)))))
