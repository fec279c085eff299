-- `rt_matrix::fit_with` meets its contract: the sums and the squares, taken row by row, are those of each file's points.
use mathlib.Core.Path.{◌≡◌, refl, ap, ap₂, ◌∙◌}
use mathlib.Core.List.{List, foldl}
use Prim.Native.Nat.{ℕ, ◌≤◌}
use lib.ListN.{length, take, replicate}
use lib.Seq.{take_at}
use lib.Ieee.{Float, binary64, of_bits, round}
use Rattle.float.specs.Number.{zero64}
use Rattle.matrix.proofs.Lists.{take_replicate, length_take_replicate}
use Rattle.rt_matrix.specs.Line.{sx2_start}
use Rattle.rt_matrix.specs.Columns.{held_columns, columns_of, written_over}
use Rattle.rt_matrix.specs.Cells.{row_shares, after_row, add_point, add_square, with_means, records_from}
use Rattle.rt_matrix.specs.declared.Alignment.{Alignment}
use Rattle.rt_matrix.specs.declared.squares.Squares.{Squares}
use Rattle.rt_matrix.specs.declared.sums.Sums.{Sums}
use Rattle.rt_matrix.proofs.Fitted.{no_points, no_squares, fitted}
use Rattle.rt_matrix.proofs.fit_with.Goals as goal

-- 1E-8 of the code
start : of_bits binary64 0x3e45_798e_e230_8c3a ≡ sx2_start
unfolding of_bits round
start = refl

abbrev squares : Float → Squares
squares q = record { x_mean = zero64; sx2 = q }

-- the squares of n files before the first peptide, as a part of the array
first_part : (n size : ℕ) → n ≤ size
    → take n (replicate size (squares (of_bits binary64 0x3e45_798e_e230_8c3a))) ≡ replicate n no_squares
first_part n size h = take_replicate n size _ h ∙ ap (λ (q : Float). replicate n (squares q)) start

pub returns-clause-lines : goal.returns-clause-lines
returns-clause-lines g c =
    let a = c.args in
    let n = length a.max.now in
    let rows = row_shares a.max.now a.peptides a.cells.now in
    let h : n ≤ g.row.N = c.requires.fits.0 in
    let sums = c.add_peptides.new.states in
    let first = c.set_means.new.squares in
    let last = c.add_peptides-2.new.states in
    let sums_long : length sums ≡ n = c.add_peptides.auto.states ∙ length_take_replicate n g.row.N no_points h in
    let first_long : length first ≡ n = c.set_means.auto.squares ∙ length_take_replicate n g.row.N _ h in
    let sums_are : sums ≡ foldl (after_row add_point) (replicate n no_points) rows =
    c.add_peptides.ensures
    ∙ ap (λ (l : List Sums). foldl (after_row add_point) l rows) (take_replicate n g.row.N no_points h) in
    let sums_back = take_at sums _ n sums_long in
    let first_back = take_at first _ n first_long in
    let first_are : first ≡ with_means (replicate n no_squares) sums =
    c.set_means.ensures ∙ ap₂ with_means (first_part n g.row.N h) sums_back in
    let last_are : last ≡ foldl (after_row add_square) first rows =
    c.add_peptides-2.ensures ∙ ap (λ (l : List Squares). foldl (after_row add_square) l rows) first_back in
    let last_back = take_at last _ n (c.add_peptides-2.auto.states ∙ ap length first_back ∙ first_long) in
    c.store_alignments.ensures.records
    ∙ ap (λ (l : List Alignment). written_over (columns_of l) (held_columns a.columns.now))
    (ap₂ (records_from a.max.now) sums_back last_back
    ∙ fitted a.max.now a.peptides a.cells.now c.requires.shaped.0 sums sums_are first last first_are last_are)
