-- `retention_alignment::align_rows` meets its contract. The loop's invariant: the first i rows' times are written
-- (`up_to i`).
use mathlib.Core.Path.{refl, sym, ap, ◌∙◌}
use mathlib.Core.List.{map}
use Prim.Native.Nat.{◌<◌}
use native.Mathlib.Omega.{arith}
use lib.ListN.{get_or, length-map, get_or-map}
use lib.Ieee.{nan}
use Rattle.status.proofs.Laws.{below_at}
use Rattle.matrix.proofs.Lists.{over, zipped_over}
use Rattle.rt_matrix.proofs.Lists.{up_to, up_to_step, up_to_all}
use Rattle.retention_alignment.specs.Observation.{Obs, observations}
use Rattle.retention_alignment.specs.Alignments.{aligned_in}
use Rattle.retention_alignment.proofs.Rows.{rows_at_lem, length_rows}
use Rattle.retention_alignment.proofs.align_rows.Goals as goal
use Rattle.retention_alignment.proofs.align_rows.Goals.{In-loop-i}

-- a row that stands past the end of the rows
abbrev no_row : Obs
no_row = record { file = 0; peptide = 0; rt = nan }

-- the row's file is one of the files
below : (c : In-loop-i) → get_or c.args.observed.file.now c.loop-i.i 0 < c.args.observed.files
below c =
    below_at c.args.observed.files c.args.observed.file.now c.loop-i.i c.requires.lengths.1 c.loop-i-test.true

pub loop-i-init : goal.loop-i-init
unfolding up_to
loop-i-init c = refl

pub bounds-columns-f : goal.bounds-columns-f
bounds-columns-f c =
    omega (arith, below (goal.at.bounds-columns-f c).In-loop-i, c.requires.lengths.0.max_rt)

pub bounds-columns-f-in-loop-i : goal.bounds-columns-f-in-loop-i
bounds-columns-f-in-loop-i c =
    omega (arith, below (goal.at.bounds-columns-f-in-loop-i c).In-loop-i, c.requires.lengths.0.slope)

pub bounds-columns-f-in-loop-i-2 : goal.bounds-columns-f-in-loop-i-2
bounds-columns-f-in-loop-i-2 c =
    omega (arith, below (goal.at.bounds-columns-f-in-loop-i-2 c).In-loop-i, c.requires.lengths.0.intercept)

pub loop-i-preserved : goal.loop-i-preserved
loop-i-preserved c =
    let o = c.args.observed in
    let l = c.args.columns.now in
    let i = c.loop-i.i in
    let row_time = aligned_in l.max_rt.now l.slope.now l.intercept.now in
    let os = observations o.file.now o.peptide.now o.rt.now in
    up_to_step over i c.args.aligned.now (map row_time os) c.loop-i.aligned _ c.aligned_time.result nan
    (row_time no_row)
    c.loop-i.invariant
    refl
    (c.aligned_time.ensures
    ∙ ap row_time
    (sym (rows_at_lem o.file.now o.peptide.now o.rt.now i no_row c.loop-i-test.true (omega arith) (omega arith)))
    ∙ sym (get_or-map row_time os i no_row))
    (omega (
      arith,
      length-map os row_time,
      length_rows o.file.now o.peptide.now o.rt.now c.requires.same_rows.peptide c.requires.same_rows.rt,
    ))

pub returns : goal.returns
returns c =
    let o = c.args.observed in
    let l = c.args.columns.now in
    let row_time = aligned_in l.max_rt.now l.slope.now l.intercept.now in
    let os = observations o.file.now o.peptide.now o.rt.now in
    let long = length-map os row_time
    ∙ length_rows o.file.now o.peptide.now o.rt.now c.requires.same_rows.peptide c.requires.same_rows.rt in
    c.loop-i.invariant ∙ up_to_all _ _ _ _ (omega arith) ∙ zipped_over _ _ (c.requires.lengths.2 ∙ sym long)
