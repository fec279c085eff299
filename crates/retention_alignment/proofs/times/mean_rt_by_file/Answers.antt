-- `retention_alignment::times::mean_rt_by_file` meets its contract. The loop's invariant: what each cell holds,
-- carried on over the training rows from i on, is the smallest time of all training rows.
use mathlib.Core.Path.{◌≡◌, sym, ap, ◌∙◌}
use mathlib.Core.Bool.{Bool, cond}
use mathlib.Core.List.{List, ◌∷◌}
use Prim.Native.Nat.{ℕ, ◌+◌, ◌<◌, ◌^◌}
use native.Mathlib.Omega.{arith}
use borrow.Author.Rules.{rules}
use mir.Syntax.{w32}
use mir.Val.{SFits}
use mir.ValLaws.{to_z-of_z}
use lib.ListN.{length, get_or, set, get_or-replicate}
use lib.IntN.{ℤ, pos}
use lib.Ieee.{Float, nan}
use Rattle.status.proofs.Laws.{below_at}
use Rattle.feature.specs.Feature.{trains}
use Rattle.matrix.specs.Rows.{place_of}
use Rattle.matrix.proofs.Laws.{place_below}
use Rattle.rt_matrix.specs.Cells.{absent, decode}
use Rattle.retention_alignment.specs.Observation.{Obs, smaller}
use Rattle.retention_alignment.proofs.Absent.{decode_mark}
use Rattle.retention_alignment.proofs.Rows.{row_at, training_from, training_cons, training_none}
use Rattle.retention_alignment.proofs.Smallest.{carried, min_start, min_step, min_done}
use Rattle.retention_alignment.proofs.times.mean_rt_by_file.Goals as goal
use Rattle.retention_alignment.proofs.times.mean_rt_by_file.Goals.{In-loop-i, After-trains, then-trains, else-trains}

-- the test of a row
trained : (c : After-trains)
    → c.trains.result
    ≡ trains (get_or c.args.observed.label.now c.loop-i.i (pos 0)) (get_or c.args.observed.q.now c.loop-i.i nan)
trained c =
    let o = c.args.observed in
    let i = c.loop-i.i in
    let fits : SFits w32 (get_or o.label.now i (pos 0)) = search rules in
    c.trains.ensures
    ∙ ap (λ (z : ℤ). trains z (get_or o.q.now i nan)) (to_z-of_z w32 (get_or o.label.now i (pos 0)) fits)

-- a row's cell is one of the cells, and their places are numbers of 32 bits
place_in : (c : In-loop-i)
    → let o = c.args.observed in
    let at = place_of o.files (get_or o.peptide.now c.loop-i.i 0) (get_or o.file.now c.loop-i.i 0) in
    (at < length c.loop-i.cells) × (at < 2 ^ 32) × (get_or o.file.now c.loop-i.i 0 < o.files)
place_in c =
    let o = c.args.observed in
    let i = c.loop-i.i in
    let f = below_at o.files o.file.now i c.requires.in_range.0 c.loop-i-test.true in
    let p = below_at o.peptides o.peptide.now i c.requires.in_range.1 (omega arith) in
    let b = place_below o.files o.peptides (get_or o.peptide.now i 0) (get_or o.file.now i 0) p f in
    (omega (arith, b, c.requires.in_range.2), omega (arith, b, c.requires.in_range.4), f)

pub loop-i-init : goal.loop-i-init
loop-i-init c = λ p f h l.
    let o = c.args.observed in
    let at = place_of o.files p f in
    let b = place_below o.files o.peptides p f h l in
    let cell : get_or c.fill.new.self at nan ≡ absent =
    ap (λ (l : List Float). get_or l at nan) (c.fill.ensures.after (λ y e. e))
    ∙ get_or-replicate (length c.args.cells.now) at absent nan (omega (arith, b, c.requires.in_range.2)) in
    min_start c.fill.new.self o.files p f
    (training_from o.file.now o.peptide.now o.rt.now o.label.now o.q.now 0)
    (ap decode cell ∙ decode_mark)

pub place-at-requires : goal.place-at-requires
place-at-requires c = (place_in (goal.at.place-at-requires c).In-loop-i).1

pub offset_bounds-cells-at : goal.offset_bounds-cells-at
offset_bounds-cells-at c =
    omega (arith, (place_in (goal.at.offset_bounds-cells-at c).In-loop-i).1, c.place-at.ensures)

pub bounds-cells-at : goal.bounds-cells-at
bounds-cells-at c = omega (arith, (place_in (goal.at.bounds-cells-at c).In-loop-i).0, c.place-at.ensures)

pub offset_bounds-cells-at-then-trains : goal.offset_bounds-cells-at-then-trains
offset_bounds-cells-at-then-trains c =
    omega (arith, (place_in (goal.at.offset_bounds-cells-at-then-trains c).In-loop-i).1, c.place-at.ensures)

pub bounds-cells-at-then-trains : goal.bounds-cells-at-then-trains
bounds-cells-at-then-trains c =
    omega (arith, (place_in (goal.at.bounds-cells-at-then-trains c).In-loop-i).0, c.place-at.ensures)

pub loop-i-preserved : goal.loop-i-preserved
loop-i-preserved c = λ p g h l.
    let o = c.args.observed in
    let i = c.loop-i.i in
    let row = row_at o.file.now o.peptide.now o.rt.now i in
    let rest = training_from o.file.now o.peptide.now o.rt.now o.label.now o.q.now (i + 1) in
    let at = place_in (goal.at.loop-i-preserved c).In-loop-i in
    let cons = training_cons o.file.now o.peptide.now o.rt.now o.label.now o.q.now i c.loop-i-test.true
    (omega arith) (omega arith) (omega arith) (omega arith)
    ∙ ap (λ (m : Bool). cond m (row ∷ rest) rest) (sym (trained (goal.at.loop-i-preserved c).After-trains)) in
    elim c.if-trains.branch [
      | then-trains w ↦
          let cell = w.earliest.ensures
          ∙ ap (λ (k : ℕ). smaller (decode (get_or c.loop-i.cells k nan)) row.rt) w.place-at.ensures in
          ap (λ (cells : List Float). carried cells o.files rest p g) w.cells-is
          ∙ ap (λ (k : ℕ). carried (set c.loop-i.cells k w.earliest.result) o.files rest p g) w.place-at.ensures
          ∙ min_step c.loop-i.cells o.files o.peptides row rest w.earliest.result at.2 at.0 cell p g l
          ∙ ap (λ (os : List Obs). carried c.loop-i.cells o.files os p g)
          (sym (cons ∙ ap (λ (m : Bool). cond m (row ∷ rest) rest) w.if-trains.true))
          ∙ c.loop-i.invariant p g h l
      | else-trains w ↦
          ap (λ (cells : List Float). carried cells o.files rest p g) w.cells-is
          ∙ ap (λ (os : List Obs). carried c.loop-i.cells o.files os p g)
          (sym (cons ∙ ap (λ (m : Bool). cond m (row ∷ rest) rest) w.if-trains.false))
          ∙ c.loop-i.invariant p g h l
    ]

pub returns : goal.returns
returns c =
    let o = c.args.observed in
    let none_left =
    training_none o.file.now o.peptide.now o.rt.now o.label.now o.q.now c.loop-i.i (omega arith) in
    min_done o.files o.peptides c.loop-i.cells
    (training_from o.file.now o.peptide.now o.rt.now o.label.now o.q.now 0)
    (omega (arith, c.requires.in_range.2))
    (λ p f h l.
    ap (λ (os : List Obs). carried c.loop-i.cells o.files os p f) (sym none_left) ∙ c.loop-i.invariant p f h l)
