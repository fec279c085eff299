-- `retention_alignment::times::max_rt_by_file` meets its contract. The loop's invariant: each file's longest time so
-- far, with that of the rows from i on, is that of all rows.
use mathlib.Core.Path.{sym, ap, ◌∙◌}
use mathlib.Core.List.{List}
use Prim.Native.Nat.{ℕ, ◌+◌, ◌<◌}
use native.Mathlib.Omega.{arith}
use lib.ListN.{length, get_or, set}
use Rattle.status.proofs.Laws.{below_at}
use Rattle.matrix.proofs.Lists.{get_d_same}
use Rattle.retention_alignment.specs.Observation.{Obs, max_rt, observations}
use Rattle.retention_alignment.proofs.Rows.{rows_from, row_at, rows_cons, rows_none}
use Rattle.retention_alignment.proofs.Longest.{max_step, max_done}
use Rattle.retention_alignment.proofs.times.max_rt_by_file.Goals as goal
use Rattle.retention_alignment.proofs.times.max_rt_by_file.Goals.{In-loop-i}

-- the row's file is one of the files
below : (c : In-loop-i) → get_or c.args.observed.file.now c.loop-i.i 0 < length c.loop-i.max
below c =
    omega (
      arith,
      below_at (length c.args.max.now) c.args.observed.file.now c.loop-i.i c.requires.fresh.0 c.loop-i-test.true,
    )

pub loop-i-init : goal.loop-i-init
loop-i-init c = λ f h.
    omega
    (arith, ap (λ (l : List ℕ). get_or l f 0) c.requires.fresh.1 ∙ get_d_same (length c.args.max.now) f 0)

pub bounds-max-f : goal.bounds-max-f
bounds-max-f c = below (goal.at.bounds-max-f c).In-loop-i

pub bounds-max-f-in-loop-i : goal.bounds-max-f-in-loop-i
bounds-max-f-in-loop-i c = below (goal.at.bounds-max-f-in-loop-i c).In-loop-i

pub loop-i-preserved : goal.loop-i-preserved
loop-i-preserved c = λ f l.
    let o = c.args.observed in
    let i = c.loop-i.i in
    let at = get_or o.file.now i 0 in
    let later = rows_from o.file.now o.peptide.now o.rt.now (i + 1) in
    let longest = c.max.ensures ∙ ap (Prim.Native.Nat.max (get_or c.loop-i.max at 0)) c.ceil_to_u32.ensures in
    ap (λ (m : ℕ). Prim.Native.Nat.max (get_or (set c.loop-i.max at m) f 0) (max_rt f later)) longest
    ∙ max_step c.loop-i.max (row_at o.file.now o.peptide.now o.rt.now i) later f
    (below (goal.at.loop-i-preserved c).In-loop-i)
    ∙ ap (λ (os : List Obs). Prim.Native.Nat.max (get_or c.loop-i.max f 0) (max_rt f os))
    (sym (rows_cons o.file.now o.peptide.now o.rt.now i c.loop-i-test.true (omega arith) (omega arith)))
    ∙ c.loop-i.invariant f l

pub returns : goal.returns
returns c =
    let o = c.args.observed in
    let none = rows_none o.file.now o.peptide.now o.rt.now c.loop-i.i (omega arith) in
    max_done c.loop-i.max (length c.args.max.now) (observations o.file.now o.peptide.now o.rt.now) c.loop-i.auto.max
    (λ f l.
    ap (λ (os : List Obs). Prim.Native.Nat.max (get_or c.loop-i.max f 0) (max_rt f os)) (sym none)
    ∙ c.loop-i.invariant f l)
