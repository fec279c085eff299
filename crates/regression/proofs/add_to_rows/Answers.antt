-- `regression::add_to_rows` meets its contract. The loop's invariant: the first j rows are made anew (`MadeIn`), and
-- start is row j's first cell.
use mathlib.Core.Path.{◌≡◌, refl, sym, ap, ◌∙◌}
use mathlib.Core.List.{List}
use Prim.Native.Nat.{ℕ, ◌+◌, ◌-◌, ◌<◌}
use native.Mathlib.Omega.{arith}
use lib.ListN.{length, get_or, drop, length-drop}
use lib.Seq.{take_all}
use lib.Ieee.{Float, nan}
use borrow.Author.Rules.{rules}
use Rattle.matrix.specs.Rows.{flat}
use Rattle.matrix.specs.Lists.{zipped}
use Rattle.elimination.proofs.Made.{made_none}
use Rattle.elimination.proofs.Rows.{MadeIn, TurnIn, turn_in}
use Rattle.packed_rows.specs.Added.{plus_scaled}
use Rattle.packed_rows.specs.Falling.{falling_rows, falling_start}
use Rattle.regression.proofs.FallingLayout.{falling_layout}
use Rattle.packed_rows.proofs.Falling.{length_falling, flat_falling}
use Rattle.regression.proofs.Triangle.{made_add}
use Rattle.regression.proofs.add_to_rows.Goals as goal
use Rattle.regression.proofs.add_to_rows.Invariants.{scaled}

pub loop-j-init : goal.loop-j-init
unfolding falling_start
loop-j-init c = (search rules, refl, made_none _ _, refl)

-- a turn of the loop
here : (ext acc₀ acc : List Float) (start j : ℕ)
    → (let w = length ext in
    MadeIn (w - 1) (falling_rows w (w - 1)) (falling_start w) (scaled ext) acc₀ acc start j)
    → j + 1 < length ext
    → length acc₀ ≡ falling_start (length ext) (length ext - 1)
    → (let w = length ext in
    TurnIn (w - 1) (falling_rows w (w - 1)) (falling_start w) (scaled ext) acc₀ acc start (w - j) j)
here ext acc₀ acc start j inv h whole =
    let w = length ext in
    turn_in (w - 1) (falling_rows w (w - 1)) (falling_start w) (λ i. w - i) (falling_layout w (w - 1))
    (scaled ext) acc₀ acc start (w - j) j inv (omega arith) whole refl

pub overflow_add-end : goal.overflow_add-end
overflow_add-end c =
    let l = c.loop-j in
    let t = here c.args.ext.now c.args.acc.now l.acc l.start l.j l.invariant (omega arith) c.requires in
    omega (arith, t.fits)

pub offset_bounds-acc-start : goal.offset_bounds-acc-start
offset_bounds-acc-start c =
    let l = c.loop-j in
    let t = here c.args.ext.now c.args.acc.now l.acc l.start l.j l.invariant (omega arith) c.requires in
    omega (arith, t.fits)

pub slice_bounds-add_scaled-end : goal.slice_bounds-add_scaled-end
slice_bounds-add_scaled-end c =
    let l = c.loop-j in
    let t = here c.args.ext.now c.args.acc.now l.acc l.start l.j l.invariant (omega arith) c.requires in
    omega (arith, t.fits)

pub loop-j-preserved : goal.loop-j-preserved
loop-j-preserved c =
    let l = c.loop-j in
    let t = here c.args.ext.now c.args.acc.now l.acc l.start l.j l.invariant (omega arith) c.requires in
    let ext = c.args.ext.now in
    let done = c.add_scaled in
    t.next done.new.dst done.auto.dst
    (done.ensures
    ∙ ap (zipped (plus_scaled (get_or ext l.j nan)) _)
    (take_all (length ext - l.j) (drop l.j ext) (simp length-drop (omega arith))))

pub returns : goal.returns
returns c =
    let l = c.loop-j in
    let a = c.args in
    let w : ℕ = length a.ext.now in
    sym (flat_falling w (w - 1) l.acc (l.invariant.3 ∙ c.requires))
    ∙ ap flat
    (l.invariant.2
    ∙ made_add plus_scaled l.j (falling_rows w (w - 1) a.acc.now) a.ext.now
    (simp length_falling (omega arith)) (simp length_falling (omega arith)))
