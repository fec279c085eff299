-- `elimination::walk::each_row` meets its contract. The loop's invariant: a call left each of the first i rows as it
-- is, and the others are as they were; row i starts at `at`.
use mathlib.Core.Path.{◌≡◌, refl, sym, ◌∙◌, subst}
use mathlib.Core.List.{List}
use Prim.Native.Nat.{ℕ, ◌+◌, ◌-◌, ◌*◌, ◌<◌, ◌≤◌}
use native.Mathlib.Omega.{arith}
use lib.ListN.{length, get_or, set, take, drop}
use lib.Ieee.{Float}
use borrow.Author.Count.{below_more}
use Rattle.std.proofs.lemmas.List.{get_or-set_same, get_or-set_other, get_or_default}
use Rattle.std.specs.Fork.{ChangesAt}
use Rattle.matrix.specs.Rows.{rows_of}
use Rattle.matrix.proofs.Laws.{length_rows_of}
use Rattle.elimination.proofs.Rows.{next_start, lent_length, lent_row, lent_back}
use Rattle.elimination.proofs.walk.each_row.Goals as goal

-- row i as it is lent, before the call, is the row as it was
as_was : (w m i at : ℕ) (old cells : List Float) → i < m → length cells ≡ m * w → at ≡ i * w
    → ((j : ℕ) (d : List Float) → i ≤ j → get_or (rows_of w m cells) j d ≡ get_or (rows_of w m old) j d)
    → (d : List Float) → take (at + w - at) (drop at cells) ≡ get_or (rows_of w m old) i d
as_was w m i at old cells h l e same d =
    let i_in : i < length (rows_of w m cells) = rw length_rows_of h in
    lent_row w m i at cells h l e ∙ get_or_default (rows_of w m cells) i _ d i_in ∙ same i d (omega arith)

pub loop-i-preserved : goal.loop-i-preserved
loop-i-preserved g c =
    let a = c.args in
    let l = c.loop-i in
    let w : ℕ = a.w in
    let m : ℕ = a.m in
    let i : ℕ = l.i in
    let t : i < m = c.loop-i-test.true in
    let e : length l.cells ≡ m * w = l.auto.cells ∙ c.requires.count in
    let xs : List (List Float) = rows_of w m a.cells.now in
    let ys : List (List Float) = rows_of w m l.cells in
    let y : List Float = c.change.new.arg3 in
    let put = lent_back w m i l.at l.cells t e l.invariant.0 y
    (c.change.auto.arg3 ∙ lent_length w m i l.at l.cells t e l.invariant.0) in
    let h : i < length ys = rw length_rows_of t in
    let was = as_was w m i l.at a.cells.now l.cells t e l.invariant.0 l.invariant.1 in
    let R : ℕ → List Float → List Float → Type 0 = ChangesAt g.F.Fn a.change in (
      next_start l.at i w l.invariant.0,
      λ j d k. rw put (get_or-set_other ys i j y d (λ e. omega arith) ∙ l.invariant.1 j d (omega arith)),
      λ j d k.
          rw put
          (below_more (λ n. R n (get_or xs n d) (get_or (set ys i y) n d)) i
          (λ n u. subst (R n (get_or xs n d)) (sym (get_or-set_other ys i n y d (λ e. omega arith))) (l.invariant.2 n d u))
          (subst (R i (get_or xs i d)) (sym (get_or-set_same ys i y d h))
          (record { argument = _; argument_is = was d; after_call = _; call = c.change.ensures; left = refl }))
          j k),
    )

pub returns : goal.returns
returns g c = λ i d h.
    let t : i < c.args.m = rw length_rows_of at h in
    (refl, c.loop-i.invariant.2 i d (omega arith))

pub change-requires : goal.change-requires
change-requires g c =
    let a = c.args in
    let l = c.loop-i in
    let h : l.i < length (rows_of a.w a.m a.cells.now) = rw length_rows_of c.loop-i-test.true in
    c.requires.accepts l.i _ h
    (as_was a.w a.m l.i l.at a.cells.now l.cells c.loop-i-test.true (l.auto.cells ∙ c.requires.count) l.invariant.0
    l.invariant.1 _)
