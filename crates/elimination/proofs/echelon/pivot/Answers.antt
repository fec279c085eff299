-- `elimination::echelon::pivot` meets its contract. The loop's invariant: what the search finds from row i on, with
-- the best so far, is what it finds in all; row i starts at `at`.
use mathlib.Core.Path.{◌≡◌, refl, sym, ◌∙◌}
use mathlib.Core.Bool.{true, false}
use mathlib.Core.List.{List, map}
use Prim.Native.Nat.{ℕ, ◌+◌, ◌*◌, ◌≤◌, ◌<◌}
use native.Mathlib.Omega.{arith}
use native.Mathlib.Numerals.{add-one}
use lib.ListN.{length, get_or, drop, drop_of_length-le}
use lib.Ieee.{Float, nan, of_bits, neg, le}
use Rattle.matrix.specs.Rows.{rows_of}
use Rattle.matrix.proofs.Laws.{length_rows_of, get_d_rows_of}
use Rattle.elimination.specs.Rows.{row_of}
use Rattle.elimination.specs.Elimination.{cell, largest}
use Rattle.elimination.proofs.Elimination.{largest_taken, largest_passed}
use Rattle.elimination.proofs.Rows.{next_start}
use Rattle.elimination.proofs.echelon.pivot.Goals.{then-x-max, else-x-max}
use Rattle.elimination.proofs.echelon.pivot.Goals as goal

-- row i's candidate, and the search from the next row on
module _ (n w i k best at : ℕ) (max : Float) (cells : List Float) (t : i < n) (wide : n ≤ w) (lk : k < n)
    (e : at ≡ i * w) where
  here : cell k (row_of (rows_of w n cells) i) ≡ get_or cells (at + k) nan
  here = rw e (get_d_rows_of w n i k cells nan t (omega arith))

  taken : le max (get_or cells (at + k) nan) ≡ true
      → largest (i + 1) i (get_or cells (at + k) nan) (map (cell k) (drop (i + 1) (rows_of w n cells)))
      ≡ largest i best max (map (cell k) (drop i (rows_of w n cells)))
  taken f =
      let h : i < length (rows_of w n cells) = rw length_rows_of t in
      rw add-one (sym (largest_taken k (rows_of w n cells) i best max _ h here f))

  passed : le max (get_or cells (at + k) nan) ≡ false
      → largest (i + 1) best max (map (cell k) (drop (i + 1) (rows_of w n cells)))
      ≡ largest i best max (map (cell k) (drop i (rows_of w n cells)))
  passed f =
      let h : i < length (rows_of w n cells) = rw length_rows_of t in
      rw add-one (sym (largest_passed k (rows_of w n cells) i best max _ h here f))

pub loop-i-preserved : goal.loop-i-preserved
loop-i-preserved c =
    let l = c.loop-i in
    let s = c.args.size in (
      next_start l.at l.i s.w l.invariant.0,
      elim c.if-x-max.branch [
        | then-x-max w ↦
            rw (w.best-is, w.max-is)
            (taken s.n s.w l.i c.args.k l.best l.at l.max c.args.cells.now c.loop-i-test.true s.left c.requires.3
            l.invariant.0 w.if-x-max.true)
            ∙ l.invariant.1
        | else-x-max w ↦
            rw (w.best-is, w.max-is)
            (passed s.n s.w l.i c.args.k l.best l.at l.max c.args.cells.now c.loop-i-test.true s.left c.requires.3
            l.invariant.0 w.if-x-max.false)
            ∙ l.invariant.1
      ],
    )

pub returns : goal.returns
unfolding largest
returns c =
    let n = c.args.size.n in
    let w = c.args.size.w in
    let rows : List (List Float) = rows_of w n c.args.cells.now in
    let h : length rows ≤ c.loop-i.i = rw length_rows_of (omega arith) in
    rw (drop_of_length-le rows h) at c.loop-i.invariant.1

pub loop-i-init : goal.loop-i-init
unfolding neg of_bits
loop-i-init c = (c.requires.2, refl)
