-- `elimination::system::augment` meets its contract. The loop's invariant: the first i rows are joined (`made i`),
-- and row i of the cells and of the two sides starts at `at`, `l` and `r`.
use mathlib.Core.Path.{◌≡◌, refl, sym, ap, ◌∙◌}
use mathlib.Core.List.{List, [], ◌++◌}
use Prim.Native.Nat.{ℕ, ◌+◌, ◌*◌, ◌<◌, ◌-◌}
use native.Mathlib.Nat.{zero-mul, add_assoc, add-sub_cancel_left}
use native.Mathlib.Omega.{arith}
use native.Mathlib.Numerals.{add-one}
use lib.ListN.{length, take, drop}
use lib.Ieee.{Float}
use Rattle.matrix.specs.Rows.{rows_of}
use Rattle.matrix.proofs.Laws.{row_end, length_rows_of, row_rows_of}
use Rattle.elimination.specs.Rows.{row_of, augmented}
use Rattle.elimination.proofs.Made.{made_none, made_copy}
use Rattle.elimination.proofs.Parts.{part_length}
use Rattle.elimination.proofs.Rows.{next_start, row_turn, length_augmented, row_augmented}
use Rattle.elimination.proofs.system.augment.Goals as goal

module _ (n c : ℕ) where
  -- row i of the two sides, which start there at l and r
  joined : (i l r : ℕ) (left right : List Float) → i < n → l ≡ i * n → r ≡ i * c
      → take (l + n - l) (drop l left) ++ take (r + c - r) (drop r right)
      ≡ row_of (augmented (rows_of n n left) (rows_of c n right)) i
  joined i l r left right h el er =
      let hl : i < length (rows_of n n left) = rw length_rows_of h in
      let hr : i < length (rows_of c n right) = rw length_rows_of h in
      rw (add-sub_cancel_left l n, add-sub_cancel_left r c, el, er)
      (sym (row_augmented (rows_of n n left) (rows_of c n right) i hl hr
      ∙ rw (row_rows_of n n i left h, row_rows_of c n i right h) refl))

  many : (left right : List Float) → length (augmented (rows_of n n left) (rows_of c n right)) ≡ n
  many left right =
      length_augmented (rows_of n n left) (rows_of c n right) (length_rows_of n n left ∙ sym (length_rows_of c n right))
      ∙ length_rows_of n n left

pub loop-i-preserved : goal.loop-i-preserved
loop-i-preserved c =
    let n : ℕ = c.args.n in
    let k : ℕ = c.args.c in
    let t : c.loop-i._i < n = omega arith in
    let end = row_end (n + k) n c.loop-i._i t in
    let row : length (take (c.loop-i.at + n + k - c.loop-i.at) (drop c.loop-i.at c.loop-i.cells)) ≡ n + k =
    part_length c.loop-i.at (c.loop-i.at + n + k - c.loop-i.at) c.loop-i.cells (omega arith) ∙ omega arith in
    let rows : List (List Float) = augmented (rows_of n n c.args.left.now) (rows_of k n c.args.right.now) in (
      add_assoc c.loop-i.at n k ∙ next_start c.loop-i.at c.loop-i._i (n + k) c.loop-i.invariant.0,
      next_start c.loop-i.l c.loop-i._i n c.loop-i.invariant.1,
      next_start c.loop-i.r c.loop-i._i k c.loop-i.invariant.2,
      rw add-one
          (row_turn (λ j x. row_of rows j) (rows_of (n + k) n c.args.cells.now) c.loop-i._i n (n + k) c.loop-i.at
          (c.loop-i.at + n + k - c.loop-i.at) c.loop-i.cells c.join.new.row c.loop-i.invariant.3 t
          (c.loop-i.auto.cells ∙ c.requires.0) c.loop-i.invariant.0
          (ap (λ (z : ℕ). z - c.loop-i.at) (add_assoc c.loop-i.at n k) ∙ add-sub_cancel_left c.loop-i.at (n + k))
          (c.join.auto.row ∙ row)
          (c.join.ensures ∙ joined n k c.loop-i._i c.loop-i.l c.loop-i.r c.args.left.now c.args.right.now t
          c.loop-i.invariant.1 c.loop-i.invariant.2)),
    )

pub returns : goal.returns
returns c =
    let n : ℕ = c.args.n in
    let k : ℕ = c.args.c in
    c.loop-i.invariant.3
    ∙ made_copy (augmented (rows_of n n c.args.left.now) (rows_of k n c.args.right.now)) [] c.loop-i._i
    (rows_of (n + k) n c.args.cells.now)
    (length_rows_of (n + k) n c.args.cells.now ∙ sym (many n k c.args.left.now c.args.right.now))
    (rw length_rows_of (omega arith))

pub loop-i-init : goal.loop-i-init
loop-i-init c = (sym (zero-mul _), sym (zero-mul _), sym (zero-mul _), made_none _ _)
