-- `elimination::system::right_side` meets its contract. The loop's invariant: the first i rows of the output are the
-- right side's (`made i`), and row i of the system and of the output starts at `at` and `s`.
use mathlib.Core.Path.{◌≡◌, refl, sym, ◌∙◌}
use mathlib.Core.List.{List, [], map}
use Prim.Native.Nat.{ℕ, ◌+◌, ◌*◌, ◌<◌, ◌-◌}
use native.Mathlib.Nat.{zero-mul, add-sub_cancel_left}
use native.Mathlib.Omega.{arith}
use native.Mathlib.Numerals.{add-one}
use lib.ListN.{length, get_or, take, drop, length-map, get_or-map}
use lib.Seq.{drop-drop}
use lib.Ieee.{Float}
use Rattle.matrix.specs.Rows.{rows_of}
use Rattle.matrix.proofs.Laws.{row_end, length_rows_of, row_rows_of, drop_take, is_flat}
use Rattle.elimination.proofs.Made.{made_none, made_copy}
use Rattle.elimination.proofs.Parts.{part_length}
use Rattle.elimination.proofs.Rows.{row_turn}
use Rattle.elimination.proofs.system.right_side.Goals as goal

-- the right cells of row i of the system, which starts at a
right_part : (n c i a : ℕ) (cells : List Float) → i < n → a ≡ i * (n + c)
    → take (a + n + c - (a + n)) (drop (a + n) cells) ≡ get_or (map (drop n) (rows_of (n + c) n cells)) i (drop n [])
right_part n c i a cells h e =
    rw (
      add-sub_cancel_left (a + n) c,
      get_or-map (drop n) (rows_of (n + c) n cells) i [],
      row_rows_of (n + c) n i
          cells h,
      drop_take n c (drop (i * (n + c)) cells),
      drop-drop n (i * (n + c)) cells,
      e,
    )
    refl

pub loop-i-preserved : goal.loop-i-preserved
loop-i-preserved c =
    let n : ℕ = c.args.n in
    let k : ℕ = c.args.c in
    let t : c.loop-i._i < n = omega arith in
    let end_cells = row_end (n + k) n c.loop-i._i t in
    let end = row_end k n c.loop-i._i t in
    let to : length (take (c.loop-i.s + k - c.loop-i.s) (drop c.loop-i.s c.loop-i.solution)) ≡ k =
    part_length c.loop-i.s (c.loop-i.s + k - c.loop-i.s) c.loop-i.solution (omega arith) ∙ omega arith in (
      omega arith,
      omega arith,
      rw add-one
          (row_turn (λ j x. get_or (map (drop n) (rows_of (n + k) n c.args.cells.now)) j (drop n []))
          (rows_of k n c.args.solution.now) c.loop-i._i n k c.loop-i.s (c.loop-i.s + k - c.loop-i.s)
          c.loop-i.solution c.copy_canonical.new.dst c.loop-i.invariant.2 t (c.loop-i.auto.solution ∙ c.requires.0)
          c.loop-i.invariant.1 (add-sub_cancel_left c.loop-i.s k) (c.copy_canonical.auto.dst ∙ to)
          (c.copy_canonical.ensures ∙ right_part n k c.loop-i._i c.loop-i.at c.args.cells.now t c.loop-i.invariant.0)),
    )

pub returns : goal.returns
returns c =
    let n : ℕ = c.args.n in
    let k : ℕ = c.args.c in
    let rows : List (List Float) = rows_of (n + k) n c.args.cells.now in
    is_flat k n c.loop-i.solution (map (drop n) rows) (c.loop-i.auto.solution ∙ c.requires.0)
    (c.loop-i.invariant.2
    ∙ made_copy (map (drop n) rows) (drop n []) c.loop-i._i (rows_of k n c.args.solution.now)
    (length_rows_of k n c.args.solution.now
    ∙ sym (length-map rows (drop n) ∙ length_rows_of (n + k) n c.args.cells.now))
    (rw length_rows_of (omega arith)))

pub loop-i-init : goal.loop-i-init
loop-i-init c = (sym (zero-mul _), sym (zero-mul _), made_none _ _)
