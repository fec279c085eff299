-- `elimination::echelon::clear_below` meets its contract: the part from row h's start on is row h, and the rows after
-- it are the part that was lent.
use mathlib.Core.Path.{◌≡◌, sym, ap, ◌∙◌}
use mathlib.Core.List.{List, ◌++◌, map}
use Prim.Native.Nat.{ℕ, suc, ◌+◌, ◌-◌, ◌*◌, ◌<◌}
use native.Mathlib.Omega.{arith}
use native.Mathlib.Numerals.{add-one}
use lib.ListN.{length, take, drop, length-drop}
use lib.Ieee.{Float}
use borrow.Rule.Slice.PartMut.{put_mid}
use Rattle.matrix.specs.Rows.{rows_of}
use Rattle.matrix.proofs.Laws.{drop_rows_of}
use Rattle.elimination.specs.Rows.{row_of}
use Rattle.elimination.specs.Elimination.{cleared, clear_below}
use Rattle.elimination.proofs.Parts.{rest, put_rest}
use Rattle.elimination.proofs.Rows.{next_start, copied_row, rows_below, row_length, rows_changed}
use Rattle.elimination.proofs.Shape.{copy_length}
use borrow.Author.Rules.{rules}
use Rattle.elimination.specs.declared.size.Size.{Size}
use Rattle.elimination.proofs.echelon.clear_below.Goals as goal

-- the cells of the rows after row h
left_over : (n h w l e : ℕ) → h < n → l ≡ n * w → e ≡ (h + 1) * w → l - e ≡ (n - h - 1) * w
left_over n h w l e p el ee = go (n - h - 1) (omega arith)
  where
    go : (m : ℕ) → n ≡ m + (h + 1) → l - e ≡ m * w
    go m en = omega (arith, ap (λ (k : ℕ). k * w) en)

put_below : (n w h k e : ℕ) (cells pivot part : List Float) → h < n → length cells ≡ n * w → e ≡ (h + 1) * w
    → take w pivot ≡ row_of (rows_of w n cells) h
    → rows_of w (n - h - 1) part
    ≡ map (cleared k (take w pivot)) (rows_of w (n - h - 1) (take (length cells - e) (drop e cells)))
    → rows_of w n (put_mid e (length cells - e) cells part) ≡ clear_below h k (rows_of w n cells)
unfolding clear_below
put_below n w h k e cells pivot part lt l ee here r =
    let m : n - h - 1 ≡ n - suc h = omega arith in
    let at : e ≡ suc h * w = rw (← add-one h) ee in
    let tail : rows_of w (n - suc h) (drop e cells) ≡ drop (suc h) (rows_of w n cells) =
    rw at (sym (drop_rows_of w n (suc h) cells lt)) in
    let new : rows_of w (n - suc h) part
    ≡ map (cleared k (row_of (rows_of w n cells) h)) (drop (suc h) (rows_of w n cells)) =
    rw (m, rest e cells, here) at r
    ∙ ap {B = List (List Float)} (map (cleared k (row_of (rows_of w n cells) h))) tail in
    ap (rows_of w n) (put_rest e cells part)
    ∙ rw at (rows_below w n (suc h) cells part lt l)
    ∙ ap {B = List (List Float)} (λ t. take (suc h) (rows_of w n cells) ++ t) new

-- the rows after row h
tail_count : (s : Size) (h start : ℕ) (cells : List Float) → length cells ≡ s.n * s.w → h < s.n → start ≡ h * s.w
    → length (take (length cells - (start + s.w)) (drop (start + s.w) cells)) ≡ (s.n - h - 1) * s.w
tail_count s h start cells l lt e =
    ap length (rest (start + s.w) cells)
    ∙ length-drop (start + s.w) cells
    ∙ left_over s.n h s.w (length cells) (start + s.w) lt l (next_start start h s.w e)

pub each_row-requires-clause-count : goal.each_row-requires-clause-count
each_row-requires-clause-count c =
    tail_count c.args.size c.args.h c.args.start c.args.cells.now c.requires.0 c.requires.1 c.requires.2

pub each_row-requires-clause-accepts : goal.each_row-requires-clause-accepts
each_row-requires-clause-accepts c = λ i p h e.
    let s = c.args.size in
    let count = tail_count s c.args.h c.args.start c.args.cells.now c.requires.0 c.requires.1 c.requires.2 in
    let w : length p.now ≡ s.w = row_length s.w (s.n - c.args.h - 1) i _ p.now count h e in
    let own : length (take s.w c.row_copy-own.result) ≡ s.w =
    copy_length s.w c.row_copy-own.result s.wide c.row_copy-own.ensures.1 in
    let k : (c.args.k < length p.now) × (length p.now ≡ length (take s.w c.row_copy-own.result)) =
    (omega (arith, w, c.requires.3, s.left), w ∙ sym own) in
    search rules

pub returns : goal.returns
returns c =
    let s = c.args.size in
    let a = c.args in
    let start : ℕ = a.start + s.w in
    put_below s.n s.w a.h a.k start a.cells.now c.row_copy-own.result c.each_row.new.cells c.requires.1 c.requires.0
    (next_start a.start a.h s.w c.requires.2)
    (copied_row s.w s.n a.h a.start a.cells.now c.requires.1 c.requires.0 c.requires.2 c.row_copy-own.result
    c.row_copy-own.ensures.0)
    (rows_changed s.w (s.n - a.h - 1) (cleared a.k (take s.w c.row_copy-own.result))
    (take (length a.cells.now - start) (drop start a.cells.now)) c.each_row.new.cells c.each_row.ensures
    (λ i p q k. search rules))
