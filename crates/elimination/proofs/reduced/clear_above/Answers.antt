-- `elimination::reduced::clear_above` meets its contract: the part from row i's start on is row i, and the rows before
-- it are the part that was lent.
use mathlib.Core.Path.{◌≡◌, sym, ap, ◌∙◌, subst}
use mathlib.Core.Bool.{true, false}
use mathlib.Core.List.{List, [], ◌++◌, map}
use Prim.Native.Nat.{ℕ, ◌+◌, ◌*◌, ◌≤◌, ◌<◌}
use native.Mathlib.Nat.{le_of_lt}
use native.Mathlib.Omega.{arith}
use lib.ListN.{length, get_or, take, drop}
use lib.Seq.{length-take-le, take-take}
use lib.Dec.{ltb}
use lib.Ieee.{Float}
use borrow.Author.Tests.{lt-ltb, le-ltb}
use Rattle.matrix.specs.Rows.{rows_of}
use Rattle.matrix.proofs.Laws.{length_rows_of}
use Rattle.elimination.specs.Rows.{row_of}
use Rattle.std.proofs.lemmas.List.{get_or_default}
use Rattle.float.specs.Value.{Sum}
use borrow.Author.Rules.{rules}
use Rattle.elimination.specs.Elimination.{cell, leading_zeros, leading, less_multiple, clear_above}
use Rattle.elimination.specs.Plain.{Plain, Zeros}
use Rattle.elimination.proofs.Elimination.{if_true, if_false, first_found, first_none}
use Rattle.elimination.proofs.Rows.{copied_row, front_rows, rows_above, row_length, rows_changed}
use Rattle.elimination.proofs.Plain.{front_plain, zeros_lent}
use Rattle.elimination.proofs.Shape.{inside_at, shape_of, copy_length}
use Rattle.elimination.proofs.reduced.clear_above.Goals as goal

-- row is a copy of row i, j the place of its first nonzero left cell, and row i starts at a
module _ (n w i j a : ℕ) (cells row : List Float) (l : n ≤ w) (here : take w row ≡ row_of (rows_of w n cells) i)
  where
    lead : leading_zeros (take n row) ≡ leading n (row_of (rows_of w n cells) i)
    lead = ap leading_zeros (sym (take-take n w row l) ∙ ap (take n) here)

    put_above : (part : List Float) → i < n → a ≡ i * w → j ≡ leading_zeros (take n row) → j < n
        → length part ≡ a
        → rows_of w i part ≡ map (less_multiple j (take w row)) (rows_of w i (take a cells))
        → rows_of w n (part ++ drop a cells) ≡ clear_above n i (rows_of w n cells)
    unfolding clear_above
    put_above part h at is lt e r =
        let place : j ≡ leading n (row_of (rows_of w n cells) i) = is ∙ lead in
        let rows : List (List Float) = rows_of w n cells in
        let front : rows_of w i (take a cells) ≡ take i rows = front_rows w n i a cells (le_of_lt h) at in
        let new : rows_of w i part ≡ map (less_multiple (leading n (row_of rows i)) (row_of rows i)) (take i rows) =
        rw (front, here, place) at r in
        rw at (rows_above w n i cells part (le_of_lt h) (e ∙ at))
        ∙ ap {B = List (List Float)} (λ t. t ++ drop i rows) new
        ∙ sym (if_true (ltb (leading n (row_of rows i)) n) _ rows (lt-ltb (leading n (row_of rows i)) n (rw place at lt)))

    put_none : n ≤ leading_zeros (take n row) → rows_of w n cells ≡ clear_above n i (rows_of w n cells)
    unfolding clear_above
    put_none ge =
        let rows : List (List Float) = rows_of w n cells in
        sym (if_false (ltb (leading n (row_of rows i)) n) _ rows (le-ltb (leading n (row_of rows i)) n (rw lead at ge)))

-- the rows before row i, which starts at a
front_length : (a w : ℕ) (cells : List Float) → a + w ≤ length cells → length (take a cells) ≡ a
front_length a w cells h = length-take-le a cells (omega arith)

pub each_row-requires-clause-accepts : goal.each_row-requires-clause-accepts
each_row-requires-clause-accepts c = λ r p h e.
    let s = c.args.size in
    let a = c.args in
    let own = c.row_copy-own.result in
    let f = first_found (take s.n own) c.in-Some.j (sym c.first_nonzero.ensures ∙ c.in-Some.is) in
    let in_row : c.in-Some.j < s.n =
    omega (arith, f, length-take-le s.n own (omega (arith, s.order, c.row_copy-own.ensures.1))) in
    let end = inside_at (shape_of s a.cells.now c.requires.0) a.i a.start c.requires.1 c.requires.2 in
    let count : length (take a.start a.cells.now) ≡ a.i * s.w = front_length a.start s.w a.cells.now end.0 ∙ c.requires.2 in
    let w : length p.now ≡ s.w = row_length s.w a.i r _ p.now count h e in
    let wide : length (take s.w own) ≡ s.w = copy_length s.w own s.wide c.row_copy-own.ensures.1 in
    let lt : r < a.i = rw length_rows_of at h in
    let rows : List (List Float) = rows_of s.w a.i (take a.start a.cells.now) in
    let same : p.now ≡ row_of rows r = e ∙ get_or_default rows r p.now [] h in
    let zeros : Zeros c.in-Some.j (take s.w own) = zeros_lent s.n s.w c.in-Some.j own s.left f.0 in_row in
    let plain : get_or a.plain.now r false ≡ true → Plain c.in-Some.j p.now =
    λ set k l.
    subst (λ (row : List Float). Sum (cell k row)) (sym same)
    (front_plain s.n s.w a.i c.in-Some.j a.start a.plain.now a.cells.now (omega (arith, c.requires.1))
    (omega (arith, in_row)) c.requires.2 c.requires.3 r lt set k l) in
    let within : (c.in-Some.j < length p.now) × (length p.now ≡ length (take s.w own)) =
    (omega (arith, w, in_row, s.left), w ∙ sym wide) in
    let flag : r < length a.plain.now = omega (arith, lt, c.requires.1, s.order, c.told-plain) in
    search rules

pub returns-in-Some : goal.returns-in-Some
returns-in-Some c =
    let s = c.args.size in
    let a = c.args in
    let own = c.row_copy-own.result in
    let f = first_found (take s.n own) c.in-Some.j (sym c.first_nonzero.ensures ∙ c.in-Some.is) in
    let in_row : c.in-Some.j < s.n =
    omega (arith, f, length-take-le s.n own (omega (arith, s.order, c.row_copy-own.ensures.1))) in
    let end = inside_at (shape_of s a.cells.now c.requires.0) a.i a.start c.requires.1 c.requires.2 in
    put_above s.n s.w a.i c.in-Some.j a.start a.cells.now own s.left
    (copied_row s.w s.n a.i a.start a.cells.now c.requires.1 c.requires.0 c.requires.2 own c.row_copy-own.ensures.0)
    c.each_row.new.cells c.requires.1 c.requires.2 f.0 in_row
    (c.each_row.auto.cells ∙ front_length a.start s.w a.cells.now end.0)
    (rows_changed s.w a.i (less_multiple c.in-Some.j (take s.w own)) (take a.start a.cells.now) c.each_row.new.cells
    c.each_row.ensures (λ i p q k. search rules))

pub returns-in_default : goal.returns-in_default
returns-in_default c =
    let s = c.args.size in
    let a = c.args in
    let own = c.row_copy-own.result in
    let f = first_none (take s.n own) (sym c.first_nonzero.ensures ∙ c.in_default.is) in
    let short : length (take s.n own) ≡ s.n =
    length-take-le s.n own (omega (arith, s.order, c.row_copy-own.ensures.1)) in
    put_none s.n s.w a.i 0 a.start a.cells.now own s.left
    (copied_row s.w s.n a.i a.start a.cells.now c.requires.1 c.requires.0 c.requires.2 own c.row_copy-own.ensures.0)
    (omega (arith, f, short))
