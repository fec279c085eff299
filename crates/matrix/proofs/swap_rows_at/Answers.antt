-- `matrix::swap_rows_at` meets its contract. The loop's invariant: whichever rows i and j start at a and b, the rows
-- are the old ones with the first k cells of rows i and j exchanged.
use mathlib.Core.Path.{◌≡◌, refl, sym, ap, ◌∙◌}
use mathlib.Core.List.{List}
use Prim.Native.Nat.{ℕ, ◌+◌, ◌<◌}
use native.Mathlib.Omega.{arith}
use native.Mathlib.Numerals.{add-one}
use borrow.Author.Rules.{rules}
use lib.Ieee.{Float, nan}
use lib.ListN.{length}
use Rattle.std.proofs.lemmas.List.Edits.{swap_is}
use Rattle.matrix.specs.Rows.{rows_of, swapped, TwoRows}
use Rattle.matrix.proofs.Laws.{Wide, row_end, length_rows_of, wide_rows_of, wide_get_d, is_flat}
use Rattle.matrix.proofs.Exchange.{exchanged, exchanged_none, exchanged_all, swap_suc}
use Rattle.matrix.proofs.swap_rows_at.Goals as goal

pub loop-k-init : goal.loop-k-init
loop-k-init c =
    let t = c.requires in
    let cols : ℕ = c.args.cols in (
      omega (arith, row_end cols t.rows t.i t.first.0, t.first.1, t.count),
      omega (arith, row_end cols t.rows t.j t.second.0, t.second.1, t.count),
      refl,
      λ u. sym (exchanged_none u.i u.j (rows_of cols u.rows c.args.cells.now)),
    )

-- the rows as the function begins
module _ (cells : List Float) (cols a b : ℕ) (t : TwoRows cols a b (length cells)) where
  abbrev old : List (List Float)
  old = rows_of cols t.rows cells

  many : length old ≡ t.rows
  many = length_rows_of cols t.rows cells

  wide : Wide cols old
  wide = wide_rows_of cols t.rows cells (omega (arith, t.count))

pub loop-k-preserved : goal.loop-k-preserved
loop-k-preserved c =
    let a = c.args in
    let l = c.loop-k.cells in
    let k = c.loop-k.k in
    let first : a.a + k < length l = omega arith in
    let second : a.b + k < length l = omega arith in (
      c.loop-k.invariant.0,
      c.loop-k.invariant.1,
      c.swap.ensures.len ∙ c.loop-k.invariant.2,
      λ t. ap (rows_of a.cols t.rows) (c.swap.ensures.after ∙ sym (swap_is l (a.a + k) (a.b + k) nan first second)) ∙ rw add-one
          (swap_suc a.cols t.rows k t.i t.j a.a a.b l (old a.cells.now a.cols a.a a.b t) nan
          (c.loop-k.invariant.3 t) (wide a.cells.now a.cols a.a a.b t) (many a.cells.now a.cols a.a a.b t) t.first t.second (search rules)),
    )

pub returns : goal.returns
returns c t =
    let cols : ℕ = c.args.cols in
    let rows = old c.args.cells.now c.args.cols c.args.a c.args.b t in
    let n : length rows ≡ t.rows = many c.args.cells.now c.args.cols c.args.a c.args.b t in
    let k : c.loop-k.k ≡ cols = omega arith in
    let exchanged_rows : rows_of cols t.rows c.loop-k.cells ≡ swapped t.i t.j rows =
    c.loop-k.invariant.3 t
    ∙ ap (λ (m : ℕ). exchanged m t.i t.j rows) k
    ∙ exchanged_all cols t.i t.j rows (wide_get_d cols rows t.i (wide c.args.cells.now c.args.cols c.args.a c.args.b t) (omega (arith, t.first.0)))
    (wide_get_d cols rows t.j (wide c.args.cells.now c.args.cols c.args.a c.args.b t) (omega (arith, t.second.0))) in
    is_flat cols t.rows c.loop-k.cells (swapped t.i t.j rows) (c.loop-k.invariant.2 ∙ t.count) exchanged_rows
