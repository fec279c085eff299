-- `regression::add_row_sparse` meets its contract: a sample that is not finite goes to `add_row`, and of another the
-- cells that are not zero are listed and go to `add_row_listed`.
use mathlib.Core.Path.{◌≡◌, sym, ap, ◌∙◌}
use mathlib.Core.Bool.{true, false}
use mathlib.Core.List.{List}
use Prim.Native.Nat.{ℕ, ◌+◌, ◌-◌, ◌≤◌}
use native.Mathlib.Omega.{arith}
use lib.Ieee.{Float, nan}
use lib.ListN.{length, get_or, take}
use lib.Seq.{length-take-le}
use Rattle.matrix.specs.Nonzero.{nonzeros, Nonzeros}
use Rattle.matrix.proofs.Nonzero.{nonzeros_few}
use Rattle.regression.specs.Sparse.{all_finite, ListedRow, add_visited, visited}
use Rattle.regression.proofs.Dot.{finite_cells}
use Rattle.regression.proofs.Workspace.{add_stored}
use Rattle.regression.proofs.add_row_sparse.Goals as goal

-- what is listed of a sample of d + 1 cells that are all finite: n places and values of those that are not zero
module _ (d : ℕ) (ext : List Float) (n : ℕ) (places : List ℕ) (values : List Float) (wide : length ext ≡ d + 1)
    (listed : Nonzeros 0 ext (take n places) (take n values)) where
  listed_finite : all_finite ext ≡ true → all_finite (take n values) ≡ true
  listed_finite finite = ap all_finite listed.values_are ∙ finite_cells ext ∙ finite

  row : ListedRow (d + 1) (get_or ext d nan) (take n places) (take n values) ext
  row = record {
    wide = wide;
    some = omega arith;
    listed = listed;
    last = ap (λ (k : ℕ). get_or ext k nan) {x = d + 1 - 1} {y = d} (omega arith);
  }

-- they are no more than there is room for
few : (d : ℕ) (ext : List Float) (n : ℕ) → length ext ≡ d + 1 → n ≡ length (nonzeros 0 ext) → n ≤ d + 1
few d ext n wide counted = omega (arith, nonzeros_few 0 ext)

pub returns-then-not-all_finite : goal.returns-then-not-all_finite
unfolding add_visited visited
returns-then-not-all_finite c =
    let a = c.args in
    let not_all : all_finite a.ext.now ≡ false = sym c.all_finite.ensures ∙ c.if-not-all_finite.true in
    let order : length a.ext.now - 1 ≡ a.d = omega (arith, c.requires.workspace.1) in record {
      workspace_after = c.add_row.ensures
          ∙ sym (add_stored a.d a.workspace.now a.ext.now c.requires.workspace.0.count c.requires.workspace.1)
          ∙ rw not_all;
      value = c.pairs.ensures ∙ rw (not_all, order);
    }

pub slice_bounds-add_row_listed-end : goal.slice_bounds-add_row_listed-end
slice_bounds-add_row_listed-end c =
    let a = c.args in
    let g = c.gather-n in
    let f = few a.d a.ext.now g.result c.requires.workspace.1 g.ensures.value in
    omega (
      arith,
      f,
      c.requires.workspace.0.order,
      c.requires.workspace.1,
      c.requires.d_in_bounds.0,
      g.auto.places,
      g.auto.values,
    )

pub slice_bounds-values-end : goal.slice_bounds-values-end
slice_bounds-values-end c =
    let a = c.args in
    let g = c.gather-n in
    let f = few a.d a.ext.now g.result c.requires.workspace.1 g.ensures.value in
    omega (
      arith,
      f,
      c.requires.workspace.0.order,
      c.requires.workspace.1,
      c.requires.d_in_bounds.0,
      g.auto.places,
      g.auto.values,
    )

pub slice_bounds-add_row_listed-end-3 : goal.slice_bounds-add_row_listed-end-3
slice_bounds-add_row_listed-end-3 c =
    let a = c.args in
    let g = c.gather-n in
    let f = few a.d a.ext.now g.result c.requires.workspace.1 g.ensures.value in
    let room : g.result ≤ length g.new.values =
    omega (arith, f, c.requires.workspace.0.order, g.auto.values) in
    sym (length-take-le g.result g.new.values room)

pub add_row_listed-requires : goal.add_row_listed-requires
add_row_listed-requires c =
    let a = c.args in
    let g = c.gather-n in
    let wide = c.requires.workspace.1 in
    let finite : all_finite a.ext.now ≡ true = sym c.all_finite.ensures ∙ c.if-not-all_finite.false in
    record {
      workspace = (c.requires.workspace.0, c.requires.d_in_bounds.1);
      values_value = listed_finite a.d a.ext.now g.result g.new.places g.new.values wide g.ensures.nonzeros finite;
      listed_row = (a.ext.now, row a.d a.ext.now g.result g.new.places g.new.values wide g.ensures.nonzeros);
    }

pub returns : goal.returns
returns c =
    let e = c.add_row_listed.ensures in
    let a = c.args in
    let g = c.gather-n in
    let r = row a.d a.ext.now g.result g.new.places g.new.values c.requires.workspace.1 g.ensures.nonzeros in
    record {
      workspace_after = e.workspace_after a.ext.now r;
      value = e.value a.ext.now r;
    }
