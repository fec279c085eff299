-- `packed_rows::add_one_row` meets its contract: the columns from its own on are added to the row, as `one_gained` says.
use mathlib.Core.Path.{◌≡◌, sym, ap, ap₂, ◌∙◌, subst}
use mathlib.Core.List.{List, [], ◌∷◌}
use Prim.Native.Nat.{ℕ, ◌+◌, ◌-◌, ◌<◌}
use native.Mathlib.Omega.{arith}
use lib.ListN.{length, get_or, drop, length-drop}
use lib.Seq.{take_all}
use lib.Ieee.{Float}
use Rattle.std.specs.List.{All}
use Rattle.std.proofs.lemmas.List.Elements.{All-same}
use Rattle.packed_rows.specs.Added.{columns_added, rows_at, Gained}
use Rattle.packed_rows.specs.declared.Row.{Row}
use Rattle.packed_rows.proofs.Places.{values_long, all_part}
use Rattle.packed_rows.proofs.Begun.{in_starts, rows_fit, one_gained}
use Rattle.packed_rows.proofs.add_one_row.Goals as goal

pub row_at-requires : goal.row_at-requires
row_at-requires c =
    let a = c.args in
    let g = c.requires.1 in
    let long = values_long 0 c.requires.0 a.places.now a.values.now g.listed in
    record {
      m_in_bounds = (c.requires.2, omega (arith, c.requires.2, long));
      start = in_starts c.requires.0 a.acc.now g.whole a.places.now a.values.now g.listed a.starts.now
          g.firsts a.m c.requires.2 c.requires.3;
    }

pub slice_bounds-add_columns-count-2 : goal.slice_bounds-add_columns-count-2
slice_bounds-add_columns-count-2 c =
    let a = c.args in
    omega (arith, c.requires.2, values_long 0 c.requires.0 a.places.now a.values.now c.requires.1.listed)

pub slice_bounds-add_columns-start-2 : goal.slice_bounds-add_columns-start-2
slice_bounds-add_columns-start-2 c =
    let a = c.args in
    omega (arith, c.requires.2, values_long 0 c.requires.0 a.places.now a.values.now c.requires.1.listed)

pub add_columns-requires : goal.add_columns-requires
add_columns-requires c =
    let a = c.args in
    let g = c.requires.1 in
    let places = a.places.now in
    let reach : ℕ → Row → Type 0 = λ k x. x.base + k < length a.acc.now in
    let row : List Row = c.row_at.result ∷ [] in
    let one : row ≡ rows_at places a.values.now a.starts.now 1 a.m = ap (λ (x : Row). x ∷ []) c.row_at.ensures in
    all_part (λ k. All (reach k) row) a.m (length places - a.m) places (omega (arith, c.requires.2))
    (λ r l o.
    All-same (reach (get_or places r 0)) row (rows_at places a.values.now a.starts.now 1 a.m) one
    (rows_fit c.requires.0 a.acc.now g.whole places a.values.now g.listed a.starts.now g.firsts 1 a.m r (omega arith)
    (omega arith)
    (λ i d e.
    let same : get_or places i 0 ≡ get_or places a.m 0 = ap (λ (k : ℕ). get_or places k 0) (omega arith) in
    omega (arith, same, c.requires.3))))

pub returns : goal.returns
returns c =
    let a = c.args in
    let places = a.places.now in
    let values = a.values.now in
    let row : List Row = c.row_at.result ∷ [] in
    let one : row ≡ rows_at places values a.starts.now 1 a.m = ap (λ (x : Row). x ∷ []) c.row_at.ensures in
    λ ext g h.
    subst (Gained ext _ _ a.acc.now)
    (sym
    (c.add_columns.ensures
    ∙ ap₂ (λ (ps : List ℕ) (vs : List Float). columns_added row ps vs a.acc.now)
    (take_all (length places - a.m) (drop a.m places) (rw length-drop (omega arith)))
    (take_all (length values - a.m) (drop a.m values) (rw length-drop (omega arith)))
    ∙ ap (λ (rs : List Row). columns_added rs (drop a.m places) (drop a.m values) a.acc.now) one))
    (one_gained ext a.acc.now g.whole places values g.listed a.starts.now g.firsts a.m c.requires.2 h)
