-- `packed_rows::add_four_rows` meets its contract: the columns of the first three rows and then the others, up to
-- the run, if there is one, whose cells are added row by row (`four_run`), or to the last (`four_done`).
use mathlib.Core.Path.{◌≡◌, refl, sym, ap, ap₂, ◌∙◌, subst}
use mathlib.Core.List.{List}
use Prim.Native.Nat.{ℕ, suc, ◌+◌, ◌-◌, ◌≤◌, ◌<◌}
use native.Mathlib.Omega.{arith}
use lib.ListN.{length, get_or, take, drop, length-drop}
use lib.Seq.{take_all}
use lib.Ieee.{Float, nan}
use Rattle.std.specs.List.{All}
use Rattle.std.proofs.lemmas.List.Elements.{All-weaker}
use Rattle.packed_rows.specs.Added.{column_added, columns_added, runs_added, rows_at, Addable, Gained}
use Rattle.packed_rows.specs.declared.Row.{Row}
use Rattle.packed_rows.proofs.Places.{values_long, length_part, all_part}
use Rattle.packed_rows.proofs.Begun.{in_four, fits_at, four_done}
use Rattle.packed_rows.proofs.Run.{run_place, four_run}
use Rattle.packed_rows.proofs.add_four_rows.Goals as goal

module _ {ext acc : List Float} {places : List ℕ} {values : List Float} {starts : List ℕ}
    (g : Addable ext acc places values starts) (m : ℕ)
  where
    long : length values ≡ length places
    long = values_long 0 ext places values g.listed

    -- the first n rows reach the column of place r
    fits : m + 3 < length places → get_or places (m + 3) 0 + 1 < length ext → (n r b : ℕ) (rs : List Row)
        → n ≤ 4 → m + n ≤ suc r → r < length places → b ≡ length acc → rs ≡ rows_at places values starts n m
        → All (λ (x : Row). x.base + get_or places r 0 < b) rs
    fits three last n r b rs l a o e h =
        rw (e, h) (fits_at ext acc g.whole places values g.listed starts g.firsts m three last n r l a o)

pub four_at-rows-requires : goal.four_at-rows-requires
four_at-rows-requires c =
    let a = c.args in
    let g = c.requires.1 in record {
      m_in_bounds = (c.requires.3, omega (arith, c.requires.3, long g a.m));
      by_index = in_four c.requires.0 a.acc.now g.whole a.places.now a.values.now g.listed a.starts.now
          g.firsts a.m c.requires.3 c.requires.4;
    }

pub bounds-values-m : goal.bounds-values-m
bounds-values-m c = omega (arith, c.requires.3, long c.requires.1 c.args.m)

pub add_column-requires : goal.add_column-requires
add_column-requires c =
    let a = c.args in
    let rows = c.four_at-rows.result in
    fits c.requires.1 a.m c.requires.3 c.requires.4 1 a.m _ (take 1 rows) (omega arith) (omega arith)
    (omega (arith, c.requires.3)) refl (ap (take 1) c.four_at-rows.ensures)

pub bounds-values-m-2 : goal.bounds-values-m-2
bounds-values-m-2 c = omega (arith, c.requires.3, long c.requires.1 c.args.m)

pub add_column-requires-2 : goal.add_column-requires-2
add_column-requires-2 c =
    let a = c.args in
    let rows = c.four_at-rows.result in
    fits c.requires.1 a.m c.requires.3 c.requires.4 2 (a.m + 1) _ (take 2 rows) (omega arith) (omega arith)
    (omega (arith, c.requires.3)) c.add_column.auto.acc (ap (take 2) c.four_at-rows.ensures)

pub bounds-values-m-3 : goal.bounds-values-m-3
bounds-values-m-3 c = omega (arith, c.requires.3, long c.requires.1 c.args.m)

pub add_column-requires-3 : goal.add_column-requires-3
add_column-requires-3 c =
    let a = c.args in
    let rows = c.four_at-rows.result in
    fits c.requires.1 a.m c.requires.3 c.requires.4 3 (a.m + 2) _ (take 3 rows) (omega arith) (omega arith)
    (omega (arith, c.requires.3)) (c.add_column-2.auto.acc ∙ c.add_column.auto.acc) (ap (take 3) c.four_at-rows.ensures)

pub slice_bounds-add_columns-end-then-h-places : goal.slice_bounds-add_columns-end-then-h-places
slice_bounds-add_columns-end-then-h-places c = omega (arith, long c.requires.1 c.args.m)

pub add_columns-requires : goal.add_columns-requires
add_columns-requires c =
    let a = c.args in
    let rows = c.four_at-rows.result in
    let n : ℕ = length c.add_column-3.new.acc in
    let k = c.add_column-3.auto.acc ∙ c.add_column-2.auto.acc ∙ c.add_column.auto.acc in
    all_part (λ p. All (λ (x : Row). x.base + p < n) rows) (a.m + 3) (a.h - (a.m + 3)) a.places.now (omega arith)
    (λ r l o.
    fits c.requires.1 a.m c.requires.3 c.requires.4 4 r n rows (omega arith) (omega arith) (omega arith) k
    c.four_at-rows.ensures)

pub slice_bounds-add_runs-count : goal.slice_bounds-add_runs-count
slice_bounds-add_runs-count c = omega (arith, long c.requires.1 c.args.m)

pub slice_bounds-add_runs-start : goal.slice_bounds-add_runs-start
slice_bounds-add_runs-start c = omega (arith, long c.requires.1 c.args.m)

pub add_runs-requires : goal.add_runs-requires
add_runs-requires c =
    let a = c.args in
    let g = c.requires.1 in
    let places = a.places.now in
    let rows = c.four_at-rows.result in
    let b : ℕ = length c.add_columns.new.acc in
    let k =
    c.add_columns.auto.acc ∙ c.add_column-3.auto.acc ∙ c.add_column-2.auto.acc ∙ c.add_column.auto.acc in
    let some : a.h < length places = omega arith in
    let w = long g a.m in
    let count : ℕ = length (take (length a.values.now - a.h) (drop a.h a.values.now)) in
    let many : count ≡ length places - a.h =
    length_part a.h (length a.values.now - a.h) a.values.now (omega (arith, some, w)) ∙ ap (λ (n : ℕ). n - a.h) w in
    let n = length places - 1 in
    let last : get_or places n 0 + 1 ≡ get_or places a.h 0 + (length places - a.h) =
    omega (
      arith,
      c.requires.2.last some,
      run_place c.requires.0 a.acc.now g.whole places a.values.now g.listed a.h c.requires.2 some n (omega arith)
          (omega arith),
    ) in record {
      run_long = rw many (c.requires.2.long some);
      in_bounds = All-weaker (λ (x : Row). x.base + get_or places n 0 < b)
          (λ (x : Row). x.base + get_or places a.h 0 + count ≤ b) (λ x q. omega (arith, q, many, last)) rows
          (fits g a.m c.requires.3 c.requires.4 4 n b rows (omega arith) (omega arith) (omega arith) k
          c.four_at-rows.ensures);
    }

pub returns-then-h-places : goal.returns-then-h-places
returns-then-h-places c =
    let a = c.args in
    let m = a.m in
    let from = m + 3 in
    let places = a.places.now in
    let values = a.values.now in
    let rs = c.four_at-rows.result in
    let some : a.h < length places = omega arith in
    λ ext g r b.
    subst (Gained ext _ _ a.acc.now)
    (sym
    (c.add_runs.ensures
    ∙ ap (λ (vs : List Float). runs_added rs (get_or places a.h 0) vs c.add_columns.new.acc)
    (take_all (length values - a.h) (drop a.h values) (rw length-drop (omega arith)))
    ∙ ap (runs_added rs (get_or places a.h 0) (drop a.h values))
    (c.add_columns.ensures
    ∙ ap (columns_added rs (take (a.h - from) (drop from places)) (take (a.h - from) (drop from values)))
    (c.add_column-3.ensures
    ∙ ap (column_added (take 3 rs) (get_or places (m + 2) 0) (get_or values (m + 2) nan))
    (c.add_column-2.ensures
    ∙ ap (column_added (take 2 rs) (get_or places (m + 1) 0) (get_or values (m + 1) nan)) c.add_column.ensures)))))
    (four_run ext a.acc.now g.whole places values g.listed a.h r some a.starts.now g.firsts
    m c.requires.3 b rs c.four_at-rows.ensures (omega arith))

pub slice_bounds-add_columns-count-3 : goal.slice_bounds-add_columns-count-3
slice_bounds-add_columns-count-3 c = omega (arith, long c.requires.1 c.args.m)

pub slice_bounds-add_columns-start-3 : goal.slice_bounds-add_columns-start-3
slice_bounds-add_columns-start-3 c = omega (arith, long c.requires.1 c.args.m)

pub add_columns-requires-2 : goal.add_columns-requires-2
add_columns-requires-2 c =
    let a = c.args in
    let rows = c.four_at-rows.result in
    let n : ℕ = length c.add_column-3.new.acc in
    let k = c.add_column-3.auto.acc ∙ c.add_column-2.auto.acc ∙ c.add_column.auto.acc in
    all_part (λ p. All (λ (x : Row). x.base + p < n) rows) (a.m + 3) (length a.places.now - (a.m + 3)) a.places.now
    (omega (arith, c.requires.3))
    (λ r l o.
    fits c.requires.1 a.m c.requires.3 c.requires.4 4 r n rows (omega arith) (omega arith) (omega arith) k
    c.four_at-rows.ensures)

pub returns : goal.returns
returns c =
    let a = c.args in
    let m = a.m in
    let from = m + 3 in
    let places = a.places.now in
    let values = a.values.now in
    let rs = c.four_at-rows.result in
    λ ext g r b.
    subst (Gained ext _ _ a.acc.now)
    (sym
    (c.add_columns-2.ensures
    ∙ ap₂ (λ (ps : List ℕ) (vs : List Float). columns_added rs ps vs c.add_column-3.new.acc)
    (take_all (length places - from) (drop from places) (rw length-drop (omega arith)))
    (take_all (length values - from) (drop from values) (rw length-drop (omega arith)))
    ∙ ap (columns_added rs (drop from places) (drop from values))
    (c.add_column-3.ensures
    ∙ ap (column_added (take 3 rs) (get_or places (m + 2) 0) (get_or values (m + 2) nan))
    (c.add_column-2.ensures
    ∙ ap (column_added (take 2 rs) (get_or places (m + 1) 0) (get_or values (m + 1) nan)) c.add_column.ensures))))
    (four_done ext a.acc.now g.whole places values g.listed a.starts.now g.firsts m
    c.requires.3 b rs c.four_at-rows.ensures)
