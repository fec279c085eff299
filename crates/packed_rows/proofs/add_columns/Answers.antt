-- `packed_rows::add_columns` meets its contract. The loop's invariant: what is left to add to what is there gives
-- what all the columns give, and the columns that are left are within the list.
use mathlib.Core.Path.{◌≡◌, refl, sym, ap, ◌∙◌}
use mathlib.Core.List.{List, [], ◌∷◌}
use mathlib.Core.Logic.{inl, inr}
use Prim.Native.Nat.{ℕ, ◌+◌, ◌<◌}
use native.Mathlib.Omega.{arith}
use lib.ListN.{length}
use lib.Ieee.{Float}
use borrow.Author.Rules.{rules}
use Rattle.std.specs.List.{All}
use Rattle.std.specs.Iterator.Adapters.{zip_first, zip_second}
use Rattle.std.specs.Slice.Iter.{iter_rest}
use Rattle.std.proofs.lemmas.List.Elements.{All-head, All-rest, All-same}
use Rattle.std.proofs.lemmas.Slice.Zip.{Zip-more, either_empty_from_Zip}
use Rattle.packed_rows.specs.Added.{columns_added}
use Rattle.packed_rows.specs.declared.Row.{Row}
use Rattle.packed_rows.proofs.add_columns.Goals as goal

-- the columns that each of these rows has within n cells
abbrev Within : (rows : List Row) (n : ℕ) → ℕ → Type 0
Within rows n k = All (λ (r : Row). r.base + k < n) rows

no_value : (rows : List Row) (places : List ℕ) (acc : List Float) → columns_added rows places [] acc ≡ acc
no_value rows [] acc = refl
no_value rows (c ∷ places) acc = refl

pub loop-place-init : goal.loop-place-init
loop-place-init c =
    let it = c.into_iter-place-iterator.result in
    let places : iter_rest (zip_first it) ≡ c.args.places.now = search rules in
    let values : iter_rest (zip_second it) ≡ c.args.values.now = search rules in
    rw (places, values) (c.requires, refl)

pub add_column-requires : goal.add_column-requires
add_column-requires c =
    let l = c.loop-place in
    let m = Zip-more _ c.next.new.self _ _ c.in-Some.is c.next.ensures.steps in
    let here : Within c.args.rows.now (length c.args.acc.now) c.in-Some.field-0-0.now =
    All-head (Within c.args.rows.now (length c.args.acc.now)) _ _
    (All-same (Within c.args.rows.now (length c.args.acc.now)) _ _ (sym m.0) l.invariant.0) in
    λ k d h. omega (arith, here k d h)

pub loop-place-preserved : goal.loop-place-preserved
loop-place-preserved c =
    let l = c.loop-place in
    let m = Zip-more _ c.next.new.self _ _ c.in-Some.is c.next.ensures.steps in (
      All-rest (Within c.args.rows.now (length c.args.acc.now)) _ _ _ m.0 l.invariant.0,
      ap
          (columns_added c.args.rows.now
          (iter_rest (zip_first c.next.new.self)) (iter_rest (zip_second c.next.new.self)))
          c.add_column.ensures
          ∙ (rw (m.0, m.1) at l.invariant.1),
    )

pub returns : goal.returns
returns c =
    elim (either_empty_from_Zip _ c.next.new.self _ c.in-None.is c.next.ensures.steps) [
      | inl places ↦ rw places at c.loop-place.invariant.1
      | inr values ↦ rw (values, no_value) at c.loop-place.invariant.1
    ]
