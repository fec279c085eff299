-- `packed_rows::add_columns` meets its contract. The loop's invariant: what is left to add to what is there gives
-- what all the columns give, and the columns that are left are within the list.
use mathlib.Core.Path.{◌≡◌}
use Prim.Native.Nat.{◌+◌, ◌<◌}
use lib.ListN.{length}
use Rattle.std.specs.List.{All}
use Rattle.std.specs.Iterator.Adapters.{zip_first, zip_second}
use Rattle.std.specs.Slice.Iter.{iter_rest}
use Rattle.packed_rows.specs.Added.{columns_added}
use Rattle.packed_rows.proofs.add_columns.Given as goal

abbrev pub invariant-loop-place : goal.invariant-loop-place
invariant-loop-place l =
    let places = iter_rest (zip_first l.place-iterator) in
    let values = iter_rest (zip_second l.place-iterator) in
    All (λ k. All (λ r. r.base + k < length l.initial.acc) l.rows) places
    × (columns_added l.rows places values l.acc ≡ columns_added l.rows l.places l.values l.initial.acc)
