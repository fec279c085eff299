-- The loop's invariant: the first f records are written over the columns, whose slices are those that were lent.
use mathlib.Core.Path.{◌≡◌}
use lib.ListN.{length}
use Rattle.rt_matrix.specs.Cells.{records_from}
use Rattle.rt_matrix.specs.Columns.{EachFrom, held_columns, SameNames}
use Rattle.rt_matrix.proofs.RecordColumns.{some_written}
use Rattle.rt_matrix.proofs.store_alignments.Given as goal

abbrev pub invariant-loop-f : goal.invariant-loop-f
invariant-loop-f l =
    SameNames l.initial.columns l.columns
    × EachFrom (length l.max) (held_columns l.columns)
    ×
    (held_columns l.columns
    ≡ some_written l.f (records_from l.max l.sums l.squares) (held_columns l.initial.columns))
