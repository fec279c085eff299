-- What row order does move, worked out by the definitions.
use mathlib.Core.Path.{refl}
use lib.Ieee.{sub, mul, div, le, of_bits, is_nan}
use Rattle.float.specs.Value.{minimum}
use Rattle.matrix.specs.Lists.{tabulate}
use Rattle.matrix.specs.Rows.{flat}
use Rattle.elimination.specs.Rows.{indexed}
use Rattle.elimination.specs.Elimination.{largest, clear_below, column_eliminated, echelon_from, leading_zeros, divided}
use Rattle.elimination.specs.Elimination.{clear_above, backfill_from, row_solved, solved_from, eliminate}
use Rattle.elimination.specs.Ridge.{ridges_from, first_solved}
use Rattle.retention_alignment.specs.Observation.{times, smaller, min_rt}
use Rattle.regression.specs.Regression.{normal, fit_of}
use Rattle.row_order.specs.Moves.{Moves}

pub moves : Moves
unfolding sub mul div le of_bits is_nan minimum tabulate flat indexed largest clear_below column_eliminated echelon_from leading_zeros divided clear_above backfill_from row_solved solved_from eliminate ridges_from first_solved times smaller min_rt normal fit_of
moves = record { smallest = refl; smallest_other = refl; fit = refl; fit_other = refl }
