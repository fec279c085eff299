-- Each of the examples holds. The list is walked by computation, so a wrong definition or a wrong number is refused.
use mathlib.Core.Path.{◌≡◌, refl}
use mathlib.Core.Bool.{true}
use mathlib.Core.List.{zip_with, head_d}
use lib.Ieee.{sub, mul, div, eq, lt, le, of_int, of_bits, to_bits, is_nan}
use Rattle.float.specs.Convert.{narrowed, ceiling}
use Rattle.float.specs.Value.{is_finite, is_normal, minimum, clamped}
use Rattle.mass.specs.Mass.{column_of, place_from, valid_aa}
use Rattle.matrix.specs.Rows.{rows_of, flat}
use Rattle.status.specs.Checks.{every}
use Rattle.feature.specs.Feature.{trains, mask, kept}
use Rattle.matrix.specs.Lists.{zipped, tabulate}
use Rattle.elimination.specs.Rows.{indexed, augmented}
use Rattle.elimination.specs.Elimination.{
  largest,
  cleared,
  clear_below,
  column_eliminated,
  echelon_from,
  leading_zeros,
  divided,
  less_multiple,
  clear_above,
  backfill_from,
  row_solved,
  solved_from,
  eliminate,
}
use Rattle.elimination.specs.Ridge.{ridges_from, first_solved}
use Rattle.gauss.specs.Solve.{solution_of}
use Rattle.regression.specs.Regression.{normal, fit_of, dot}
use Rattle.regression.specs.Triangle.{triangle, unfolded}
use Rattle.embedding.specs.Count.{range, how_many}
use Rattle.embedding.specs.Design.{design}
use Rattle.rt_matrix.specs.Line.{share, present, mean, kept_rows, point_of, points, finite_or, line_of, line, lines}
use Rattle.retention_alignment.specs.Observation.{observations, max_rt, max_rts, times, smaller, min_rt, min_rts}
use Rattle.retention_alignment.specs.Alignments.{alignments, on_line, aligned}
use Rattle.retention_alignment.specs.Call.{status_by, filled, slices_after}
use Rattle.align_text.specs.AlignText.{align_text_with}
use Rattle.examples.specs.Examples.{same_list, holds, examples}

pub all_hold : every holds examples ≡ true
unfolding every same_list examples zip_with head_d sub mul div eq lt le of_int of_bits to_bits narrowed ceiling is_finite is_normal is_nan minimum clamped column_of place_from valid_aa rows_of flat trains mask kept indexed augmented zipped largest cleared clear_below column_eliminated echelon_from leading_zeros divided less_multiple clear_above backfill_from row_solved solved_from eliminate ridges_from first_solved solution_of normal triangle unfolded fit_of dot range how_many design tabulate share present mean kept_rows point_of points finite_or line_of line lines observations max_rt max_rts times smaller min_rt min_rts alignments on_line aligned status_by filled slices_after align_text_with
all_hold = refl
