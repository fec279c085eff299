-- `matrix::swap_rows` meets its contract: the rows start where the two products say.
use mathlib.Core.Path.{◌≡◌, refl}
use Prim.Native.Nat.{ℕ, ◌*◌, ◌<◌}
use native.Mathlib.Omega.{arith}
use Rattle.matrix.specs.Rows.{TwoRows}
use Rattle.matrix.proofs.Laws.{row_end}
use Rattle.matrix.proofs.swap_rows.Goals as goal

abbrev two_rows : (rows cols i j n : ℕ) → n ≡ rows * cols → i < rows → j < rows → TwoRows cols (i * cols) (j * cols) n
two_rows rows cols i j n count first second =
    record { rows = rows; i = i; j = j; count = count; first = (first, refl); second = (second, refl) }

pub overflow_mul-a : goal.overflow_mul-a
overflow_mul-a c = omega (arith, row_end c.args.cols c.args.rows c.args.i c.requires.2)

pub overflow_cast-a : goal.overflow_cast-a
overflow_cast-a c = omega (arith, row_end c.args.cols c.args.rows c.args.i c.requires.2)

pub overflow_mul-b : goal.overflow_mul-b
overflow_mul-b c = omega (arith, row_end c.args.cols c.args.rows c.args.j c.requires.3)

pub overflow_cast-b : goal.overflow_cast-b
overflow_cast-b c = omega (arith, row_end c.args.cols c.args.rows c.args.j c.requires.3)

pub swap_rows_at-requires : goal.swap_rows_at-requires
swap_rows_at-requires c = two_rows c.args.rows c.args.cols c.args.i c.args.j _ c.requires.0 c.requires.2 c.requires.3

pub returns : goal.returns
returns c = c.swap_rows_at.ensures (two_rows c.args.rows c.args.cols c.args.i c.args.j _ c.requires.0 c.requires.2 c.requires.3)
