-- `elimination::row::subtract_multiple` meets its contract: where the cells before j stay, the part that was lent is
-- the rest of the row, and else the row is lent.
use mathlib.Core.Path.{◌≡◌, sym, ◌∙◌}
use mathlib.Core.Bool.{Bool, true, ◌&&◌}
use mathlib.Core.List.{List}
use Prim.Native.Nat.{ℕ, ◌-◌}
use lib.ListN.{length, take, drop}
use lib.Ieee.{Float, binary64, div}
use borrow.Rule.Slice.PartMut.{put_mid}
use Rattle.float.specs.Value.{is_finite}
use Rattle.matrix.specs.Lists.{zipped}
use Rattle.elimination.specs.Elimination.{cell, less_scaled, less_multiple}
use Rattle.elimination.specs.Plain.{Plain, Zeros}
use Rattle.elimination.proofs.Parts.{rest, put_rest}
use Rattle.elimination.proofs.Plain.{less_from}
use Rattle.elimination.proofs.row.subtract_multiple.Goals as goal

put_less : (j : ℕ) (row by part : List Float) (plain : Bool)
    → let factor = div binary64 (cell j row) (cell j by) in
    plain && is_finite factor ≡ true → Zeros j by → (plain ≡ true → Plain j row)
    → part ≡ zipped (less_scaled factor) (take (length row - j) (drop j row)) (take (length by - j) (drop j by))
    → put_mid j (length row - j) row part ≡ less_multiple j by row
put_less j row by part plain h z p e =
    put_rest j row part ∙ rw (e, rest j row, rest j by) (less_from j by row plain h z p)

pub returns-then-keeps_cells : goal.returns-then-keeps_cells
returns-then-keeps_cells c =
    let a = c.args in
    put_less a.j a.row.now a.by.now c.subtract_scaled.new.dst a.plain
    (sym c.keeps_cells.ensures ∙ c.if-keeps_cells.true) c.requires.2 c.requires.3 c.subtract_scaled.ensures

pub returns-else-keeps_cells : goal.returns-else-keeps_cells
unfolding less_multiple
returns-else-keeps_cells c = c.subtract_scaled-else-keeps_cells.ensures
