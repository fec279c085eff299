-- `elimination::row::clear_column` meets its contract: the cells up to k are the front of the new row, and the part
-- that was lent is the rest of it.
use mathlib.Core.Path.{◌≡◌, refl, ◌∙◌}
use mathlib.Core.List.{List}
use Prim.Native.Nat.{ℕ, suc, ◌+◌, ◌-◌, ◌<◌}
use native.Mathlib.Numerals.{add-one}
use native.Mathlib.Nat.{le_refl}
use lib.ListN.{length, take, drop, set}
use lib.Seq.{take-suc-set, drop-set-lt, append_snoc}
use lib.Ieee.{Float, binary64, div}
use borrow.Rule.Slice.PartMut.{put_mid}
use Rattle.matrix.specs.Lists.{zipped}
use Rattle.float.specs.Number.{zero64}
use Rattle.elimination.specs.Elimination.{cell, less_scaled, cleared}
use Rattle.elimination.proofs.Parts.{rest, put_rest}
use Rattle.elimination.proofs.row.clear_column.Goals as goal

-- the cells from k + 1 on lent with the pivot row's, after +0.0 was stored at k
put_cleared : (k : ℕ) (row pivot part : List Float) → k < length row
    → part
    ≡ zipped
    (less_scaled (div binary64 (cell k row) (cell k pivot)))
    (take (length (set row k zero64) - (k + 1)) (drop (k + 1) (set row k zero64)))
    (take (length pivot - (k + 1)) (drop (k + 1) pivot))
    → put_mid (k + 1) (length (set row k zero64) - (k + 1)) (set row k zero64) part ≡ cleared k pivot row
unfolding cleared
put_cleared k row pivot part h e =
    put_rest (k + 1) (set row k zero64) part
    ∙ rw (
      e,
      rest (k + 1) (set row k zero64),
      rest (k + 1) pivot,
      add-one,
      take-suc-set row k zero64 h,
      drop-set-lt
          (suc k) row k zero64 (le_refl (suc k)),
      append_snoc,
    ) refl

pub returns : goal.returns
returns c =
    put_cleared c.args.k c.args.row.now c.args.pivot.now _ c.requires.0 c.subtract_scaled.ensures
