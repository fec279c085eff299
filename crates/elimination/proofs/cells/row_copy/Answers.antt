-- `elimination::cells::row_copy` meets its contract: the first cells of the array are the row.
use mathlib.Core.Path.{◌≡◌, ap, ◌∙◌}
use mathlib.Core.List.{List}
use Prim.Native.Nat.{ℕ, ◌≤◌}
use native.Mathlib.Omega.{arith}
use lib.ListN.{length, take, drop}
use lib.Seq.{length-take-le, length_front, take_at}
use lib.Ieee.{Float}
use Rattle.elimination.specs.Rows.{max_width}
use Rattle.elimination.proofs.cells.row_copy.Goals as goal

-- the part of the array that was lent is as long as the row
lent : (row own : List Float) → length row ≤ max_width → length own ≡ max_width
    → length (take (length row) own) ≡ length row
lent row own h e = length-take-le _ own (omega arith)

pub returns : goal.returns
returns c =
    let w : ℕ = length c.args.row.now in
    let copied = c.copy_from_slice.ensures.after in (
      take_at c.copy_from_slice.new.self (drop w c.blank_row-own.result) w (ap length copied) ∙ copied,
      length_front c.blank_row-own.result c.copy_from_slice.new.self w c.copy_from_slice.auto.self
          ∙ c.blank_row-own.ensures,
    )
