-- `elimination::system::join` meets its contract: the two parts that were lent are the row.
use mathlib.Core.Path.{◌≡◌, refl, ap, ◌∙◌}
use mathlib.Core.List.{List, ◌++◌}
use Prim.Native.Nat.{◌-◌}
use lib.ListN.{length, drop}
use lib.Seq.{take_at}
use lib.Ieee.{Float}
use borrow.Rule.Slice.PartMut.{put_mid}
use Rattle.elimination.proofs.Parts.{put_rest}
use Rattle.elimination.proofs.system.join.Goals as goal

put_both : (left right row front back : List Float) → front ≡ left → back ≡ right
    → put_mid (length left) (length (front ++ drop (length left) row) - length left)
    (front ++ drop (length left) row) back
    ≡ left ++ right
put_both left right row front back ef eb =
    put_rest (length left) (front ++ drop (length left) row) back
    ∙ rw (take_at front (drop (length left) row) (length left) (ap length ef), ef, eb) refl

pub returns : goal.returns
returns c =
    put_both c.args.left.now c.args.right.now c.args.row.now
    c.copy.new.dst c.copy-2.new.dst
    c.copy.ensures c.copy-2.ensures
