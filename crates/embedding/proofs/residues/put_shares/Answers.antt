-- `embedding::residues::put_shares` meets its contract. The loop's invariant: the first k cells are the shares of the
-- first k counts, the others as they were.
use mathlib.Core.Path.{◌≡◌}
use mathlib.Core.List.{List, map}
use native.Mathlib.Omega.{arith}
use native.Mathlib.Numerals.{add-one}
use lib.Ieee.{Float, nan}
use lib.ListN.{length, length-set, length-map, get_or-map}
use Rattle.embedding.specs.Design.{share_of}
use Rattle.matrix.proofs.Lists.{overwrite_suc}
use Rattle.embedding.proofs.residues.put_shares.Goals as goal

pub loop-k-preserved : goal.loop-k-preserved
loop-k-preserved c =
    let l = c.loop-k in
    let a = c.args in
    let cs : List Float = a.counts.now in
    let new : List Float = map (share_of a.length) cs in
    let n : length new ≡ length cs = length-map cs (share_of a.length) in (
      rw
          (l.invariant.0, c.u32_to_f64-whole.ensures, add-one, ← get_or-map (share_of a.length) cs l.k nan)
          (overwrite_suc new a.row.now l.k (share_of a.length nan) (omega arith) (omega arith)),
      simp length-set l.invariant.1,
    )
