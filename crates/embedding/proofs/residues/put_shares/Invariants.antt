-- `embedding::residues::put_shares` meets its contract. The loop's invariant: the first k cells are the shares of the
-- first k counts, the others as they were.
use mathlib.Core.Path.{◌≡◌}
use mathlib.Core.List.{◌++◌, map}
use lib.ListN.{take, drop}
use Rattle.embedding.specs.Design.{share_of}
use Rattle.embedding.proofs.residues.put_shares.Given as goal

abbrev pub invariant-loop-k : goal.invariant-loop-k
invariant-loop-k l =
    (l.row ≡ take l.k (map (share_of l.length) l.counts) ++ drop l.k l.initial.row) × (lib.ListN.length l.row ≡ lib.ListN.length l.initial.row)
