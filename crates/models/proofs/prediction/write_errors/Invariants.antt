-- `models::prediction::write_errors` meets its contract. The loop's invariant: the first i cells are the errors of the
-- first i rows, and the others are as they were.
use mathlib.Core.Path.{◌≡◌}
use mathlib.Core.List.{◌++◌, zip_with}
use Prim.Native.Nat.{◌≤◌}
use lib.ListN.{length, take, drop}
use Rattle.models.specs.Prediction.{error_of}
use Rattle.models.proofs.prediction.write_errors.Given as goal

abbrev pub invariant-loop-i : goal.invariant-loop-i
invariant-loop-i l =
    let new = zip_with error_of l.observed l.predicted in
    (l.i ≤ length l.observed)
    × (l.error ≡ take l.i new ++ drop l.i l.initial.error)
    × (length l.error ≡ length l.initial.error)
