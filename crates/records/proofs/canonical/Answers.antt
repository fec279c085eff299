-- `records::canonical` meets its contract: to the logic each field stays what it is.
use mathlib.Core.Path.{◌≡◌}
use mathlib.Core.Bool.{Bool}
use Prim.Native.Nat.{ℕ}
use lib.Ieee.{Float}
use Rattle.rt_matrix.specs.Columns.{record_by}
use Rattle.records.proofs.canonical.Goals as goal

-- equal fields make equal records
same : {n : ℕ} {e : (Bool × Bool) × Bool} {l m s t i j : Float} → l ≡ m → s ≡ t → i ≡ j
    → record_by ((l, s), (i, n)) e ≡ record_by ((m, t), (j, n)) e
same p q r = cc

pub returns : goal.returns
returns c = same c.canonical32.ensures c.canonical32-2.ensures c.canonical32-3.ensures
