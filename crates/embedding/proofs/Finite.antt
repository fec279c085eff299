-- The counts of a row are finite.
use mathlib.Core.Path.{◌≡◌}
use mathlib.Core.Bool.{Bool, true}
use mathlib.Core.List.{List, [], ◌∷◌, map}
use Prim.Native.Nat.{ℕ, zero, suc, ◌^◌, ◌≤◌, ◌<◌}
use native.Mathlib.Nat.{le_of_suc-le-suc, not-suc-le-zero}
use native.Mathlib.Omega.{arith}
use lib.ListN.{length, get_or}
use lib.Ieee.{nan}
use Rattle.float.specs.Number.{number}
use Rattle.float.specs.Value.{is_finite}
use Rattle.embedding.specs.Design.{chosen, counts, block}
use Rattle.embedding.proofs.Numbers.{number_finite}
use Rattle.embedding.proofs.Shares.{counts_le}

cells_finite : (cs : List ℕ) → ((k : ℕ) → get_or cs k 0 ≤ 2 ^ 53) → (k : ℕ) → k < length (map number cs)
    → is_finite (get_or (map number cs) k nan) ≡ true
cells_finite [] small k h = absurd (not-suc-le-zero h)
cells_finite (c ∷ cs) small zero h = number_finite c (small 0)
cells_finite (c ∷ cs) small (suc k) h = cells_finite cs (λ i. small (suc i)) k (le_of_suc-le-suc h)

-- of letters at any positions
pub block_finite : (sel : ℕ → ℕ → Bool) (letters : List ℕ) → length (chosen sel letters) ≤ 2 ^ 53
    → (k : ℕ) → k < length (block sel letters) → is_finite (get_or (block sel letters) k nan) ≡ true
unfolding block counts
block_finite sel letters few =
    cells_finite (counts sel letters) (λ k. omega (arith, counts_le (chosen sel letters) k))
