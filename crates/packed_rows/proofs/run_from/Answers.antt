-- `packed_rows::run_from` meets its contract: each test says which place the last ones begin at.
use mathlib.Core.Path.{◌≡◌}
use mathlib.Core.List.{List}
use Prim.Native.Nat.{ℕ, ◌-◌, ◌≤◌, ◌<◌}
use native.Mathlib.Omega.{arith}
use lib.ListN.{length, get_or}
use Rattle.packed_rows.specs.Added.{RunLong, RunFrom}
use Rattle.packed_rows.proofs.run_from.Goals as goal

run_is : (w : ℕ) (places : List ℕ) (k : ℕ) → RunLong k → k ≤ length places
    → w - get_or places (length places - k) 0 ≡ k → get_or places (length places - k) 0 < w
    → RunFrom w places (length places - k)
run_is w places k r l e h =
    let n : length places - (length places - k) ≡ k = omega arith in
    record { within = omega arith; long = λ m. rw n r; last = λ m. omega arith }

pub overflow_sub-w : goal.overflow_sub-w
overflow_sub-w c = omega (arith, c.requires (length c.args.places.now - 8) (omega arith))

pub returns-then-w-places-eq8 : goal.returns-then-w-places-eq8
returns-then-w-places-eq8 c =
    let places = c.args.places.now in
    let p = c.requires (length places - 8) (omega arith) in
    run_is c.args.w places 8 (record { four = omega arith; eight = omega arith; even = omega arith }) (omega arith)
    (omega arith) p

pub overflow_sub-w-then-n-ge6 : goal.overflow_sub-w-then-n-ge6
overflow_sub-w-then-n-ge6 c =
    omega (arith, c.requires (length c.args.places.now - 6) (omega arith))

pub returns-then-w-places-eq6 : goal.returns-then-w-places-eq6
returns-then-w-places-eq6 c =
    let places = c.args.places.now in
    let p = c.requires (length places - 6) (omega arith) in
    run_is c.args.w places 6 (record { four = omega arith; eight = omega arith; even = omega arith }) (omega arith)
    (omega arith) p

pub overflow_sub-w-then-n-ge4 : goal.overflow_sub-w-then-n-ge4
overflow_sub-w-then-n-ge4 c =
    omega (arith, c.requires (length c.args.places.now - 4) (omega arith))

pub returns-then-w-places-eq4 : goal.returns-then-w-places-eq4
returns-then-w-places-eq4 c =
    let places = c.args.places.now in
    let p = c.requires (length places - 4) (omega arith) in
    run_is c.args.w places 4 (record { four = omega arith; eight = omega arith; even = omega arith }) (omega arith)
    (omega arith) p
