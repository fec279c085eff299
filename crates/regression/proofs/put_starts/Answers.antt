-- `regression::put_starts` meets its contract. The loop's invariant: the starts of the first j rows are written, and
-- start is row j's.
use mathlib.Core.Path.{◌≡◌, refl, sym, ap, ◌∙◌}
use Prim.Native.Nat.{ℕ, suc, ◌+◌, ◌-◌, ◌<◌}
use native.Mathlib.Nat.{lt_of_not-le, not-suc-le-zero}
use native.Mathlib.Decide.{dec_le}
use native.Mathlib.Numerals.{add-one}
use native.Mathlib.Omega.{arith}
use mathlib.Core.List.{List}
use lib.ListN.{length, get_or, set, length-set}
use lib.Seq.{get_or-set_same, get_or-set_other}
use Rattle.packed_rows.specs.Falling.{falling_start}
use Rattle.packed_rows.proofs.Falling.{start_next}
use borrow.Author.Rules.{rules}
use Rattle.regression.proofs.put_starts.Goals as goal

-- one start more
one_more : (starts : List ℕ) (w j start : ℕ) → j < length starts → start ≡ falling_start w j
    → ((i : ℕ) → i < j → get_or starts i 0 ≡ falling_start w i)
    → (i : ℕ) → i < j + 1 → get_or (set starts j start) i 0 ≡ falling_start w i
one_more starts w j start h e before i l = by (dec_le (suc i) j)
  where
    by : Dec (i < j) → get_or (set starts j start) i 0 ≡ falling_start w i
    by (yes m) = get_or-set_other starts j i start 0 (λ (same : i ≡ j). absurd (omega arith)) ∙ before i m
    by (no f) =
        let same : i ≡ j = omega (arith, lt_of_not-le f) in
        ap (λ (k : ℕ). get_or (set starts j start) k 0) same
        ∙ get_or-set_same starts j start 0 h
        ∙ e
        ∙ ap (falling_start w) (sym same)

pub loop-j-init : goal.loop-j-init
unfolding falling_start
loop-j-init c = (refl, search rules, refl, λ i h. absurd (not-suc-le-zero h))

pub loop-j-preserved : goal.loop-j-preserved
loop-j-preserved c =
    let l = c.loop-j in
    let d = c.args.d in (
      rw (add-one l.j) (ap (λ (k : ℕ). k + (d + 1 - l.j)) l.invariant.0 ∙ sym (start_next (d + 1) l.j)),
      omega arith,
      simp length-set l.invariant.2,
      one_more l.starts (d + 1) l.j l.start (omega arith) l.invariant.0 l.invariant.3,
    )

pub returns : goal.returns
returns c =
    let l = c.loop-j in
    record { enough = omega arith; at = λ j h. l.invariant.3 j (omega arith) }
