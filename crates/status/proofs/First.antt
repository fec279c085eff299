-- Laws of the first check that fails: a status by the checks before it, and what an accepted call has passed.
use mathlib.Core.Path.{◌≡◌, refl}
use mathlib.Core.Bool.{Bool, true, false, cond}
use mathlib.Core.List.{List, [], ◌∷◌}
use Prim.Native.Nat.{ℕ, ◌<◌}
use native.Mathlib.Omega.{arith}
use lib.Dec.{eqb, ltb}
use lib.ListN.{length, get_or}
use borrow.Author.Tests.{eqb-true, ltb-true}
use Rattle.status.specs.Checks.{every}
use Rattle.std.specs.Prelude.{⊤, Ok, Err}
use Rattle.status.specs.declared.Refusal.{Refusal}
use Rattle.status.specs.declared.Refusal.TheVariants.{BadLengths, PastLimit, TooShort, BadFile, BadPeptide, BadLetter, BadOffsets, Malformed}
use Rattle.status.specs.Status.{accepted, first_failing, number_of, refusal_by, checked}
use Rattle.status.proofs.Laws.{and_true, every_at}

-- where no check fails, each passed
passed : (b : Bool) (later status : ℕ) → 0 < status → cond b later status ≡ 0 → (b ≡ true) × (later ≡ 0)
passed true later status h e = (refl, e)
passed false later status h e = absurd (omega arith)

-- each check has a number of its own, which is not that of an accepted call
abbrev pub numbered : List (ℕ × Bool) → Bool
numbered cs = every (λ (c : ℕ × Bool). ltb 0 c.0) cs

passed_all : (cs : List (ℕ × Bool)) → numbered cs ≡ true → first_failing cs ≡ accepted
    → every (λ (c : ℕ × Bool). c.1) cs ≡ true
unfolding every
passed_all [] n e = refl
passed_all (c ∷ cs) n e =
    let s = and_true (ltb 0 c.0) (numbered cs) n in
    let t = passed c.1 (first_failing cs) c.0 (ltb-true 0 c.0 s.0) e in
    rw t.0 (passed_all cs s.1 t.1)

-- the check at a place of the list
pub passed_at_lem : (cs : List (ℕ × Bool)) (k : ℕ) → numbered cs ≡ true → first_failing cs ≡ accepted
    → k < length cs
    → (get_or cs k (0, true)).1 ≡ true
passed_at_lem cs k n e h = every_at (λ (c : ℕ × Bool). c.1) cs k (0, true) (passed_all cs n e) h

-- ---- what checks answer

-- a call that is not refused is accepted
pub is_accepted : (status : ℕ) (u : ⊤) → checked status ≡ Ok u → status ≡ accepted
is_accepted status u = by (eqb status accepted) (eqb-true status accepted)
  where
    by : (t : Bool) → (t ≡ true → status ≡ accepted) → cond t (Ok tt) (Err (refusal_by status)) ≡ Ok u → status ≡ accepted
    by true y e = y refl
    by false y e = cc

-- a refusal is that of its number
pub refusal_by_number : (r : Refusal) → refusal_by (number_of r) ≡ r
refusal_by_number BadLengths = refl
refusal_by_number PastLimit = refl
refusal_by_number TooShort = refl
refusal_by_number BadFile = refl
refusal_by_number BadPeptide = refl
refusal_by_number BadLetter = refl
refusal_by_number BadOffsets = refl
refusal_by_number Malformed = refl
