-- What a status picks of two: laws of `if_accepted`.
use mathlib.Core.Path.{◌≡◌}
use Prim.Native.Nat.{ℕ}
use borrow.Author.Tests.{ne_eqb}
use Rattle.status.specs.Status.{accepted}
use Rattle.status.specs.Told.{if_accepted}

module _ {A : Type 0} (status : ℕ) (done left : A) where
  pub if_refused : (status ≡ accepted → ⊥) → if_accepted status done left ≡ left
  if_refused h = rw (ne_eqb status accepted h)

  pub if_accepted_lem : status ≡ accepted → if_accepted status done left ≡ done
  if_accepted_lem e = rw e
