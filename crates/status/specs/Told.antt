-- What an answer tells, in one form for every entry point: its status and, where its case has any, its values.
-- Definitions only.
use Rattle.std.specs.Prelude.{ℕ, cond, eqb}
use Rattle.std.proofs.Math.Option.{Option, none, some}
use Rattle.status.specs.Status.{accepted}

pub record Told (A : Type 0) : Type 0 where
  pub status : ℕ
  pub values : Option A

-- accepted, with values
abbrev pub gives : {A : Type 0} → A → Told A
gives v = record { status = accepted; values = some v }

-- a status alone
abbrev pub only : {A : Type 0} → ℕ → Told A
only n = record { status = n; values = none }

-- the first where a call with this status is accepted, else the second
abbrev pub if_accepted : {A : Type 0} → (status : ℕ) → A → A → A
if_accepted status a b = cond (eqb status accepted) a b

-- what the answer to a call with this status has to tell, where an accepted one tells t
abbrev pub told_for : {A : Type 0} → (status : ℕ) → Told A → Told A
told_for status t = if_accepted status t (only status)
