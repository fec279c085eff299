-- `model_fit::Table::mass_at` meets its contract: retention's design row does not read the mass.
use mathlib.Core.Path.{◌≡◌}
use mathlib.Core.List.{List}
use Prim.Native.Nat.{ℕ}
use lib.Ieee.{Float}
use Rattle.embedding.specs.Design.{design}
use Rattle.embedding.specs.declared.Model.{Model}
use Rattle.embedding.specs.declared.Model.TheVariants.{Retention}
use Rattle.model_fit.proofs.Table.mass_at.Goals as goal

unread : (model : Model) → model ≡ Retention → (letters : List ℕ) (log : Float) (charge : ℕ) (mass other : Float)
    → design model letters log mass charge ≡ design model letters log other charge
unfolding design
unread model e letters log charge mass other = rw e

pub returns-in-Retention : goal.returns-in-Retention
returns-in-Retention c = λ letters log charge. unread c.args.model c.in-Retention.is letters log charge _ _
