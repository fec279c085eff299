-- `gauss::checks::check` meets its contract: each check's answer, and the first that fails.
use mathlib.Core.Path.{◌≡◌, refl, sym, ◌∙◌}
use mathlib.Core.Bool.{false}
use Rattle.status.specs.Limits.{within_system_limits}
use Rattle.gauss.proofs.checks.check.Goals.{then-limits, else-limits}
use Rattle.gauss.proofs.checks.check.Goals as goal

pub returns : goal.returns
returns c =
    let a = c.args in
    c.first_failing.ensures
    ∙ elim c.if-limits.branch [
      | then-limits w ↦
          rw (w.room-is, c.sides_fit-lengths.ensures, c.system_limits-limits.ensures, w.has_room-room.ensures) refl
      | else-limits w ↦
          let past : within_system_limits a.n a.c ≡ false = sym c.system_limits-limits.ensures ∙ w.if-limits.false in
          rw (w.room-is, c.sides_fit-lengths.ensures, c.system_limits-limits.ensures, past) refl
    ]
