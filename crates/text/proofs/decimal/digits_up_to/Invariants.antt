-- `text::decimal::digits_up_to` meets its contract. The loop's invariant: reading what is left from v gives what
-- reading the whole gives.
use Rattle.std.proofs.Common.{◌≡◌, ◌≤◌, drop}
use Rattle.text.specs.Decimal.{read_from}
use Rattle.text.proofs.decimal.digits_up_to.Given as goal

abbrev pub invariant-loop-c : goal.invariant-loop-c
invariant-loop-c l = (l.v ≤ l.max) × (read_from l.max l.v (drop l.c-index l.s) ≡ read_from l.max 0 l.s)
