-- `text::write::Buffer::push_decimal` meets its contract. The loop's invariant: the digits of rest in front of those
-- that are stored are the digits of n, and there is room for them.
use Rattle.std.proofs.Common.{◌≡◌, ◌+◌, ◌^◌, ◌<◌, length, drop}
use Rattle.text.specs.Decimal.{decimal_onto, decimal_of}
use Rattle.text.proofs.write.Buffer.push_decimal.Given as goal

abbrev pub invariant-loop-rest : goal.invariant-loop-rest
invariant-loop-rest g l =
    (length l.digits ≡ 10) × (l.first < 10) × (l.rest < 10 ^ (l.first + 1)) × (decimal_onto l.rest l.rest (drop (l.first + 1) l.digits) ≡ decimal_of l.n)

abbrev pub decreases-loop-rest : goal.decreases-loop-rest
decreases-loop-rest g l = l.rest
