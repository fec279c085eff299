-- `float::hex::write_hex` meets its contract. The loop's invariant: from i on stand v's last digits, and rest is v
-- without them.
use Rattle.std.proofs.Common.{◌≡◌, ◌-◌, ◌/◌, ◌^◌, ◌≤◌, length, drop}
use Rattle.float.specs.Hex.{hex_of}
use Rattle.float.proofs.hex.write_hex.Given as goal

abbrev pub invariant-loop-i : goal.invariant-loop-i
invariant-loop-i l =
    (l.i ≤ length l.initial.out) × (length l.out ≡ length l.initial.out) × (drop l.i l.out ≡ hex_of (length l.initial.out - l.i) l.v) × (l.rest ≡ l.v / 16 ^ (length l.initial.out - l.i))
