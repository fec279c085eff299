-- `float::hex::read_hex` meets its contract. The loop's invariant: v and the digits that are left give the value of
-- them all, and those that are left are digits exactly if all are.
use Rattle.std.proofs.Common.{◌≡◌, ◌+◌, ◌*◌, ◌^◌, ◌<◌, length, drop}
use Rattle.float.specs.Hex.{all_hex, hex_value}
use Rattle.float.proofs.hex.read_hex.Given as goal

abbrev pub invariant-loop-c : goal.invariant-loop-c
invariant-loop-c l =
    let left = drop l.c-index l.s in record {
      bound : l.v < 16 ^ l.c-index;
      value : l.v * 16 ^ length left + hex_value left ≡ hex_value l.s;
      digits : all_hex left ≡ all_hex l.s;
    }
