-- `peptide::check_offsets` meets its contract. The loop's invariant: the offsets that are left, after the one at
-- `start`, give what all after the first give.
use Rattle.std.proofs.Common.{◌≡◌, ◌^◌, ◌<◌, drop}
use Rattle.peptide.specs.Table.{climbs}
use Rattle.peptide.proofs.check_offsets.Given as goal

abbrev pub invariant-loop-offset : goal.invariant-loop-offset
invariant-loop-offset l = record {
  fits : l.start < 2 ^ 32;
  climbs : climbs l.start l.letters (drop l.offset-index l.rest) ≡ climbs 0 l.letters l.rest;
}
