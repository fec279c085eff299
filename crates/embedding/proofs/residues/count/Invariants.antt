-- `embedding::residues::count` meets its contract. The loop's invariant: the cells are the tally of the columns of the
-- letters so far, and `seen` has a digit for each that is not zero.
use mathlib.Core.Path.{◌≡◌}
use mathlib.Core.List.{map}
use lib.ListN.{length, take}
use Rattle.mass.specs.Mass.{column_of}
use Rattle.float.specs.Number.{number}
use Rattle.embedding.specs.Count.{tallied, range}
use Rattle.embedding.specs.Listing.{seen_in}
use Rattle.embedding.proofs.residues.count.Given as goal

abbrev pub invariant-loop-letter : goal.invariant-loop-letter
invariant-loop-letter l = record {
  tally : l.counts ≡ map number (tallied (range 0 22) (map column_of (take l.letter-index l.letters)));
  digits : l.seen ≡ seen_in l.counts;
  size : length l.counts ≡ 22;
}
