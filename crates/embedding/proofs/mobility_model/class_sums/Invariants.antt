-- `embedding::mobility_model::class_sums` meets its contract. The loop's invariant: the first i sums are those of the
-- first i classes.
use mathlib.Core.Path.{◌≡◌}
use mathlib.Core.List.{map}
use lib.ListN.{length, take}
use Rattle.embedding.specs.Classes.{class_sum, classes}
use Rattle.embedding.proofs.mobility_model.class_sums.Given as goal

abbrev pub invariant-loop-i : goal.invariant-loop-i
invariant-loop-i l = record {
  sums : take l.i l.sums ≡ map (class_sum l.counts) (take l.i classes);
  size : length l.sums ≡ 6;
}
