-- `embedding::residues::n_terminal` meets its contract: the first two letters, or all.
use mathlib.Core.Path.{◌≡◌, sym, ◌∙◌}
use mathlib.Core.List.{List}
use Prim.Native.Nat.{ℕ, ◌≤◌, min}
use native.Mathlib.Decide.{dec_le}
use native.Mathlib.Omega.{arith}
use lib.ListN.{length, take}
use lib.Seq.{take_all}
use Rattle.embedding.proofs.Positions.{chosen_n}
use Rattle.embedding.proofs.residues.n_terminal.Goals as goal

first_two : (l : List ℕ) (k : ℕ) → k ≡ min (length l) 2 → take k l ≡ take 2 l
first_two l k e = by (dec_le 2 (length l))
  where
    by : Dec (2 ≤ length l) → take k l ≡ take 2 l
    by (yes h) = let f : k ≡ 2 = omega arith in rw f
    by (no h) = take_all k l (omega arith) ∙ sym (take_all 2 l (omega arith))

pub returns-clause-part : goal.returns-clause-part
returns-clause-part c = first_two c.args.letters.now c.min.result c.min.ensures ∙ sym (chosen_n c.args.letters.now)
