-- `embedding::residues::count` meets its contract. The loop's invariant: the cells are the tally of the columns of the
-- letters so far, and `seen` has a digit for each that is not zero.
use mathlib.Core.Path.{sym, ap, ◌∙◌}
use mathlib.Core.List.{List, map}
use Prim.Native.Nat.{ℕ, ◌*◌, ◌%◌, ◌^◌, ◌<◌}
use native.Mathlib.Omega.{arith}
use lib.Bits.{bit_or}
use lib.ListN.{length, length-set}
use lib.Seq.{take_all}
use lib.Ieee.{of_bits, of_int}
use Rattle.mass.specs.Mass.{column_of}
use Rattle.float.specs.Number.{number}
use Rattle.float.specs.Value.{is_zero}
use Rattle.embedding.specs.Count.{tallied, range, how_many}
use Rattle.embedding.specs.Design.{column_counts}
use Rattle.embedding.specs.Listing.{seen_in}
use Rattle.embedding.proofs.Rows.{column_within, cells_next}
use Rattle.embedding.proofs.Seen.{seen_next}
use Rattle.embedding.proofs.residues.count.Goals as goal

pub loop-letter-init : goal.loop-letter-init
unfolding tallied range how_many seen_in of_bits of_int is_zero
loop-letter-init c =
    let h = c.requires.counts_value in record { tally = h; digits = sym (ap seen_in h); size = ap length h }

pub offset_bounds-counts-k : goal.offset_bounds-counts-k
offset_bounds-counts-k c = omega (arith, column_within _ _ c.column-k.ensures)

pub bounds-counts-k : goal.bounds-counts-k
bounds-counts-k c = omega (arith, column_within _ _ c.column-k.ensures, c.loop-letter.invariant.size)

pub bounds-counts-k-in-loop-letter : goal.bounds-counts-k-in-loop-letter
bounds-counts-k-in-loop-letter c = omega (arith, column_within _ _ c.column-k.ensures, c.loop-letter.invariant.size)

pub overflow_cast-seen : goal.overflow_cast-seen
overflow_cast-seen c = omega (arith, column_within _ _ c.column-k.ensures)

pub overflow_shl-seen : goal.overflow_shl-seen
overflow_shl-seen c = omega (arith, column_within _ _ c.column-k.ensures)

pub loop-letter-preserved : goal.loop-letter-preserved
unfolding of_bits of_int
loop-letter-preserved c =
    let l = c.loop-letter in
    let i = l.letter-index in
    let p = c.args.letters.now in
    let k = c.column-k.result in
    let h : k < 22 = column_within _ _ c.column-k.ensures in record {
      tally = cells_next 22 column_of p l.counts i l.invariant.tally k _ (omega arith) c.requires.letters_len_bound
          c.column-k.ensures h;
      digits = ap (λ (t : ℕ). bit_or t (1 * 2 ^ k % 2 ^ 32)) l.invariant.digits
          ∙ seen_next 22 column_of p l.counts i k _ (omega arith) l.invariant.tally (omega arith) c.requires.letters_len_bound h;
      size = simp length-set l.invariant.size;
    }

pub returns : goal.returns
unfolding column_counts
returns c =
    let l = c.loop-letter in
    let p = c.args.letters.now in record {
      counts_after = l.invariant.tally
          ∙ ap (λ (xs : List ℕ). map number (tallied (range 0 22) (map column_of xs))) (take_all l.letter-index p (omega arith));
      value = l.invariant.digits;
    }
