-- Laws of a row that is written from its first cell on: one cell made from a list's element after the other, and one
-- block after the other.
use mathlib.Core.Path.{◌≡◌, refl, sym, ap, ◌∙◌}
use mathlib.Core.Bool.{Bool}
use mathlib.Core.List.{List, [], ◌∷◌, ◌++◌, map, append_assoc, append-nil}
use Prim.Native.Nat.{ℕ, zero, suc, ◌+◌, ◌-◌, ◌^◌, ◌≤◌, ◌<◌}
use native.Mathlib.Nat.{le_of_suc-le-suc, le_trans, not-suc-le-zero, sub-zero, suc-sub-suc}
use native.Mathlib.Omega.{arith}
use lib.Dec.{lit≤}
use lib.Ieee.{Float, binary64, add, of_bits, of_int}
use lib.ListN.{length, length-append, get_or, set, take, drop, replicate, length-take, length-drop, take-append-drop, drop_of_length-le}
use lib.Seq.{length-take-le, take-nil, take_at, drop_at, drop-append-le, drop-drop}
use Rattle.mass.specs.Mass.{column_of}
use Rattle.mass.proofs.Laws.{column_below}
use Rattle.matrix.specs.Lists.{overwritten}
use Rattle.embedding.specs.Count.{how_many, range, tallied}
use Rattle.float.specs.Number.{number, zero64}
use Rattle.float.proofs.Whole.{number_add}
use Rattle.embedding.specs.declared.Model.TheVariants.{Retention}
use Rattle.embedding.specs.Design.{everywhere, n_terminal, c_terminal, chosen}
use Rattle.embedding.specs.Design.{column_counts, counts, block, retention_row}
use Rattle.embedding.proofs.Counting.{counter_le, length_tally, tally_next}
use Rattle.embedding.proofs.Positions.{chosen_everywhere}

-- a part of a list
pub part : {A : Type 0} (a e : ℕ) (xs : List A) → a ≤ e → take (e - a) (drop a xs) ≡ drop a (take e xs)
part zero e xs h = ap (λ (k : ℕ). take k xs) (sub-zero e)
part (suc a) zero xs h = absurd (not-suc-le-zero h)
part (suc a) (suc e) [] h = take-nil (suc e - suc a)
part (suc a) (suc e) (x ∷ xs) h =
    ap (λ (k : ℕ). take k (drop a xs)) (suc-sub-suc e a) ∙ part a e xs (le_of_suc-le-suc h)

-- a row whose part of w cells from a on was lent, and came back
abbrev pub returned : {A : Type 0} → (a w : ℕ) → (row back : List A) → List A
returned a w row back = take a row ++ (back ++ drop w (drop a row))

-- ---- blocks

-- the row's first cells are those of `done`, a of them, and the others are as they were
pub record Done {A : Type 0} (a : ℕ) (done old row : List A) : Type 0 where
  pub cells : row ≡ done ++ drop a old
  pub long : length done ≡ a

pub done_none : {A : Type 0} (old : List A) → Done 0 [] old old
done_none old = record { cells = refl; long = refl }

-- One block more: from a on a part of w cells was lent, and came back with the block b, of k cells, and behind it what
-- it held.
pub next_block : {A : Type 0} (a k w : ℕ) (done b old row back : List A) → Done a done old row → length b ≡ k
    → k ≤ w → a + w ≤ length old
    → back ≡ b ++ drop k (take w (drop a row)) → Done (a + k) (done ++ b) old (returned a w row back)
next_block {A} a k w done b old row back so size fits room e = record {
  cells = rw (e, t, d, behind, drop-drop) (sym (append_assoc done b (drop (a + k) old)));
  long = length-append done b ∙ omega (arith, so.long);
}
  where
    t : take a row ≡ done
    t = ap (take a) so.cells ∙ take_at done (drop a old) a so.long

    d : drop a row ≡ drop a old
    d = ap (drop a) so.cells ∙ drop_at done (drop a old) a so.long

    enough : k ≤ length (take w (drop a old))
    enough = simp (length-take, length-drop) (omega arith)

    behind : (b ++ drop k (take w (drop a old))) ++ drop w (drop a old) ≡ b ++ drop k (drop a old)
    behind =
        append_assoc b (drop k (take w (drop a old))) (drop w (drop a old))
        ∙ ap (λ (t : List A). b ++ t)
        (sym (drop-append-le k (take w (drop a old)) (drop w (drop a old)) enough) ∙ ap (drop k) (take-append-drop w (drop a old)))

-- The same, where the part came back with the block alone.
pub next_filled : {A : Type 0} (a k : ℕ) (done b old row back : List A) → Done a done old row → length b ≡ k
    → a + k ≤ length old
    → back ≡ b → Done (a + k) (done ++ b) old (returned a k row back)
next_filled {A} a k done b old row back so size room e =
    let short : length (take k (drop a row)) ≤ k = simp length-take (omega arith) in
    next_block a k k done b old row back so size (omega arith) room
    (e ∙ sym (append-nil b) ∙ ap (λ (t : List A). b ++ t) (sym (drop_of_length-le (take k (drop a row)) {i = k} short)))

-- ---- constants of the code

pub none : zero64 ≡ number 0
unfolding of_bits of_int
none = refl

pub one : of_bits binary64 4607182418800017408 ≡ number 1
unfolding of_bits of_int
one = refl

pub thousand : of_bits binary64 4652007308841189376 ≡ number 1000
unfolding of_bits of_int
thousand = refl

-- ---- cells that count

-- a cell of whole numbers gains 1.0
pub cell_more : (cs : List ℕ) (k : ℕ) (d : Float) → k < length cs → get_or cs k 0 ≤ 2 ^ 53
    → set (map number cs) k (add binary64 (get_or (map number cs) k d) (number 1))
    ≡ map number (set cs k (get_or cs k 0 + 1))
cell_more [] k d h b = absurd (not-suc-le-zero h)
cell_more (c ∷ cs) zero d h b = ap {B = List Float} (λ x. x ∷ map number cs) (number_add c 1 b (lit≤ tt))
cell_more (c ∷ cs) (suc k) d h b =
    ap {B = List Float} (λ t. number c ∷ t) (cell_more cs k d (le_of_suc-le-suc h) b)

-- A loop that counts in m cells: they hold the tally of the first i elements' numbers.
module _ (m : ℕ) (f : ℕ → ℕ) (xs : List ℕ) (row : List Float) (i : ℕ)
    (is : row ≡ map number (tallied (range 0 m) (map f (take i xs)))) where
  pub cells_next : (k : ℕ) (d : Float) → i < length xs → length xs < 2 ^ 32 → k ≡ f (get_or xs i 0) → k < m
      → set row k (add binary64 (get_or row k d) (number 1)) ≡ map number (tallied (range 0 m) (map f (take (i + 1) xs)))
  cells_next k d h b e l =
      let cs = tallied (range 0 m) (map f (take i xs)) in
      ap (λ (r : List Float). set r k (add binary64 (get_or r k d) (number 1))) is
      ∙ cell_more cs k d (rw (length_tally m (map f (take i xs))) l)
      (le_trans (counter_le m f xs cs i refl k (omega arith) l) (omega arith))
      ∙ ap (map number) (tally_next m f xs cs i refl k h e l)

-- the column of a letter is one of 22
pub column_within : (letter k : ℕ) → k ≡ column_of letter → k < 22
column_within letter k e = omega (arith, column_below letter)

-- ---- the counts of the 22 columns

pub length_counts : (sel : ℕ → ℕ → Bool) (letters : List ℕ) → length (counts sel letters) ≡ 22
unfolding counts
length_counts sel letters = refl

pub length_block : (sel : ℕ → ℕ → Bool) (letters : List ℕ) → length (block sel letters) ≡ 22
unfolding block
length_block sel letters = refl

-- what came back from counting a part that holds the letters at the positions that pass
pub embedded : (letters : List ℕ) (sel : ℕ → ℕ → Bool) (held : List ℕ) (rest back : List Float)
    → back ≡ map number (column_counts held) ++ rest
    → held ≡ chosen sel letters → back ≡ block sel letters ++ rest
unfolding block counts
embedded letters sel held rest back e h = e ∙ ap (λ (l : List ℕ). map number (column_counts l) ++ rest) h

-- what came back from making a cell of each of them
pub made : (g : Float → Float) (letters : List ℕ) (cells rest back : List Float)
    → back ≡ overwritten (map g cells) rest → cells ≡ map number (column_counts letters)
    → back ≡ map (λ c. g (number c)) (counts everywhere letters) ++ drop 22 rest
unfolding counts column_counts tallied range
made g letters cells rest back e h =
    e
    ∙ ap (λ (t : List Float). overwritten (map g t) rest) h
    ∙ ap (λ (l : List ℕ). overwritten (map g (map number (column_counts l))) rest) (sym (chosen_everywhere letters))

-- ---- the two parts of retention's row

abbrev pub retention_rest : List ℕ → Float → List Float
retention_rest letters log =
    block n_terminal letters
    ++ block (c_terminal Retention) letters
    ++ number (length letters) ∷ log ∷ number 1 ∷ []

pub retention_first : (letters : List ℕ) (log : Float) → take 22 (retention_row letters log) ≡ block everywhere letters
unfolding retention_row
retention_first letters log =
    take_at (block everywhere letters) (retention_rest letters log) 22 (length_block everywhere letters)

pub retention_rest_lem : (letters : List ℕ) (log : Float) → drop 22 (retention_row letters log) ≡ retention_rest letters log
unfolding retention_row
retention_rest_lem letters log =
    drop_at (block everywhere letters) (retention_rest letters log) 22 (length_block everywhere letters)

pub retention_whole : (letters : List ℕ) (log : Float)
    → block everywhere letters ++ drop 22 (retention_row letters log) ≡ retention_row letters log
retention_whole letters log =
    ap (λ (t : List Float). t ++ drop 22 (retention_row letters log)) (sym (retention_first letters log))
    ∙ take-append-drop 22 (retention_row letters log)

-- 22 cells that are cleared are the counts of no letter, and the cells behind them stay
pub cleared : (old back : List Float) → 22 ≤ length old → back ≡ replicate (length (take 22 old)) zero64
    → (back ++ drop 22 old ≡ map number (tallied (range 0 22) []) ++ drop 22 (back ++ drop 22 old))
    × (drop 22 (back ++ drop 22 old) ≡ drop 22 old)
unfolding tallied range how_many of_bits of_int
cleared old back h e =
    let z : back ≡ replicate 22 zero64 =
    e ∙ ap (λ (n : ℕ). replicate n zero64) {x = length (take 22 old)} {y = 22} (length-take-le 22 old h) in
    let r : drop 22 (back ++ drop 22 old) ≡ drop 22 old = ap (λ (b : List Float). drop 22 (b ++ drop 22 old)) z in
    (ap (λ (b : List Float). b ++ drop 22 old) z ∙ ap (λ (t : List Float). replicate 22 zero64 ++ t) (sym r), r)
