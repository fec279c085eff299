-- Two tables of rows that hold the same kept rows in the same order, between rows that are dropped, have the same kept
-- rows: walk both at once, and step past a dropped row of either.
use mathlib.Core.Path.{◌≡◌, refl, sym, ap, ◌∙◌}
use mathlib.Core.Bool.{Bool, true, false, cond, true≢false}
use mathlib.Core.List.{List, [], ◌∷◌}
use mathlib.Core.Option.{Option}
use Prim.Native.Nat.{ℕ, zero, suc, ◌+◌, ◌≤◌, ◌<◌}
use native.Mathlib.Nat.{not-suc-le-zero, le_of_suc-le-suc}
use native.Mathlib.Omega.{arith}
use lib.Ieee.{Float, binary64}
use Rattle.float.specs.Value.{is_normal}
use Rattle.matrix.specs.Lists.{tabulate}
use Rattle.rt_matrix.specs.Line.{mean, kept_rows}

abbrev pub Cells : Type 0
Cells = List (Option Float)

-- whether a row is kept
abbrev pub keeps : Cells → Bool
keeps row = is_normal binary64 (mean row)

-- R says which row of the first table is which of the second: each that is kept has its like, and these stand in the
-- same order
pub record Matched (m n : ℕ) (f g : ℕ → Cells) (R : ℕ → ℕ → Type 0) : Type 0 where
  pub forth : (i : ℕ) → i < m → keeps (f i) ≡ true → (j : ℕ) × (j < n) × R i j
  pub back : (j : ℕ) → j < n → keeps (g j) ≡ true → (i : ℕ) × (i < m) × R i j
  pub like : (i j : ℕ) → R i j → g j ≡ f i
  pub rises : (i k j l : ℕ) → R i j → R k l → i < k → j < l
  pub falls : (i k j l : ℕ) → R i j → R k l → j < l → i < k

-- ---- one row more

module _ (n : ℕ) (f : ℕ → Cells) where
  abbrev later : List Cells
  later = kept_rows (tabulate n (λ i. f (suc i)))

  kept_row : keeps (f 0) ≡ true → kept_rows (tabulate (suc n) f) ≡ f 0 ∷ later
  unfolding tabulate kept_rows
  kept_row h = ap (λ (b : Bool). cond b (f 0 ∷ later) later) h

  dropped_row : keeps (f 0) ≡ false → kept_rows (tabulate (suc n) f) ≡ later
  unfolding tabulate kept_rows
  dropped_row h = ap (λ (b : Bool). cond b (f 0 ∷ later) later) h

-- a row and its like are kept both or neither
clash : {A : Type 0} (x y : Cells) → y ≡ x → keeps x ≡ true → keeps y ≡ false → A
clash x y e h k = absurd (true≢false (sym h ∙ ap keeps (sym e) ∙ k))

module _ (f g : ℕ → Cells) (R : ℕ → ℕ → Type 0) where
  -- the first table's next row is dropped
  first_dropped : (m n : ℕ) → Matched (suc m) n f g R → keeps (f 0) ≡ false
      → Matched m n (λ i. f (suc i)) g (λ i j. R (suc i) j)
  first_dropped m n s d =
      record {
        forth = λ i l h. s.forth (suc i) (omega arith) h;
        back = λ j l h. behind j h (s.back j l h);
        like = λ i j r. s.like (suc i) j r;
        rises = λ i k j l r t h. s.rises (suc i) (suc k) j l r t (omega arith);
        falls = λ i k j l r t h. le_of_suc-le-suc (s.falls (suc i) (suc k) j l r t h);
      }
    where
      behind : (j : ℕ) → keeps (g j) ≡ true → (i : ℕ) × (i < suc m) × R i j → (i : ℕ) × (i < m) × R (suc i) j
      behind j h (zero, l, r) = clash (g j) (f 0) (sym (s.like 0 j r)) h d
      behind j h (suc i, l, r) = (i, le_of_suc-le-suc l, r)

  -- the second table's next row is dropped
  second_dropped : (m n : ℕ) → Matched m (suc n) f g R → keeps (g 0) ≡ false
      → Matched m n f (λ j. g (suc j)) (λ i j. R i (suc j))
  second_dropped m n s d =
      record {
        forth = λ i l h. behind i h (s.forth i l h);
        back = λ j l h. s.back (suc j) (omega arith) h;
        like = λ i j r. s.like i (suc j) r;
        rises = λ i k j l r t h. le_of_suc-le-suc (s.rises i k (suc j) (suc l) r t h);
        falls = λ i k j l r t h. s.falls i k (suc j) (suc l) r t (omega arith);
      }
    where
      behind : (i : ℕ) → keeps (f i) ≡ true → (j : ℕ) × (j < suc n) × R i j → (j : ℕ) × (j < n) × R i (suc j)
      behind i h (zero, l, r) = clash (f i) (g 0) (s.like i 0 r) h d
      behind i h (suc j, l, r) = (j, le_of_suc-le-suc l, r)

  -- both are kept: they are each other's like
  both_first : (m n : ℕ) → Matched (suc m) (suc n) f g R → keeps (f 0) ≡ true → keeps (g 0) ≡ true → R 0 0
  both_first m n s h k = first (s.forth 0 (omega arith) h) (s.back 0 (omega arith) k)
    where
      first : (j : ℕ) × (j < suc n) × R 0 j → (i : ℕ) × (i < suc m) × R i 0 → R 0 0
      first x (zero, l, r) = r
      first (j, l, t) (suc i, o, r) = absurd (not-suc-le-zero (s.rises 0 (suc i) j 0 t r (omega arith)))

  both_kept : (m n : ℕ) → Matched (suc m) (suc n) f g R → R 0 0
      → Matched m n (λ i. f (suc i)) (λ j. g (suc j)) (λ i j. R (suc i) (suc j))
  both_kept m n s z =
      record {
        forth = λ i l h. after i (s.forth (suc i) (omega arith) h);
        back = λ j l h. before j (s.back (suc j) (omega arith) h);
        like = λ i j r. s.like (suc i) (suc j) r;
        rises = λ i k j l r t h.
            le_of_suc-le-suc (s.rises (suc i) (suc k) (suc j) (suc l) r t (omega arith));
        falls = λ i k j l r t h.
            le_of_suc-le-suc (s.falls (suc i) (suc k) (suc j) (suc l) r t (omega arith));
      }
    where
      after : (i : ℕ) → (j : ℕ) × (j < suc n) × R (suc i) j → (j : ℕ) × (j < n) × R (suc i) (suc j)
      after i (zero, l, r) = absurd (not-suc-le-zero (s.rises 0 (suc i) 0 0 z r (omega arith)))
      after i (suc j, l, r) = (j, le_of_suc-le-suc l, r)

      before : (j : ℕ) → (i : ℕ) × (i < suc m) × R i (suc j) → (i : ℕ) × (i < m) × R (suc i) (suc j)
      before j (zero, l, r) = absurd (not-suc-le-zero (s.falls 0 0 0 (suc j) z r (omega arith)))
      before j (suc i, l, r) = (i, le_of_suc-le-suc l, r)

-- ---- all rows

-- tables with k rows at most between them
abbrev Settled : ℕ → Type 1
Settled k =
    (m n : ℕ) (f g : ℕ → Cells) (R : ℕ → ℕ → Type 0) → m + n ≤ k → Matched m n f g R
    → kept_rows (tabulate n g) ≡ kept_rows (tabulate m f)

one_more : (k : ℕ) → Settled k → Settled (suc k)
unfolding tabulate kept_rows
one_more k rest zero zero f g R l s = refl
one_more k rest zero (suc n) f g R l s = by (keeps (g 0)) refl
  where
    by : (b : Bool) → keeps (g 0) ≡ b → kept_rows (tabulate (suc n) g) ≡ []
    by true h = absurd (not-suc-le-zero (s.back 0 (omega arith) h).1)
    by false h =
        dropped_row n g h
        ∙ rest zero n f (λ j. g (suc j)) (λ i j. R i (suc j)) (omega arith) (second_dropped f g R zero n s h)
one_more k rest (suc m) zero f g R l s = by (keeps (f 0)) refl
  where
    by : (b : Bool) → keeps (f 0) ≡ b → [] ≡ kept_rows (tabulate (suc m) f)
    by true h = absurd (not-suc-le-zero (s.forth 0 (omega arith) h).1)
    by false h =
        rest m zero (λ i. f (suc i)) g (λ i j. R (suc i) j) (omega arith) (first_dropped f g R m zero s h)
        ∙ sym (dropped_row m f h)
one_more k rest (suc m) (suc n) f g R l s = by (keeps (f 0)) (keeps (g 0)) refl refl
  where
    by : (b c : Bool) → keeps (f 0) ≡ b → keeps (g 0) ≡ c
        → kept_rows (tabulate (suc n) g) ≡ kept_rows (tabulate (suc m) f)
    by false c h t =
        rest m (suc n) (λ i. f (suc i)) g (λ i j. R (suc i) j) (omega arith) (first_dropped f g R m (suc n) s h)
        ∙ sym (dropped_row m f h)
    by true false h t =
        dropped_row n g t
        ∙ rest (suc m) n f (λ j. g (suc j)) (λ i j. R i (suc j)) (omega arith) (second_dropped f g R (suc m) n s t)
    by true true h t =
        let z = both_first f g R m n s h t in
        kept_row n g t
        ∙ ap (λ (x : Cells). x ∷ kept_rows (tabulate n (λ j. g (suc j)))) (s.like 0 0 z)
        ∙ ap (λ (x : List Cells). f 0 ∷ x)
        (rest m n (λ i. f (suc i)) (λ j. g (suc j)) (λ i j. R (suc i) (suc j)) (omega arith)
        (both_kept f g R m n s z))
        ∙ sym (kept_row m f h)

settled : (k : ℕ) → Settled k
unfolding tabulate kept_rows
settled zero zero zero f g R l s = refl
settled zero zero (suc n) f g R l s = absurd (omega arith)
settled zero (suc m) n f g R l s = absurd (omega arith)
settled (suc k) m n f g R l s = one_more k (settled k) m n f g R l s

pub kept_same : (m n : ℕ) (f g : ℕ → Cells) (R : ℕ → ℕ → Type 0) → Matched m n f g R
    → kept_rows (tabulate n g) ≡ kept_rows (tabulate m f)
kept_same m n f g R s = settled (m + n) m n f g R (omega arith) s
