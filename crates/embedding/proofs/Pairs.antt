-- Laws of the counts of at most two letters: which columns they have, the smaller first.
use mathlib.Core.Path.{◌≡◌, refl, sym, ap, ap₂, ◌∙◌, subst}
use mathlib.Core.Bool.{false}
use mathlib.Core.List.{List, [], ◌∷◌, ◌++◌, map, append_assoc}
use Prim.Native.Nat.{ℕ, zero, suc, ◌+◌, ◌<◌, min, max}
use native.Mathlib.Nat.{le_of_suc-le-suc, not-suc-le-zero}
use native.Mathlib.Decide.{dec_lt}
use native.Mathlib.Omega.{arith}
use lib.Dec.{lit<, lit≤}
use lib.Ieee.{Float}
use lib.ListN.{length, get_or, set, take, replicate}
use lib.Seq.{get_or-set_same, get_or-set_other, set-set, set_comm}
use Rattle.float.specs.Number.{number}
use Rattle.float.specs.Value.{is_zero}
use Rattle.matrix.specs.Nonzero.{nonzeros, nonzero_cells}
use Rattle.matrix.proofs.Lists.{get_d_same}
use Rattle.matrix.proofs.Nonzero.{nonzeros_few}
use Rattle.mass.specs.Mass.{column_of}
use Rattle.mass.proofs.Laws.{column_below}
use Rattle.embedding.specs.Count.{how_many, range, tallied}
use Rattle.embedding.specs.Design.{column_counts}
use Rattle.embedding.specs.Listing.{Appended}
use Rattle.embedding.proofs.Counting.{tally_more}
use Rattle.embedding.proofs.Numbers.{number_zero, number_some}

-- the cells of these numbers that are not zero: their places, and what they are
pub record Shown (at : ℕ) (cells : List Float) (places : List ℕ) (values : List Float) : Type 0 where
  pub places_are : nonzeros at cells ≡ places
  pub values_are : nonzero_cells cells ≡ values

-- ---- zeros with at most two cells that are not

abbrev zeros : ℕ → List ℕ
zeros m = replicate m 0

zero_first : (at : ℕ) (cs : List ℕ) (ps : List ℕ) (vs : List Float) → Shown (suc at) (map number cs) ps vs
    → Shown at (map number (0 ∷ cs)) ps vs
unfolding nonzeros nonzero_cells
zero_first at cs ps vs s =
    record { places_are = rw number_zero s.places_are; values_are = rw number_zero s.values_are }

some_first : (at c : ℕ) (cs : List ℕ) (ps : List ℕ) (vs : List Float) → is_zero (number c) ≡ false
    → Shown (suc at) (map number cs) ps vs → Shown at (map number (c ∷ cs)) (at ∷ ps) (number c ∷ vs)
unfolding nonzeros nonzero_cells
some_first at c cs ps vs z s = record {
  places_are = rw z (ap (λ (t : List ℕ). at ∷ t) s.places_are);
  values_are = rw z (ap (λ (t : List Float). number c ∷ t) s.values_are);
}

no_cell : (at m : ℕ) → Shown at (map number (zeros m)) [] []
unfolding nonzeros nonzero_cells
no_cell at zero = record { places_are = refl; values_are = refl }
no_cell at (suc m) = zero_first at (zeros m) [] [] (no_cell (suc at) m)

moved : (at a b : ℕ) (cells : List Float) (ps : List ℕ) (vs : List Float) → a ≡ b → Shown at cells (a ∷ ps) vs
    → Shown at cells (b ∷ ps) vs
moved at a b cells ps vs e s = rw (← e) s

one_cell : (at m a c : ℕ) → a < m → is_zero (number c) ≡ false
    → Shown at (map number (set (zeros m) a c)) ((at + a) ∷ []) (number c ∷ [])
one_cell at zero a c h z = absurd (not-suc-le-zero h)
one_cell at (suc m) zero c h z =
    moved at at (at + 0) _ [] _ (omega arith) (some_first at c (zeros m) [] [] z (no_cell (suc at) m))
one_cell at (suc m) (suc a) c h z =
    zero_first at (set (zeros m) a c) _ _
    (moved (suc at) (suc at + a) (at + suc a) _ [] _ (omega arith) (one_cell (suc at) m a c (le_of_suc-le-suc h) z))

both_moved : (at a b p q : ℕ) (cells vs : List Float) → a ≡ p → b ≡ q → Shown at cells (a ∷ b ∷ []) vs
    → Shown at cells (p ∷ q ∷ []) vs
both_moved at a b p q cells vs e f s = rw (← e, ← f) s

two_cells : (at m a b c d : ℕ) → a < b → b < m → is_zero (number c) ≡ false → is_zero (number d) ≡ false
    → Shown at (map number (set (set (zeros m) a c) b d)) ((at + a) ∷ (at + b) ∷ []) (number c ∷ number d ∷ [])
two_cells at zero a b c d h l z y = absurd (not-suc-le-zero l)
two_cells at (suc m) a zero c d h l z y = absurd (not-suc-le-zero h)
two_cells at (suc m) zero (suc b) c d h l z y =
    both_moved at at (suc at + b) (at + 0) (at + suc b) _ _ (omega arith) (omega arith)
    (some_first at c (set (zeros m) b d) _ _ z (one_cell (suc at) m b d (le_of_suc-le-suc l) y))
two_cells at (suc m) (suc a) (suc b) c d h l z y =
    zero_first at (set (set (zeros m) a c) b d) _ _
    (both_moved (suc at) (suc at + a) (suc at + b) (at + suc a) (at + suc b) _ _ (omega arith) (omega arith)
    (two_cells (suc at) m a b c d (le_of_suc-le-suc h) (le_of_suc-le-suc l) z y))

shown_of : {ps : List ℕ} {vs : List Float} (at : ℕ) (cs ds : List ℕ) → cs ≡ ds → Shown at (map number ds) ps vs
    → Shown at (map number cs) ps vs
shown_of {ps} {vs} at cs ds e s = subst (λ (t : List ℕ). Shown at (map number t) ps vs) (sym e) s

-- ---- the counts of two letters

none_tallied : tallied (range 0 22) [] ≡ zeros 22
unfolding tallied range how_many
none_tallied = refl

one_tallied : (a : ℕ) → a < 22 → tallied (range 0 22) (a ∷ []) ≡ set (zeros 22) a 1
one_tallied a h =
    sym (tally_more 22 [] a h)
    ∙ ap (λ (cs : List ℕ). set cs a (get_or cs a 0 + 1)) none_tallied
    ∙ ap (λ (k : ℕ). set (zeros 22) a (k + 1)) (get_d_same 22 a 0)

two_tallied : (a b : ℕ) → a < 22 → b < 22
    → tallied (range 0 22) (a ∷ b ∷ []) ≡ set (set (zeros 22) a 1) b (get_or (set (zeros 22) a 1) b 0 + 1)
two_tallied a b h l =
    sym (tally_more 22 (a ∷ []) b l) ∙ ap (λ (cs : List ℕ). set cs b (get_or cs b 0 + 1)) (one_tallied a h)

same_tallied : (a : ℕ) → a < 22 → tallied (range 0 22) (a ∷ a ∷ []) ≡ set (zeros 22) a 2
same_tallied a h =
    two_tallied a a h h
    ∙ ap (λ (k : ℕ). set (set (zeros 22) a 1) a (k + 1)) (get_or-set_same (zeros 22) a 1 0 (omega arith))
    ∙ set-set (zeros 22) a 1 2

other_tallied : (a b : ℕ) → a < 22 → b < 22 → (b ≡ a → ⊥)
    → tallied (range 0 22) (a ∷ b ∷ []) ≡ set (set (zeros 22) a 1) b 1
other_tallied a b h l d =
    two_tallied a b h l
    ∙ ap (λ (k : ℕ). set (set (zeros 22) a 1) b (k + 1)) (get_or-set_other (zeros 22) a b 1 0 d ∙ get_d_same 22 b 0)

-- ---- a part of a peptide

pub one_some : is_zero (number 1) ≡ false
one_some = number_some 1 (lit< tt) (lit≤ tt)

pub two_some : is_zero (number 2) ≡ false
two_some = number_some 2 (lit< tt) (lit≤ tt)

pub no_letter : (part : List ℕ) (at : ℕ) → length part ≡ 0 → Shown at (map number (column_counts part)) [] []
unfolding column_counts
no_letter [] at e = shown_of at _ (zeros 22) none_tallied (no_cell at 22)
no_letter (x ∷ part) at e = absurd (omega arith)

pub one_letter : (part : List ℕ) (at a : ℕ) → length part ≡ 1 → a ≡ column_of (get_or part 0 0)
    → Shown at (map number (column_counts part)) ((at + a) ∷ []) (number 1 ∷ [])
unfolding column_counts
one_letter [] at a e c = absurd (omega arith)
one_letter (x ∷ []) at a e c =
    let h : a < 22 = rw c (column_below x) in
    shown_of at _ (set (zeros 22) a 1)
    (ap (λ (k : ℕ). tallied (range 0 22) (k ∷ [])) (sym c) ∙ one_tallied a h) (one_cell at 22 a 1 h one_some)
one_letter (x ∷ y ∷ part) at a e c = absurd (omega arith)

pub two_letters : (part : List ℕ) (a b : ℕ) → length part ≡ 2 → a ≡ column_of (get_or part 0 0)
    → b ≡ column_of (get_or part 1 0)
    → column_counts part ≡ tallied (range 0 22) (a ∷ b ∷ [])
unfolding column_counts
two_letters [] a b e c d = absurd (omega arith)
two_letters (x ∷ []) a b e c d = absurd (omega arith)
two_letters (x ∷ y ∷ []) a b e c d = rw (c, d)
two_letters (x ∷ y ∷ z ∷ part) a b e c d = absurd (omega arith)

-- ---- two columns

pub same_pair : (at a b : ℕ) → a < 22 → a ≡ b
    → Shown at (map number (tallied (range 0 22) (a ∷ b ∷ []))) ((at + a) ∷ []) (number 2 ∷ [])
same_pair at a b h e =
    shown_of at _ (set (zeros 22) a 2)
    (ap (λ (k : ℕ). tallied (range 0 22) (a ∷ k ∷ [])) (sym e) ∙ same_tallied a h)
    (one_cell at 22 a 2 h two_some)

pub other_pair : (at a b : ℕ) → a < 22 → b < 22 → (a ≡ b → ⊥)
    → Shown at (map number (tallied (range 0 22) (a ∷ b ∷ []))) ((at + min a b) ∷ (at + max a b) ∷ []) (number 1 ∷ number 1 ∷ [])
other_pair at a b h l d = by (dec_lt a b)
  where
    apart : tallied (range 0 22) (a ∷ b ∷ []) ≡ set (set (zeros 22) a 1) b 1
    apart = other_tallied a b h l (λ f. d (sym f))

    by : Dec (a < b)
        → Shown at (map number (tallied (range 0 22) (a ∷ b ∷ []))) ((at + min a b) ∷ (at + max a b) ∷ []) (number 1 ∷ number 1 ∷ [])
    by (yes r) =
        let low : min a b ≡ a = omega arith in
        let high : max a b ≡ b = omega arith in
        rw (low, high)
        (shown_of at _ (set (set (zeros 22) a 1) b 1) apart (two_cells at 22 a b 1 1 r l one_some one_some))
    by (no r) =
        let low : min a b ≡ b = omega arith in
        let high : max a b ≡ a = omega arith in
        rw (low, high)
        (shown_of at _ (set (set (zeros 22) b 1) a 1) (apart ∙ set_comm (zeros 22) a b 1 1 d)
        (two_cells at 22 b a 1 1 (omega arith) h one_some one_some))

-- ---- what came of listing it

module _ {at r n : ℕ} {cells : List Float} {ps : List ℕ} {vs : List Float} (s : Shown at cells ps vs) where
  -- these places and values were appended
  pub pair_listed : {p₀ p₁ : List ℕ} {v₀ v₁ : List Float} → r ≡ n + length ps → take r p₁ ≡ take n p₀ ++ ps
      → take r v₁ ≡ take n v₀ ++ vs → Appended at cells n r p₀ p₁ v₀ v₁
  pair_listed {p₀} {p₁} {v₀} {v₁} c p v =
      let k = ap length s.places_are in
      record {
        few = omega (arith, nonzeros_few at cells);
        count = omega arith;
        places_are = p ∙ ap (λ (t : List ℕ). take n p₀ ++ t) (sym s.places_are);
        values_are = v ∙ ap (λ (t : List Float). take n v₀ ++ t) (sym s.values_are);
      }

  -- a cell was that has the same
  pub cell_shown : {p : ℕ} {x : Float} {p₀ p₁ : List ℕ} {v₀ v₁ : List Float} → ps ≡ p ∷ [] → vs ≡ x ∷ []
      → is_zero x ≡ false
      → Appended p (x ∷ []) n r p₀ p₁ v₀ v₁ → Appended at cells n r p₀ p₁ v₀ v₁
  unfolding nonzeros nonzero_cells
  cell_shown {p} {x} {p₀} {p₁} {v₀} {v₁} e f z a =
      let q : nonzeros p (x ∷ []) ≡ p ∷ [] = rw z in
      let y : nonzero_cells (x ∷ []) ≡ x ∷ [] = rw z in
      pair_listed (a.count ∙ ap (λ (t : List ℕ). n + length t) (q ∙ sym e))
      (a.places_are ∙ ap (λ (t : List ℕ). take n p₀ ++ t) (q ∙ sym e))
      (a.values_are ∙ ap (λ (t : List Float). take n v₀ ++ t) (y ∙ sym f))

  -- two cells were that have the same
  pub cells_shown : {p q m : ℕ} {x y : Float} {p₀ p₁ p₂ : List ℕ} {v₀ v₁ v₂ : List Float} → ps ≡ p ∷ q ∷ []
      → vs ≡ x ∷ y ∷ [] → is_zero x ≡ false → is_zero y ≡ false
      → Appended p (x ∷ []) n m p₀ p₁ v₀ v₁
      → Appended q (y ∷ []) m r p₁ p₂ v₁ v₂ → Appended at cells n r p₀ p₂ v₀ v₂
  unfolding nonzeros nonzero_cells
  cells_shown {p} {q} {m} {x} {y} {p₀} {p₁} {p₂} {v₀} {v₁} {v₂} e f z w a b =
      let pa : nonzeros p (x ∷ []) ≡ p ∷ [] = rw z in
      let pb : nonzeros q (y ∷ []) ≡ q ∷ [] = rw w in
      let va : nonzero_cells (x ∷ []) ≡ x ∷ [] = rw z in
      let vb : nonzero_cells (y ∷ []) ≡ y ∷ [] = rw w in
      pair_listed (omega (arith, a.count, b.count, ap length pa, ap length pb, ap length e))
      (b.places_are
      ∙ ap₂ (λ (s t : List ℕ). s ++ t) (a.places_are ∙ ap (λ (t : List ℕ). take n p₀ ++ t) pa) pb
      ∙ append_assoc (take n p₀) (p ∷ []) (q ∷ [])
      ∙ ap (λ (t : List ℕ). take n p₀ ++ t) (sym e))
      (b.values_are
      ∙ ap₂ (λ (s t : List Float). s ++ t) (a.values_are ∙ ap (λ (t : List Float). take n v₀ ++ t) va) vb
      ∙ append_assoc (take n v₀) (x ∷ []) (y ∷ [])
      ∙ ap (λ (t : List Float). take n v₀ ++ t) (sym f))
