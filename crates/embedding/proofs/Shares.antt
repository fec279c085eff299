-- Laws of listing the shares of counts behind the counts: those of the counts that are not zero are not, and a share is
-- made of each that is listed.
use mathlib.Core.Path.{◌≡◌, refl, sym, ap, ◌∙◌}
use mathlib.Core.Bool.{Bool, true, false, cond}
use mathlib.Core.List.{List, [], ◌∷◌, ◌++◌, map, append_assoc}
use Prim.Native.Nat.{ℕ, zero, suc, ◌+◌, ◌^◌, ◌≤◌, ◌<◌}
use native.Mathlib.Numerals.{add-one}
use native.Mathlib.Nat.{le_of_suc-le-suc, not-suc-le-zero}
use native.Mathlib.Decide.{dec_lt}
use native.Mathlib.Omega.{arith}
use lib.Ieee.{Float, nan, binary64, div}
use lib.ListN.{length, get_or, set, take, length-map, get_or-map, get_or-append, get_or-eq_default}
use lib.Seq.{take-suc-set, length-take-le}
use Rattle.std.proofs.lemmas.List.{get_or-take}
use Rattle.float.specs.Number.{number}
use Rattle.float.specs.Value.{is_zero}
use Rattle.matrix.specs.Nonzero.{nonzeros, nonzero_cells}
use Rattle.mass.specs.Mass.{column_of}
use Rattle.embedding.specs.Count.{range, tallied}
use Rattle.embedding.specs.Design.{column_counts, share}
use Rattle.embedding.specs.Listing.{Appended, seen_in, divided}
use Rattle.embedding.proofs.Counting.{length_tally, tally_le, map_take_suc}
use Rattle.embedding.proofs.Appending.{both_listed, length_counted}
use Rattle.embedding.proofs.Numbers.{share_zero, shares_seen}

-- one cell more of a list that is copied, each cell changed by f, behind its first n cells
pub copied_next : {A : Type 0} (f : A → A) (d : A) (n i : ℕ) (old xs : List A) → i < n → n + n ≤ length xs
    → length xs ≡ length old → take (n + i) xs ≡ take n old ++ map f (take i old)
    → take (n + (i + 1)) (set xs (n + i) (f (get_or xs i d))) ≡ take n old ++ map f (take (i + 1) old)
copied_next {A} f d n i old xs h room same e =
    let up : n + (i + 1) ≡ suc (n + i) = omega arith in
    let m : n + i < length xs = omega arith in
    let cell : get_or xs i d ≡ get_or old i d =
    sym (get_or-take (n + i) xs i d (omega arith))
    ∙ ap (λ (t : List A). get_or t i d) e
    ∙ get_or-append (take n old) (map f (take i old)) d i (omega (arith, length-take-le n old (omega arith)))
    ∙ get_or-take n old i d h in
    rw (up, take-suc-set xs (n + i) (f (get_or xs i d)) m, e, cell, add-one i)
    (append_assoc (take n old) (map f (take i old)) (f (get_or old i d) ∷ [])
    ∙ ap (λ (t : List A). take n old ++ t) (map_take_suc f old i d (omega arith)))

-- a count is at most the number of letters
pub counts_le : (letters : List ℕ) (k : ℕ) → get_or (column_counts letters) k 0 ≤ length letters
unfolding column_counts
counts_le letters k = by (dec_lt k 22)
  where
    cs : List ℕ
    cs = tallied (range 0 22) (map column_of letters)

    by : Dec (k < 22) → get_or cs k 0 ≤ length letters
    by (yes h) = omega (arith, tally_le 22 (map column_of letters) k h, length-map letters column_of)
    by (no h) =
        omega (arith, get_or-eq_default cs 0 {n = k} (rw (length_tally 22 (map column_of letters)) (omega arith)))

-- ---- the shares of counts that are listed

module _ (n : ℕ) (some : 0 < n) (short : n ≤ 2 ^ 53) where
  share_places : (at j : ℕ) (cs : List ℕ) → ((k : ℕ) → get_or cs k 0 ≤ 2 ^ 53)
      → nonzeros (at + j) (map (share n) cs) ≡ map (λ p. at + p) (nonzeros j (map number cs))
  unfolding nonzeros
  share_places at j [] b = refl
  share_places at j (c ∷ cs) b =
      rw (share_zero n c some short (b 0)) (by (is_zero (number c)) (share_places at (suc j) cs (λ k. b (suc k))))
    where
      further : nonzeros (suc (at + j)) (map (share n) cs) ≡ nonzeros (at + suc j) (map (share n) cs)
      further = ap (λ (k : ℕ). nonzeros k (map (share n) cs)) {x = suc (at + j)} {y = at + suc j} (omega arith)

      by : (t : Bool) → nonzeros (at + suc j) (map (share n) cs) ≡ map (λ p. at + p) (nonzeros (suc j) (map number cs))
          → cond t (nonzeros (suc (at + j)) (map (share n) cs)) ((at + j) ∷ nonzeros (suc (at + j)) (map (share n) cs))
          ≡ map (λ p. at + p) (cond t (nonzeros (suc j) (map number cs)) (j ∷ nonzeros (suc j) (map number cs)))
      by true e = further ∙ e
      by false e = ap (λ (t : List ℕ). (at + j) ∷ t) (further ∙ e)

  share_cells : (cs : List ℕ) → ((k : ℕ) → get_or cs k 0 ≤ 2 ^ 53)
      → nonzero_cells (map (share n) cs) ≡ divided (number n) (nonzero_cells (map number cs))
  unfolding nonzero_cells
  share_cells [] b = refl
  share_cells (c ∷ cs) b =
      rw (share_zero n c some short (b 0)) (by (is_zero (number c)) (share_cells cs (λ k. b (suc k))))
    where
      by : (t : Bool) → nonzero_cells (map (share n) cs) ≡ divided (number n) (nonzero_cells (map number cs))
          → cond t (nonzero_cells (map (share n) cs)) (share n c ∷ nonzero_cells (map (share n) cs))
          ≡ divided (number n) (cond t (nonzero_cells (map number cs)) (number c ∷ nonzero_cells (map number cs)))
      by true e = e
      by false e = ap (λ (t : List Float). share n c ∷ t) e

-- The counts of a peptide's letters are listed, and behind them the share of each that is.
pub shares_listed : {m r : ℕ} {p₀ p₁ p₂ : List ℕ} {v₀ v₁ v₂ : List Float} (letters : List ℕ) → 0 < length letters
    → length letters < 2 ^ 32
    → Appended 0 (map number (column_counts letters)) 0 m p₀ p₁ v₀ v₁
    → r ≡ m + m
    → take r p₂ ≡ take m p₁ ++ map (λ p. 22 + p) (take m p₁)
    → take r v₂ ≡ take m v₁ ++ divided (number (length letters)) (take m v₁)
    → let cs = column_counts letters in Appended 0 (map number cs ++ map (share (length letters)) cs) 0 r p₀ p₂ v₀ v₂
shares_listed {m} {r} {p₀} {p₁} {p₂} {v₀} {v₁} {v₂} letters some short a twice places values =
    both_listed a (omega (arith, length_counted letters)) (record {
      few = omega (arith, a.few, length-map cs number, length-map cs (share n));
      count = omega (arith, a.count, ap length at, length-map (nonzeros 0 (map number cs)) (λ p. 22 + p));
      places_are =
          places ∙ ap (λ (t : List ℕ). take m p₁ ++ t) (ap (map (λ p. 22 + p)) a.places_are ∙ sym at);
      values_are =
          values ∙ ap (λ (t : List Float). take m v₁ ++ t) (ap (divided (number n)) a.values_are ∙ sym are);
    })
  where
    n : ℕ
    n = length letters

    cs : List ℕ
    cs = column_counts letters

    small : (k : ℕ) → get_or cs k 0 ≤ 2 ^ 53
    small k = omega (arith, counts_le letters k)

    at : nonzeros 22 (map (share n) cs) ≡ map (λ p. 22 + p) (nonzeros 0 (map number cs))
    at = share_places n some (omega arith) 22 0 cs small

    are : nonzero_cells (map (share n) cs) ≡ divided (number n) (nonzero_cells (map number cs))
    are = share_cells n some (omega arith) cs small

-- ---- the places of cells that are listed

nonzero_below : (j : ℕ) (xs : List Float) (k : ℕ) → k < length (nonzeros j xs) → get_or (nonzeros j xs) k 0 < j + length xs
unfolding nonzeros
nonzero_below j [] k h = absurd (not-suc-le-zero h)
nonzero_below j (x ∷ xs) k h = by (is_zero x) k h (nonzero_below (suc j) xs)
  where
    by : (t : Bool) (k : ℕ) → k < length (cond t (nonzeros (suc j) xs) (j ∷ nonzeros (suc j) xs))
        → ((i : ℕ) → i < length (nonzeros (suc j) xs) → get_or (nonzeros (suc j) xs) i 0 < suc j + length xs)
        → get_or (cond t (nonzeros (suc j) xs) (j ∷ nonzeros (suc j) xs)) k 0 < j + suc (length xs)
    by true k h more = omega (arith, more k h)
    by false zero h more = omega arith
    by false (suc k) h more = omega (arith, more k (le_of_suc-le-suc h))

pub place_listed : {r : ℕ} {cells : List Float} {p₀ p₁ : List ℕ} {v₀ v₁ : List Float} → Appended 0 cells 0 r p₀ p₁ v₀ v₁
    → (k : ℕ) → k < r → get_or p₁ k 0 < length cells
place_listed {r} {cells} {p₀} {p₁} a k h =
    let e : get_or p₁ k 0 ≡ get_or (nonzeros 0 cells) k 0 =
    sym (get_or-take r p₁ k 0 h) ∙ ap (λ (t : List ℕ). get_or t k 0) a.places_are in
    let b = nonzero_below 0 cells k (omega (arith, a.count)) in
    omega arith

-- ---- all shares

-- one share
pub share_at : (whole : Float) (cells : List Float) (k : ℕ)
    → div binary64 (get_or cells k nan) whole ≡ get_or (divided whole cells) k nan
unfolding div
share_at whole cells k = sym (get_or-map (λ x. div binary64 x whole) cells k nan)

-- the shares of a peptide's counts
module _ (letters : List ℕ) {counts : List Float} {whole : Float} (are : counts ≡ map number (column_counts letters))
    (is : whole ≡ number (length letters)) where
  pub shares_are : divided whole counts ≡ map (share (length letters)) (column_counts letters)
  unfolding column_counts
  shares_are = rw (are, is)

  -- the shares that are not zero are those of the counts that are not
  pub counts_seen : 0 < length letters → length letters < 2 ^ 32 → seen_in counts ≡ seen_in (divided whole counts)
  counts_seen some short =
      ap seen_in are
      ∙ sym
      (ap seen_in shares_are
      ∙ shares_seen (length letters) some (omega arith) (column_counts letters)
      (λ k. omega (arith, counts_le letters k)))
