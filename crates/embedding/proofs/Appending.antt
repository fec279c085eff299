-- Laws of listing the cells of a row that are not zero: one cell, two blocks end to end, how many cells a block has.
use mathlib.Core.Path.{◌≡◌, refl, sym, ap, ◌∙◌, subst}
use mathlib.Core.Bool.{Bool, true, false}
use mathlib.Core.List.{List, [], ◌∷◌, ◌++◌, map, append_assoc, append-nil}
use Prim.Native.Nat.{ℕ, ◌+◌, ◌<◌}
use native.Mathlib.Numerals.{add-one}
use native.Mathlib.Omega.{arith}
use lib.Ieee.{Float, nan}
use lib.ListN.{length, take, set, get_or, length-append}
use lib.Seq.{take-suc, take-set-le, take-suc-set, length-take-le}
use Rattle.float.specs.Value.{is_zero}
use Rattle.matrix.specs.Nonzero.{nonzeros, nonzero_cells}
use Rattle.matrix.proofs.Nonzero.{nonzeros_append, cells_append}
use Rattle.float.specs.Number.{number}
use Rattle.embedding.specs.Design.{everywhere, chosen, column_counts, counts, block, share}
use Rattle.embedding.specs.Listing.{Appended}
use Rattle.embedding.proofs.Positions.{chosen_everywhere}

-- ---- one cell, which is stored behind the first n whether it counts or not

pub cell_listed : (x : Float) (at n : ℕ) (places : List ℕ) (values : List Float) → n < length places
    → n < length values → is_zero x ≡ false
    → Appended at (x ∷ []) n (n + 1) places (set places n at) values (set values n x)
unfolding nonzeros nonzero_cells
cell_listed x at n places values h l z = record {
  few = omega arith;
  count = rw z;
  places_are = rw (z, add-one n) (take-suc-set places n at h);
  values_are = rw (z, add-one n) (take-suc-set values n x l);
}

pub cell_skipped : (x : Float) (at n : ℕ) (places : List ℕ) (values : List Float) → is_zero x ≡ true
    → Appended at (x ∷ []) n n places (set places n at) values (set values n x)
unfolding nonzeros nonzero_cells
cell_skipped x at n places values z = record {
  few = omega arith;
  count = rw z (omega arith);
  places_are = rw z (take-set-le n places n at (omega arith) ∙ sym (append-nil (take n places)));
  values_are = rw z (take-set-le n values n x (omega arith) ∙ sym (append-nil (take n values)));
}

-- ---- no block, and two end to end

pub none_listed : (at n : ℕ) (places : List ℕ) (values : List Float) → Appended at [] n n places places values values
unfolding nonzeros nonzero_cells
none_listed at n places values = record {
  few = omega arith;
  count = omega arith;
  places_are = sym (append-nil (take n places));
  values_are = sym (append-nil (take n values));
}

pub both_listed : {at j n m r : ℕ} {xs ys : List Float} {p₀ p₁ p₂ : List ℕ} {v₀ v₁ v₂ : List Float}
    → Appended at xs n m p₀ p₁ v₀ v₁ → j ≡ at + length xs → Appended j ys m r p₁ p₂ v₁ v₂
    → Appended at (xs ++ ys) n r p₀ p₂ v₀ v₂
both_listed {at} {j} {n} {m} {r} {xs} {ys} {p₀} {p₁} {p₂} {v₀} {v₁} {v₂} a e b =
    let l = length-append xs ys in
    let all : nonzeros at (xs ++ ys) ≡ nonzeros at xs ++ nonzeros j ys =
    nonzeros_append at xs ys ∙ ap (λ (k : ℕ). nonzeros at xs ++ nonzeros k ys) (sym e) in
    let k = ap length all ∙ length-append (nonzeros at xs) (nonzeros j ys) in
    record {
      few = omega (arith, a.few, b.few);
      count = omega (arith, a.count, b.count);
      places_are =
          b.places_are
          ∙ ap (λ (t : List ℕ). t ++ nonzeros j ys) a.places_are
          ∙ append_assoc (take n p₀) (nonzeros at xs) (nonzeros j ys)
          ∙ ap (λ (t : List ℕ). take n p₀ ++ t) (sym all);
      values_are =
          b.values_are
          ∙ ap (λ (t : List Float). t ++ nonzero_cells ys) a.values_are
          ∙ append_assoc (take n v₀) (nonzero_cells xs) (nonzero_cells ys)
          ∙ ap (λ (t : List Float). take n v₀ ++ t) (sym (cells_append xs ys));
    }

-- the same block, told otherwise
pub listed_as : {at n r : ℕ} {xs ys : List Float} {p₀ p₁ : List ℕ} {v₀ v₁ : List Float} → xs ≡ ys
    → Appended at xs n r p₀ p₁ v₀ v₁ → Appended at ys n r p₀ p₁ v₀ v₁
listed_as {at} {n} {r} {xs} {ys} {p₀} {p₁} {v₀} {v₁} e a =
    subst (λ (t : List Float). Appended at t n r p₀ p₁ v₀ v₁) e a

-- the counts of a part that holds the letters at the positions that pass
pub part_listed : {at n r : ℕ} {p₀ p₁ : List ℕ} {v₀ v₁ : List Float} {held : List ℕ} (sel : ℕ → ℕ → Bool)
    (letters : List ℕ)
    → held ≡ chosen sel letters → Appended at (map number (column_counts held)) n r p₀ p₁ v₀ v₁
    → Appended at (block sel letters) n r p₀ p₁ v₀ v₁
unfolding block counts
part_listed sel letters e a = listed_as (ap (λ (l : List ℕ). map number (column_counts l)) e) a

-- those of all letters
pub all_counted : {cells : List Float} (letters : List ℕ) → cells ≡ map number (column_counts letters)
    → cells ≡ block everywhere letters
unfolding block counts
all_counted letters e = e ∙ ap (λ (l : List ℕ). map number (column_counts l)) (sym (chosen_everywhere letters))

-- one cell more of a block
pub next_listed : {at k n m r : ℕ} {p₀ p₁ p₂ : List ℕ} {v₀ v₁ v₂ : List Float} (cells : List Float) → k < length cells
    → Appended at (take k cells) n m p₀ p₁ v₀ v₁
    → Appended (at + k) (get_or cells k nan ∷ []) m r p₁ p₂ v₁ v₂
    → Appended at (take (k + 1) cells) n r p₀ p₂ v₀ v₂
next_listed {k = k} cells h a b =
    listed_as (sym (take-suc cells k nan h) ∙ ap (λ (m : ℕ). take m cells) (sym (add-one k)))
    (both_listed a (omega (arith, length-take-le k cells (omega arith))) b)

-- ---- how many cells a block has

pub length_counted : (letters : List ℕ) → length (map number (column_counts letters)) ≡ 22
unfolding column_counts
length_counted letters = refl

-- a peptide's counts and their shares
abbrev pub composition : List ℕ → List Float
composition letters =
    let cs = column_counts letters in map number cs ++ map (share (length letters)) cs

pub length_composition : (letters : List ℕ) → length (composition letters) ≡ 44
unfolding column_counts
length_composition letters = refl
