-- Rows of a matrix that are replaced: each in a turn of a loop, the first ones, or the later ones. For any cells.
use mathlib.Core.Path.{◌≡◌, refl, sym, ap, ◌∙◌}
use mathlib.Core.List.{List, [], ◌∷◌, ◌++◌, map}
use Prim.Native.Nat.{ℕ, zero, suc, ◌+◌, ◌-◌, ◌*◌, ◌≤◌, ◌<◌}
use native.Mathlib.Nat.{add-sub_cancel_left, le_refl, le_of_eq, le_of_suc-le-suc, not-suc-le-zero}
use native.Mathlib.Nat.{mul-le-mul_right, suc-mul}
use native.Mathlib.Numerals.{add-one}
use native.Mathlib.Omega.{arith}
use lib.ListN.{length, get_or, take, drop, set, length-map}
use lib.Seq.{length-take-le, take-take}
use denote.Ref.{MutBor}
use denote.Param.Members.{Shared}
use Rattle.std.specs.Fork.{ChangesEach}
use Rattle.std.proofs.lemmas.List.{ext_get_or, get_or_default, get_or-map}
use Rattle.matrix.specs.Rows.{rows_of}
use borrow.Rule.Slice.PartMut.{same_len_mid}
use Rattle.matrix.proofs.Laws.{
  put,
  row_end,
  row_rows_of,
  length_rows_of,
  length_row_at,
  rows_of_put_row,
  rows_of_append_add,
  rows_of_take,
  take_rows_of,
  drop_rows_of,
}
use Rattle.elimination.specs.Rows.{row_of, augmented}
use Rattle.elimination.proofs.Made.{made, made_suc, made_later}
use Rattle.elimination.proofs.Parts.{part_length}

-- the start of the next row, and of the one before
pub next_start : (a i w : ℕ) → a ≡ i * w → a + w ≡ (i + 1) * w
next_start a i w e = omega arith

pub previous_start : (a i w : ℕ) → 0 < i → a ≡ i * w → (w ≤ a) × (a - w ≡ (i - 1) * w)
previous_start a zero w h e = absurd (not-suc-le-zero h)
previous_start a (suc i) w h e = let less : suc i - 1 ≡ i = omega arith in (omega arith, rw less (omega arith))

-- ---- a loop that makes the rows anew, in their order

-- m rows, one after the other in a flat list: row i begins at `start i` and has `wide i` cells.
pub record Layout {A : Type 0} (m : ℕ) (rows : List A → List (List A)) (start wide : ℕ → ℕ) : Type 0 where
  pub row_next : (i : ℕ) → start (suc i) ≡ start i + wide i
  pub row_ends : (i : ℕ) → i < m → start i + wide i ≤ start m
  pub row_is : (i : ℕ) (xs : List A) → i < m → row_of (rows xs) i ≡ take (wide i) (drop (start i) xs)
  pub row_put : (i : ℕ) (r xs : List A) → i < m → start m ≤ length xs → length r ≡ wide i
      → rows (put (start i) (wide i) r xs) ≡ set (rows xs) i r

-- The first i rows are made anew by g, row i begins at `at`, and the length is as it was.
abbrev pub MadeIn : {A : Type 0} → (m : ℕ) (rows : List A → List (List A)) (start : ℕ → ℕ)
    → (ℕ → List A → List A) → (xs₀ xs : List A) → (at i : ℕ) → Type 0
MadeIn m rows start g xs₀ xs at i =
    (i ≤ m) × (at ≡ start i) × (rows xs ≡ made g i (rows xs₀)) × (length xs ≡ length xs₀)

-- A turn of the loop, at row i: the part from `at` on, v cells long, is lent. It lies within the list and is row i as
-- it was; made anew, it leaves one row more made anew.
pub record TurnIn {A : Type 0} (m : ℕ) (rows : List A → List (List A)) (start : ℕ → ℕ) (g : ℕ → List A → List A)
    (xs₀ xs : List A) (at v i : ℕ) : Type 0 where
  pub fits : at + v ≤ length xs
  pub part : length (take (at + v - at) (drop at xs)) ≡ v
  pub row : take (at + v - at) (drop at xs) ≡ row_of (rows xs₀) i
  pub next : (r : List A) → length r ≡ length (take (at + v - at) (drop at xs))
      → r ≡ g i (take (at + v - at) (drop at xs))
      → MadeIn m rows start g xs₀ (take at xs ++ (r ++ drop (at + v - at) (drop at xs))) (at + v) (i + 1)

module _ {A : Type 0} (m : ℕ) (rows : List A → List (List A)) (start wide : ℕ → ℕ)
    (layout : Layout m rows start wide) (g : ℕ → List A → List A) where
  -- Row i is lent as the part from a on, k cells long, and comes back as r.
  turn_row : (old : List (List A)) (i a k : ℕ) (xs r : List A)
      → rows xs ≡ made g i old → i < m
      → length xs ≡ start m → a ≡ start i → k ≡ wide i → length r ≡ wide i → r ≡ g i (take k (drop a xs))
      → rows (take a xs ++ (r ++ drop k (drop a xs))) ≡ made g (suc i) old
  turn_row old i a k xs r inv h l ea ek er e =
      let part : take k (drop a xs) ≡ row_of (rows xs) i = rw (ea, ek) (sym (layout.row_is i xs h)) in
      let is : r ≡ g i (row_of (rows xs) i) = e ∙ ap (g i) part in
      rw (ea, ek)
      (layout.row_put i r xs h (le_of_eq (sym l)) er ∙ ap (set (rows xs) i) is ∙ rw inv (made_suc g i old []))

  pub turn_in : (xs₀ xs : List A) (at v i : ℕ) → MadeIn m rows start g xs₀ xs at i → i < m
      → length xs₀ ≡ start m → v ≡ wide i → TurnIn m rows start g xs₀ xs at v i
  turn_in xs₀ xs at v i inv h whole ev =
      let f : at + v ≤ length xs = omega (arith, layout.row_ends i h, inv.1, inv.3) in
      let k : at + v - at ≡ v = add-sub_cancel_left at v in
      let p : length (take (at + v - at) (drop at xs)) ≡ v = part_length at (at + v - at) xs (omega arith) ∙ k in
      record {
        fits = f;
        part = p;
        row =
            rw (k, ev, inv.1) (sym (layout.row_is i xs h))
            ∙ ap (λ (rs : List (List A)). row_of rs i) inv.2
            ∙ made_later g i (rows xs₀) [];
        next = λ r kept e. (
          omega arith,
          rw (add-one i, layout.row_next i, ← inv.1, ev),
          rw add-one
              (turn_row (rows xs₀) i at (at + v - at) xs r inv.2 h (inv.3 ∙ whole) inv.1
              (k ∙ ev) (kept ∙ p ∙ ev) e),
          same_len_mid at (at + v - at) xs r kept ∙ inv.3,
        );
      }

-- ---- a row that is lent to be read

module _ {A : Type 0} (w n i a : ℕ) (cells : List A) (h : i < n) (l : length cells ≡ n * w) (e : a ≡ i * w) where
  pub lent_length : length (take (a + w - a) (drop a cells)) ≡ w
  lent_length =
      let v : a + w - a ≡ w = add-sub_cancel_left a w in
      part_length a (a + w - a) cells (omega (arith, row_end w n i h)) ∙ v

  -- it is row i
  pub lent_row : take (a + w - a) (drop a cells) ≡ row_of (rows_of w n cells) i
  lent_row = rw (add-sub_cancel_left, e) (sym (row_rows_of w n i cells h))

  -- it comes back as r
  pub lent_back : (r : List A) → length r ≡ w
      → rows_of w n (take a cells ++ (r ++ drop (a + w - a) (drop a cells))) ≡ set (rows_of w n cells) i r
  lent_back r k = rw (add-sub_cancel_left, e) (rows_of_put_row w n i r cells h (le_of_eq (sym l)) k)

  -- the front of a copy of it is row i
  pub copied_row : (copy : List A)
      → take (length (take (a + w - a) (drop a cells))) copy ≡ take (a + w - a) (drop a cells)
      → take w copy ≡ row_of (rows_of w n cells) i
  copied_row copy same =
      ap (λ (k : ℕ). take k copy) (sym lent_length)
      ∙ same
      ∙ rw (add-sub_cancel_left, e) (sym (row_rows_of w n i cells h))

-- the part that is the left cells of row i
pub left_part : {A : Type 0} (n w i a : ℕ) (cells : List A) → i < n → n ≤ w → a ≡ i * w
    → take (a + n - a) (drop a cells) ≡ take n (row_of (rows_of w n cells) i)
left_part n w i a cells h l e =
    rw (add-sub_cancel_left, row_rows_of w n i cells h, take-take n w (drop (i * w) cells) l, e) refl

-- the rows before row i, which starts at a
pub front_rows : {A : Type 0} (w n i a : ℕ) (cells : List A) → i ≤ n → a ≡ i * w
    → rows_of w i (take a cells) ≡ take i (rows_of w n cells)
front_rows w n i a cells h e = rows_of_take w i a cells (omega arith) ∙ sym (take_rows_of w n i cells h)

-- a row of the matrix, as a call takes it, is w cells long
pub row_length : {A : Type 0} (w n i : ℕ) (cells p : List A) → length cells ≡ n * w → i < length (rows_of w n cells)
    → p ≡ get_or (rows_of w n cells) i p → length p ≡ w
row_length w n i cells p l h e =
    let t : i < n = rw length_rows_of at h in
    ap length (e ∙ get_or_default (rows_of w n cells) i p [] h ∙ row_rows_of w n i cells t)
    ∙ length_row_at w n i cells t (le_of_eq (sym l))

-- where each call left g of its row
pub rows_changed : {A F : Type 0}
    {f : Shared F (ℕ × (MutBor (List A) × Unit {0})) (Unit {0} × (MutBor (List A) × Unit {0}))} {x : F}
    (w n : ℕ) (g : List A → List A) (cells new : List A)
    → ChangesEach f x (rows_of w n cells) (rows_of w n new)
    → ((i : ℕ) (p q : MutBor (List A)) → f.post x (i, (p, tt)) (tt, (q, tt)) → q.now ≡ g p.now)
    → rows_of w n new ≡ map g (rows_of w n cells)
rows_changed {A = A} w n g cells new each makes =
    let rows : List (List A) = rows_of w n cells in
    let many : length (rows_of w n new) ≡ length (map g rows) =
    length_rows_of w n new ∙ sym (length-map rows g ∙ length_rows_of w n cells) in
    ext_get_or [] (rows_of w n new) (map g rows) many
    (λ i h.
    let k : i < length rows = omega (arith, h, length_rows_of w n new, length_rows_of w n cells) in
    let at = (each i [] k).1 in
    sym at.left ∙ makes i at.argument at.after_call at.call ∙ ap g at.argument_is ∙ sym (get_or-map g rows i [] [] k))

-- ---- rows of one width

-- they may be made anew in a loop
pub flat_layout : {A : Type 0} (w m : ℕ) → Layout {A = A} m (rows_of w m) (λ i. i * w) (λ i. w)
flat_layout w m =
    record {
      row_next = λ i. suc-mul i w;
      row_ends = λ i h. row_end w m i h;
      row_is = λ i xs h. row_rows_of w m i xs h;
      row_put = λ i r xs h l e. rows_of_put_row w m i r xs h l e;
    }

pub row_turn : {A : Type 0} (g : ℕ → List A → List A) (rows : List (List A)) (i m w a k : ℕ) (xs r : List A)
    → rows_of w m xs ≡ made g i rows → i < m
    → length xs ≡ m * w → a ≡ i * w → k ≡ w → length r ≡ w → r ≡ g i (take k (drop a xs))
    → rows_of w m (take a xs ++ (r ++ drop k (drop a xs))) ≡ made g (suc i) rows
row_turn g rows i m w = turn_row m (rows_of w m) (λ n. n * w) (λ n. w) (flat_layout w m) g rows i

module _ {A : Type 0} (w n i : ℕ) (cells part : List A) (h : i ≤ n) where
  -- the rows from row i on replaced
  pub rows_below : length cells ≡ n * w
      → rows_of w n (take (i * w) cells ++ part) ≡ take i (rows_of w n cells) ++ rows_of w (n - i) part
  rows_below l =
      let front : length (take (i * w) cells) ≡ i * w =
      length-take-le (i * w) cells (omega (arith, mul-le-mul_right {m = i} {n = n} w h)) in
      ap (λ (k : ℕ). rows_of w k (take (i * w) cells ++ part)) {x = n} {y = i + (n - i)} (omega arith)
      ∙ rows_of_append_add w i (n - i) (take (i * w) cells) part front
      ∙ ap (λ (t : List (List A)). t ++ rows_of w (n - i) part)
      (rows_of_take w i (i * w) cells (le_refl (i * w)) ∙ sym (take_rows_of w n i cells h))

  -- the first i rows replaced
  pub rows_above : length part ≡ i * w
      → rows_of w n (part ++ drop (i * w) cells) ≡ rows_of w i part ++ drop i (rows_of w n cells)
  rows_above l =
      ap (λ (k : ℕ). rows_of w k (part ++ drop (i * w) cells)) {x = n} {y = i + (n - i)} (omega arith)
      ∙ rows_of_append_add w i (n - i) part (drop (i * w) cells) l
      ∙ ap (λ (t : List (List A)). rows_of w i part ++ t) (sym (drop_rows_of w n i cells h))

-- ---- the two sides together

module _ {A : Type 0} where
  pub length_augmented : (left right : List (List A)) → length left ≡ length right
      → length (augmented left right) ≡ length left
  unfolding augmented
  length_augmented [] right e = refl
  length_augmented (l ∷ left) [] e = absurd (not-suc-le-zero (le_of_eq e))
  length_augmented (l ∷ left) (r ∷ right) e = ap suc (length_augmented left right (omega arith))

  pub row_augmented : (left right : List (List A)) (i : ℕ) → i < length left → i < length right
      → row_of (augmented left right) i ≡ row_of left i ++ row_of right i
  unfolding augmented
  row_augmented [] right i h k = absurd (not-suc-le-zero h)
  row_augmented (l ∷ left) [] i h k = absurd (not-suc-le-zero k)
  row_augmented (l ∷ left) (r ∷ right) zero h k = refl
  row_augmented (l ∷ left) (r ∷ right) (suc i) h k =
      row_augmented left right i (le_of_suc-le-suc h) (le_of_suc-le-suc k)
