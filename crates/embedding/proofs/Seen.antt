-- Laws of the binary digits that say which cells of a row are not zero: a store of a cell that is not zero sets one,
-- and reading them off, the lowest first, finds the cells in the order of their places.
use mathlib.Core.Path.{◌≡◌, refl, sym, ap, ap₂, ◌∙◌}
use mathlib.Core.Bool.{Bool, true, false, cond}
use mathlib.Core.List.{List, [], ◌∷◌, ◌++◌, map, append-nil}
use Prim.Native.Nat.{ℕ, zero, suc, ◌+◌, ◌-◌, ◌*◌, ◌/◌, ◌%◌, ◌^◌, ◌≤◌, ◌<◌, max}
use native.Mathlib.Nat.{le_of_suc-le-suc, not-suc-le-zero, mul-pos, zero-lt-suc, zero-mul, mul-one}
use native.Mathlib.Nat.{mul_assoc, mul_comm, one-mul, add-mul, add-zero, pow-suc, mod-eq_of_lt}
use native.Mathlib.Numerals.{add-one}
use native.Mathlib.Omega.{arith}
use lib.Bits.{bit_or, bit_and, or_step, or_zero_r, and_block, and_self, and_shifted, shifted_half, shifted_even}
use lib.Count.{count_trailing_zeros}
use lib.Pow.{pow_pos, pow-lt, pow-add}
use lib.Dec.{lit≤}
use lib.Ieee.{Float, nan, binary64, add}
use lib.ListN.{length, get_or, set, take, drop, length-drop, length-map}
use lib.Seq.{append_snoc, drop-drop, get_or-drop, take-suc-set}
use Rattle.float.specs.Value.{is_zero}
use Rattle.matrix.specs.Nonzero.{nonzeros, nonzero_cells}
use Rattle.matrix.proofs.Nonzero.{nonzeros_few}
use Rattle.float.specs.Number.{number}
use Rattle.float.proofs.Whole.{number_add}
use Rattle.embedding.specs.Count.{range, tallied}
use Rattle.embedding.specs.Listing.{seen_in, Appended}
use Rattle.embedding.proofs.Counting.{counter_le, length_tally}
use Rattle.embedding.proofs.Numbers.{number_some}

-- ---- the digits of a row

digit_le : (b : Bool) → cond b 0 1 ≤ 1
digit_le true = omega arith
digit_le false = omega arith

-- a lowest digit set, and one further up
or_low : (d s : ℕ) → d ≤ 1 → bit_or (d + 2 * s) 1 ≡ 1 + 2 * s
or_low d s h =
    let a : (d + 2 * s) / 2 ≡ s = omega arith in
    let b : max ((d + 2 * s) % 2) 1 ≡ 1 = omega arith in
    or_step (d + 2 * s) 1 ∙ rw (a, b, or_zero_r s) (omega arith)

or_high : (d s k : ℕ) → d ≤ 1 → bit_or (d + 2 * s) (2 ^ suc k) ≡ d + 2 * bit_or s (2 ^ k)
or_high d s k h =
    let a : (d + 2 * s) / 2 ≡ s = omega arith in
    let b : max ((d + 2 * s) % 2) 0 ≡ d = omega arith in
    let e : 2 ^ suc k / 2 ≡ 2 ^ k = omega (arith, pow-suc 2 k) in
    let f : 2 ^ suc k % 2 ≡ 0 = omega (arith, pow-suc 2 k) in
    or_step (d + 2 * s) (2 ^ suc k) ∙ rw (a, e, f, b) (omega arith)

-- a cell that is not zero is stored
pub seen_set : (xs : List Float) (k : ℕ) (x : Float) → k < length xs → is_zero x ≡ false
    → seen_in (set xs k x) ≡ bit_or (seen_in xs) (2 ^ k)
unfolding seen_in
seen_set [] k x h z = absurd (not-suc-le-zero h)
seen_set (y ∷ xs) zero x h z = rw z (sym (or_low (cond (is_zero y) 0 1) (seen_in xs) (digit_le (is_zero y))))
seen_set (y ∷ xs) (suc k) x h z =
    ap (λ (s : ℕ). cond (is_zero y) 0 1 + 2 * s) (seen_set xs k x (le_of_suc-le-suc h) z)
    ∙ sym (or_high (cond (is_zero y) 0 1) (seen_in xs) k (digit_le (is_zero y)))

-- what a count becomes that gains 1.0
counted : (cs : List ℕ) (k : ℕ) (d : Float) → k < length cs → get_or cs k 0 ≤ 2 ^ 32
    → add binary64 (get_or (map number cs) k d) (number 1) ≡ number (get_or cs k 0 + 1)
counted [] k d h b = absurd (not-suc-le-zero h)
counted (c ∷ cs) zero d h b = number_add c 1 (omega arith) (lit≤ tt)
counted (c ∷ cs) (suc k) d h b = counted cs k d (le_of_suc-le-suc h) b

-- a loop that counts in a row's cells: one more in a cell sets its digit
pub seen_next : (m : ℕ) (f : ℕ → ℕ) (xs : List ℕ) (row : List Float) (i k : ℕ) (d : Float) → m ≤ 32
    → row ≡ map number (tallied (range 0 m) (map f (take i xs))) → i ≤ length xs → length xs < 2 ^ 32 → k < m
    → bit_or (seen_in row) (1 * 2 ^ k % 2 ^ 32) ≡ seen_in (set row k (add binary64 (get_or row k d) (number 1)))
seen_next m f xs row i k d w is h b l =
    let cs = tallied (range 0 m) (map f (take i xs)) in
    let n : length cs ≡ m = length_tally m (map f (take i xs)) in
    let few : get_or cs k 0 ≤ i = counter_le m f xs cs i refl k h l in
    let long : length row ≡ m = ap length is ∙ length-map cs number ∙ n in
    let x : add binary64 (get_or row k d) (number 1) ≡ number (get_or cs k 0 + 1) =
    ap (λ (r : List Float). add binary64 (get_or r k d) (number 1)) is ∙ counted cs k d (omega arith) (omega arith) in
    ap (bit_or (seen_in row))
    (ap (λ (t : ℕ). t % 2 ^ 32) (one-mul (2 ^ k)) ∙ mod-eq_of_lt (pow-lt {i = k} {j = 32} (omega arith)))
    ∙ sym
    (seen_set row k (add binary64 (get_or row k d) (number 1)) (omega arith)
    (ap is_zero x ∙ number_some (get_or cs k 0 + 1) (omega arith) (omega arith)))

-- no digit is set where no cell is left
pub none_seen : (j : ℕ) (xs : List Float) → seen_in xs ≡ 0 → (nonzeros j xs ≡ []) × (nonzero_cells xs ≡ [])
unfolding seen_in nonzeros nonzero_cells
none_seen j [] e = (refl, refl)
none_seen j (x ∷ xs) e = by (is_zero x) e (none_seen (suc j) xs)
  where
    by : (b : Bool) → cond b 0 1 + 2 * seen_in xs ≡ 0
        → (seen_in xs ≡ 0 → (nonzeros (suc j) xs ≡ []) × (nonzero_cells xs ≡ []))
        → (cond b (nonzeros (suc j) xs) (j ∷ nonzeros (suc j) xs) ≡ [])
        × (cond b (nonzero_cells xs) (x ∷ nonzero_cells xs) ≡ [])
    by true e more = more (omega arith)
    by false e more = absurd (omega arith)

-- the first cell that is not zero, whose digit is the lowest
pub record Lowest (j : ℕ) (xs : List Float) : Type 0 where
  pub p : ℕ
  pub within : p < length xs
  pub digits : seen_in xs ≡ (2 * seen_in (drop (suc p) xs) + 1) * 2 ^ p
  pub places : nonzeros j xs ≡ (j + p) ∷ nonzeros (j + suc p) (drop (suc p) xs)
  pub cells : nonzero_cells xs ≡ get_or xs p nan ∷ nonzero_cells (drop (suc p) xs)

doubled : (t m : ℕ) → 0 + 2 * (t * m) ≡ t * (m * 2)
doubled t m = omega (arith, sym (mul_assoc t m 2))

pub lowest : (j : ℕ) (xs : List Float) → (seen_in xs ≡ 0 → ⊥) → Lowest j xs
unfolding seen_in nonzeros nonzero_cells
lowest j [] h = absurd (h refl)
lowest j (x ∷ xs) h = by (is_zero x) refl (lowest (suc j) xs)
  where
    by : (b : Bool) → is_zero x ≡ b → ((seen_in xs ≡ 0 → ⊥) → Lowest (suc j) xs) → Lowest j (x ∷ xs)
    by true z more =
        let l = more (λ e. h (rw (z, e))) in
        let s = 2 * seen_in (drop (suc l.p) xs) + 1 in
        record {
          p = suc l.p;
          within = omega (arith, l.within);
          digits = rw (z, pow-suc 2 l.p) (ap (λ (k : ℕ). 0 + 2 * k) l.digits ∙ doubled s (2 ^ l.p));
          places =
              rw z
              (l.places
              ∙ ap₂ (λ (a b : ℕ). a ∷ nonzeros b (drop (suc l.p) xs)) {x = suc j + l.p} {y = j + suc l.p}
              (omega arith) (omega arith));
          cells = rw z l.cells;
        }
    by false z more = record {
      p = 0;
      within = omega arith;
      digits = rw z (omega arith);
      places = rw z (ap₂ (λ (a b : ℕ). a ∷ nonzeros b xs) {x = j} {y = j + 0} (omega arith) (omega arith));
      cells = rw z;
    }

-- ---- a number whose lowest digit that is set is at place i

zeros_below : (m i d : ℕ) → m % 2 ≡ 1 → i < d → count_trailing_zeros d (m * 2 ^ i) ≡ i
unfolding count_trailing_zeros
zeros_below m i zero o h = absurd (not-suc-le-zero h)
zeros_below m zero (suc d) o h = rw (mul-one m, o)
zeros_below m (suc i) (suc d) o h =
    rw (shifted_even m i, shifted_half m i) (ap suc (zeros_below m i d o (le_of_suc-le-suc h)))

-- it is cleared
lowest_cleared : (t i : ℕ) → bit_and ((2 * t + 1) * 2 ^ i) ((2 * t + 1) * 2 ^ i - 1) ≡ t * 2 ^ suc i
lowest_cleared t i =
    let m = 2 ^ i in
    let h : 0 < m = pow_pos i in
    let s : 2 ^ suc i ≡ m * 2 = pow-suc 2 i in
    let whole : (2 * t + 1) * m ≡ t * 2 ^ suc i + m =
    omega (arith, add-mul (2 * t) 1 m, mul_assoc 2 t m, mul_assoc t m 2, one-mul m, ap (λ (k : ℕ). t * k) s) in
    let less : (2 * t + 1) * m - 1 ≡ t * 2 ^ suc i + (m - 1) = omega arith in
    let low : bit_and (1 * m) (m - 1) ≡ 0 = and_shifted 1 i (m - 1) (omega arith) in
    rw (less, whole, and_block (suc i) t t m (m - 1) (omega arith) (omega arith), and_self t)
    (ap (λ (k : ℕ). t * 2 ^ suc i + k) (ap (λ (k : ℕ). bit_and k (m - 1)) (sym (one-mul m)) ∙ low)
    ∙ add-zero (t * 2 ^ suc i))

-- ---- reading the digits off

-- Cells are listed behind the first n₀ places and values, the first cell at place `at`. Those from j on are left: their
-- digits, and the places and the values that are listed before theirs.
pub record Left
    (at : ℕ)
    (cells : List Float)
    (n₀ : ℕ)
    (places₀ : List ℕ)
    (values₀ : List Float)
    (places : List ℕ)
    (values : List Float)
    (n left : ℕ)
    : Type 0 where
  pub j : ℕ
  pub digits : left ≡ seen_in (drop j cells) * 2 ^ j
  pub places_are : take n₀ places₀ ++ nonzeros at cells ≡ take n places ++ nonzeros (at + j) (drop j cells)
  pub values_are : take n₀ values₀ ++ nonzero_cells cells ≡ take n values ++ nonzero_cells (drop j cells)
  pub count : n + length (nonzeros (at + j) (drop j cells)) ≡ n₀ + length (nonzeros at cells)

pub all_left : (at : ℕ) (cells : List Float) (n : ℕ) (places : List ℕ) (values : List Float)
    → Left at cells n places values places values n (seen_in cells)
all_left at cells n places values =
    let e : at + 0 ≡ at = omega arith in
    record { j = 0; digits = sym (mul-one (seen_in cells)); places_are = rw e; values_are = refl; count = rw e }

module _ {at : ℕ} {cells : List Float} {n₀ : ℕ} {places₀ : List ℕ} {values₀ : List Float} {places : List ℕ}
    {values : List Float} {n left : ℕ} (l : Left at cells n₀ places₀ values₀ places values n left) where
  abbrev rest : List Float
  rest = drop l.j cells

  nothing : left ≡ 0 → seen_in rest ≡ 0
  nothing e = by (seen_in rest) (sym l.digits ∙ e)
    where
      by : (k : ℕ) → k * 2 ^ l.j ≡ 0 → k ≡ 0
      by zero f = refl
      by (suc k) f =
          let h : 0 < suc k * 2 ^ l.j = mul-pos (zero-lt-suc k) (pow_pos l.j) in
          absurd (omega arith)

  -- where no digit is left, all are listed
  pub none_left : left ≡ 0 → Appended at cells n₀ n places₀ places values₀ values
  none_left e =
      let none = none_seen (at + l.j) rest (nothing e) in
      let k : length (nonzeros (at + l.j) rest) ≡ 0 = ap length none.0 in
      record {
        few = omega (arith, l.count, nonzeros_few at cells);
        count = omega (arith, l.count);
        places_are =
            sym (l.places_are ∙ ap (λ (t : List ℕ). take n places ++ t) none.0 ∙ append-nil (take n places));
        values_are =
            sym (l.values_are ∙ ap (λ (t : List Float). take n values ++ t) none.1 ∙ append-nil (take n values));
      }

  -- else the lowest is the first cell's that is left
  module _ (some : left ≡ 0 → ⊥) (most : length cells ≤ 32) where
    first : Lowest (at + l.j) rest
    first = lowest (at + l.j) rest (λ e. some (l.digits ∙ ap (λ (k : ℕ). k * 2 ^ l.j) e ∙ zero-mul (2 ^ l.j)))

    abbrev place : ℕ
    place = l.j + first.p

    abbrev next : ℕ
    next = l.j + suc first.p

    further : drop (suc first.p) rest ≡ drop next cells
    further = drop-drop (suc first.p) l.j cells

    odd : left ≡ (2 * seen_in (drop next cells) + 1) * 2 ^ place
    odd =
        let s = 2 * seen_in (drop (suc first.p) rest) + 1 in
        l.digits
        ∙ ap (λ (k : ℕ). k * 2 ^ l.j) first.digits
        ∙ mul_assoc s (2 ^ first.p) (2 ^ l.j)
        ∙ ap (λ (k : ℕ). s * k) (mul_comm (2 ^ first.p) (2 ^ l.j) ∙ sym (pow-add 2 l.j first.p))
        ∙ ap (λ (t : List Float). (2 * seen_in t + 1) * 2 ^ place) further

    inside : place < length cells
    inside = omega (arith, first.within, length-drop l.j cells)

    lowest_place : count_trailing_zeros 32 left ≡ place
    lowest_place =
        ap (count_trailing_zeros 32) odd
        ∙ zeros_below (2 * seen_in (drop next cells) + 1) place 32 (omega arith) (omega (arith, inside))

    pub place_inside : count_trailing_zeros 32 left < length cells
    place_inside = rw lowest_place inside

    pub room : n < n₀ + length cells
    room = omega (arith, l.count, nonzeros_few at cells, ap length first.places)

    here : nonzeros (at + l.j) rest ≡ (at + place) ∷ nonzeros (at + next) (drop next cells)
    here =
        first.places
        ∙ ap₂ (λ (a b : ℕ). a ∷ nonzeros b (drop (suc first.p) rest))
        {x = at + l.j + first.p} {y = at + place} {u = at + l.j + suc first.p} {v = at + next}
        (omega arith) (omega arith)
        ∙ ap (λ (t : List Float). (at + place) ∷ nonzeros (at + next) t) further

    more : {A : Type 0} (after : List A) (old : List A) (x : A) → n < length old
        → take n old ++ x ∷ after ≡ take (n + 1) (set old n x) ++ after
    more after old x h =
        rw (add-one n, take-suc-set old n x h) (sym (append_snoc (take n old) x after))

    -- its place q and its value x are stored
    pub one_less : (q : ℕ) (x : Float) → q ≡ at + count_trailing_zeros 32 left
        → x ≡ get_or cells (count_trailing_zeros 32 left) nan
        → n < length places → n < length values
        → Left at cells n₀ places₀ values₀ (set places n q) (set values n x) (n + 1) (bit_and left (left - 1))
    one_less q x e f h k = rw (e, f, lowest_place) (record {
      j = next;
      digits =
          ap (λ (m : ℕ). bit_and m (m - 1)) odd
          ∙ lowest_cleared (seen_in (drop next cells)) place
          ∙ ap (λ (m : ℕ). seen_in (drop next cells) * 2 ^ m) {x = suc place} {y = next} (omega arith);
      places_are =
          l.places_are
          ∙ ap (λ (t : List ℕ). take n places ++ t) here
          ∙ more (nonzeros (at + next) (drop next cells)) places (at + place) h;
      values_are =
          l.values_are
          ∙ ap (λ (t : List Float). take n values ++ t)
          (first.cells
          ∙ ap₂ (λ (x : Float) (t : List Float). x ∷ nonzero_cells t)
          (get_or-drop l.j cells first.p nan) further)
          ∙ more (nonzero_cells (drop next cells)) values (get_or cells place nan) k;
      count = omega (arith, l.count, ap length here);
    })

-- The same of 22 cells: the lowest digit's place is one of theirs, and there is room for what is left.
module _ {at : ℕ} {cells : List Float} {n₀ : ℕ} {places₀ : List ℕ} {values₀ : List Float} {places : List ℕ}
    {values : List Float} {n left : ℕ} (l : Left at cells n₀ places₀ values₀ places values n left)
    (some : left ≡ 0 → ⊥) (size : length cells ≡ 22) where
  pub place_below : count_trailing_zeros 32 left < 22
  place_below =
      let most : length cells ≤ 32 = omega arith in
      omega (arith, place_inside l some most)

  pub room_below : n < n₀ + 22
  room_below =
      let most : length cells ≤ 32 = omega arith in
      omega (arith, room l some most)
