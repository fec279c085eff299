-- Laws of counting in a list: a tally with one element more, its length and cells, and that the counts of different
-- numbers add up to the count of the elements that are one of them.
use mathlib.Core.Path.{◌≡◌, refl, sym, ap, ◌∙◌, subst}
use mathlib.Core.Bool.{Bool, true, false, not, ◌&&◌, ◌||◌, cond}
use mathlib.Core.List.{List, [], ◌∷◌, ◌++◌, map}
use Prim.Native.Nat.{ℕ, zero, suc, ◌+◌, ◌≤◌, ◌<◌}
use native.Mathlib.Nat.{add-zero, zero-add, add-suc, suc-add, le_of_suc-le-suc, not-suc-le-zero}
use native.Mathlib.Decide.{dec_lt}
use native.Mathlib.Omega.{arith}
use native.Mathlib.Numerals.{add-one}
use lib.Dec.{T, eqb}
use lib.ListN.{length, get_or, set, take, length-map, get_or-eq_default}
use lib.Seq.{length-take-le}
use mir.Facts.{and_yes}
use borrow.Author.Tests.{eq-eqb, ne_eqb, eqb-true}
use Rattle.embedding.specs.Count.{how_many, one_of, range, tallied, total}

-- ---- how many elements pass

module _ {A : Type 0} (p : A → Bool) where
  pub how_many_append : (xs ys : List A) → how_many p (xs ++ ys) ≡ how_many p xs + how_many p ys
  unfolding how_many
  how_many_append [] ys = sym (zero-add _)
  how_many_append (x ∷ xs) ys = omega (arith, how_many_append xs ys)

  pub how_many_le : (xs : List A) → how_many p xs ≤ length xs
  unfolding how_many
  how_many_le [] = omega arith
  how_many_le (x ∷ xs) = by (p x) (how_many_le xs)
    where
      by : (t : Bool) {m n : ℕ} → m ≤ n → cond t 1 0 + m ≤ suc n
      by true h = omega arith
      by false h = omega arith

  pub how_many_all : (xs : List A) → ((x : A) → p x ≡ true) → how_many p xs ≡ length xs
  unfolding how_many
  how_many_all [] h = refl
  how_many_all (x ∷ xs) h = rw (h x) (omega (arith, how_many_all xs h))

pub how_many_map : {A B : Type 0} (p : B → Bool) (f : A → B) (xs : List A)
    → how_many p (map f xs) ≡ how_many (λ x. p (f x)) xs
unfolding how_many
how_many_map p f [] = refl
how_many_map p f (x ∷ xs) = rw (how_many_map p f xs)

-- the elements that pass one of two tests, which no element passes both
pub how_many_either : {A : Type 0} (p q : A → Bool) → ((x : A) → p x ≡ true → q x ≡ false) → (xs : List A)
    → how_many (λ x. p x || q x) xs ≡ how_many p xs + how_many q xs
unfolding how_many
how_many_either p q h [] = refl
how_many_either p q h (x ∷ xs) = by (p x) (q x) (h x) (how_many p xs) (how_many q xs) (how_many_either p q h xs)
  where
    by : (s t : Bool) → (s ≡ true → t ≡ false) → (m n : ℕ) {a : ℕ} → a ≡ m + n
        → cond (s || t) 1 0 + a ≡ cond s 1 0 + m + (cond t 1 0 + n)
    by true true h m n e = absurd (subst T (h refl) tt)
    by true false h m n e = omega arith
    by false true h m n e = omega arith
    by false false h m n e = omega arith

-- ---- a list made from another

-- one element more
pub map_take_suc : {A B : Type 0} (f : A → B) (xs : List A) (i : ℕ) (d : A) → i < length xs
    → map f (take i xs) ++ (f (get_or xs i d) ∷ []) ≡ map f (take (suc i) xs)
map_take_suc f [] i d h = absurd (not-suc-le-zero h)
map_take_suc f (x ∷ xs) zero d h = refl
map_take_suc {B = B} f (x ∷ xs) (suc i) d h =
    ap {B = List B} (λ r. f x ∷ r) (map_take_suc f xs i d (le_of_suc-le-suc h))

-- an element of the list, whatever stands for one past its end
pub same_element : {A : Type 0} (xs : List A) (k : ℕ) (d e : A) → k < length xs → get_or xs k d ≡ get_or xs k e
same_element [] k d e h = absurd (not-suc-le-zero h)
same_element (x ∷ xs) zero d e h = refl
same_element (x ∷ xs) (suc k) d e h = same_element xs k d e (le_of_suc-le-suc h)

-- ---- a list over the numbers from a on

map_range : (f g : ℕ → ℕ) (a m : ℕ) → ((k : ℕ) → a ≤ k → f k ≡ g k)
    → map f (range a m) ≡ map g (range a m)
unfolding range
map_range f g a zero h = refl
map_range f g a (suc m) h = rw (h a (omega arith), map_range f g (suc a) m (λ k l. h k (omega arith)))

get_d_range : (f : ℕ → ℕ) (a m j d : ℕ) → j < m → get_or (map f (range a m)) j d ≡ f (a + j)
unfolding range
get_d_range f a zero j d h = absurd (not-suc-le-zero h)
get_d_range f a (suc m) zero d h = ap f (sym (add-zero a))
get_d_range f a (suc m) (suc j) d h =
    get_d_range f (suc a) m j d (le_of_suc-le-suc h) ∙ ap f {x = suc a + j} {y = a + suc j} (omega arith)

set_range : (f g : ℕ → ℕ) (a m j : ℕ) → j < m → ((k : ℕ) → (k ≡ a + j → ⊥) → f k ≡ g k)
    → set (map f (range a m)) j (g (a + j)) ≡ map g (range a m)
unfolding range
set_range f g a zero j h e = absurd (not-suc-le-zero h)
set_range f g a (suc m) zero h e = rw (add-zero a, map_range f g (suc a) m (λ k l. e k (λ q. omega arith)))
set_range f g a (suc m) (suc j) h e =
    rw (e a (λ q. omega arith), add-suc, ← suc-add)
    (ap {B = List ℕ} (λ r. g a ∷ r) (set_range f g (suc a) m j (le_of_suc-le-suc h) (λ k l. e k (λ q. l (omega arith)))))

-- ---- tallies

pub length_tally : (m : ℕ) (xs : List ℕ) → length (tallied (range 0 m) xs) ≡ m
unfolding tallied range
length_tally m xs = from 0 m
  where
    from : (a m : ℕ) → length (map (λ k. how_many (λ x. eqb x k) xs) (range a m)) ≡ m
    from a zero = refl
    from a (suc m) = ap suc (from (suc a) m)

-- a cell of a tally
pub tally_at : (m : ℕ) (xs : List ℕ) (k : ℕ) → k < m
    → get_or (tallied (range 0 m) xs) k 0 ≡ how_many (λ x. eqb x k) xs
unfolding tallied
tally_at m xs k h =
    get_d_range (λ k. how_many (λ x. eqb x k) xs) 0 m k 0 h
    ∙ ap (λ (k : ℕ). how_many (λ x. eqb x k) xs) (zero-add k)

pub tally_le : (m : ℕ) (xs : List ℕ) (k : ℕ) → k < m → get_or (tallied (range 0 m) xs) k 0 ≤ length xs
tally_le m xs k h = rw (tally_at m xs k) (how_many_le (λ x. eqb x k) xs)

-- one element more is one more in its cell
pub tally_more : (m : ℕ) (xs : List ℕ) (x : ℕ) → x < m
    → set (tallied (range 0 m) xs) x (get_or (tallied (range 0 m) xs) x 0 + 1)
    ≡ tallied (range 0 m) (xs ++ (x ∷ []))
unfolding tallied how_many
tally_more m xs x h =
    ap (λ (v : ℕ). set (tallied (range 0 m) xs) x v) here
    ∙ set_range (λ k. how_many (λ y. eqb y k) xs) (λ k. how_many (λ y. eqb y k) (xs ++ (x ∷ []))) 0 m x h there
  where
    one : (k : ℕ) → how_many (λ y. eqb y k) (xs ++ (x ∷ [])) ≡ how_many (λ y. eqb y k) xs + cond (eqb x k) 1 0
    one k =
        how_many_append (λ y. eqb y k) xs (x ∷ []) ∙ ap (λ (n : ℕ). how_many (λ y. eqb y k) xs + n) (add-zero _)

    here : get_or (tallied (range 0 m) xs) x 0 + 1 ≡ how_many (λ y. eqb y (0 + x)) (xs ++ (x ∷ []))
    here = rw (zero-add, one x, eq-eqb x x refl, tally_at m xs x)

    there : (k : ℕ) → (k ≡ 0 + x → ⊥)
        → how_many (λ y. eqb y k) xs ≡ how_many (λ y. eqb y k) (xs ++ (x ∷ []))
    there k d = rw (one k, ne_eqb x k (λ e. d (omega arith)), add-zero)

-- A tally's cells at some numbers are the tally of those: what it tallies is below m, so a number from m on, which has
-- no cell, is met nowhere.
module _ (m : ℕ) (f : ℕ → ℕ) (below : (x : ℕ) → f x < m) (xs : List ℕ) where
  none_above : (ys : List ℕ) (k : ℕ) → m ≤ k → how_many (λ x. eqb x k) (map f ys) ≡ 0
  unfolding how_many
  none_above [] k h = refl
  none_above (y ∷ ys) k h = rw (ne_eqb (f y) k (λ e. omega (arith, below y)), none_above ys k h)

  cell : (k : ℕ) → get_or (tallied (range 0 m) (map f xs)) k 0 ≡ how_many (λ x. eqb x k) (map f xs)
  cell k = by (dec_lt k m)
    where
      by : Dec (k < m) → get_or (tallied (range 0 m) (map f xs)) k 0 ≡ how_many (λ x. eqb x k) (map f xs)
      by (yes h) = tally_at m (map f xs) k h
      by (no h) =
          get_or-eq_default (tallied (range 0 m) (map f xs)) 0 {n = k} (rw length_tally (omega arith))
          ∙ sym (none_above xs k (omega arith))

  pub tally_cells : (ks : List ℕ)
      → map (λ k. get_or (tallied (range 0 m) (map f xs)) k 0) ks ≡ tallied ks (map f xs)
  unfolding tallied
  tally_cells [] = refl
  tally_cells (k ∷ ks) = rw (cell k, tally_cells ks)

-- a test that fails
off : (t : Bool) → T (not t) → t ≡ false
off true h = absurd h
off false h = refl

-- no number stands in the list twice
unfoldable pub distinct : List ℕ → Bool
unfolding one_of
distinct [] = true
distinct (k ∷ ks) = not (one_of ks k) && distinct ks

-- the counts of different numbers add up to the count of the elements that are one of them
pub total_tally : (ks xs : List ℕ) → T (distinct ks) → total (tallied ks xs) ≡ how_many (one_of ks) xs
unfolding tallied total distinct one_of how_many
total_tally [] xs d = sym (none xs)
  where
    none : (xs : List ℕ) → how_many (one_of []) xs ≡ 0
    none [] = refl
    none (x ∷ xs) = rw (none xs)
total_tally (k ∷ ks) xs d =
    ap (λ (n : ℕ). how_many (λ x. eqb x k) xs + n) (total_tally ks xs both.1)
    ∙ sym (how_many_either (λ x. eqb x k) (one_of ks) apart xs)
  where
    both : T (not (one_of ks k)) × T (distinct ks)
    both = and_yes (not (one_of ks k)) (distinct ks) d

    apart : (x : ℕ) → eqb x k ≡ true → one_of ks x ≡ false
    apart x e = rw (eqb-true x k e) (off (one_of ks k) both.0)

pub one_of_range : (a m k : ℕ) → k < m → one_of (range a m) (a + k) ≡ true
unfolding one_of range
one_of_range a zero k h = absurd (not-suc-le-zero h)
one_of_range a (suc m) zero h = rw (add-zero a, eq-eqb a a refl)
one_of_range a (suc m) (suc k) h =
    rw (ne_eqb (a + suc k) a (λ e. omega arith))
    (ap (one_of (range (suc a) m)) {x = a + suc k} {y = suc a + k} (omega arith) ∙ one_of_range (suc a) m k (le_of_suc-le-suc h))

-- ---- a loop that tallies: the counters are the tally of the first i elements' numbers

module _ (m : ℕ) (f : ℕ → ℕ) (xs counts : List ℕ) (i : ℕ)
    (is : counts ≡ tallied (range 0 m) (map f (take i xs))) where
  pub counter_le : (k : ℕ) → i ≤ length xs → k < m → get_or counts k 0 ≤ i
  counter_le k h l =
      let e : length (map f (take i xs)) ≡ i = length-map (take i xs) f ∙ length-take-le i xs h in
      rw is (omega (arith, tally_le m (map f (take i xs)) k l))

  pub tally_next : (k : ℕ) → i < length xs → k ≡ f (get_or xs i 0) → k < m
      → set counts k (get_or counts k 0 + 1) ≡ tallied (range 0 m) (map f (take (i + 1) xs))
  tally_next k h e l =
      ap (λ (cs : List ℕ). set cs k (get_or cs k 0 + 1)) is
      ∙ tally_more m (map f (take i xs)) k l
      ∙ ap (tallied (range 0 m))
      (ap (λ (j : ℕ). map f (take i xs) ++ (j ∷ [])) e ∙ map_take_suc f xs i 0 h ∙ ap (λ (j : ℕ). map f (take j xs)) (sym (add-one i)))
