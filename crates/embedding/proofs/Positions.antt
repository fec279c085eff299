-- Laws of positions: the elements at all positions from f up to t are that part of the list, and the three selections
-- of a peptide's positions are such.
use mathlib.Core.Path.{◌≡◌, refl, sym, ap, ◌∙◌}
use mathlib.Core.Bool.{Bool, true, false, not, ◌&&◌, ◌||◌, cond}
use mathlib.Core.List.{List, [], ◌∷◌}
use mathlib.Core.Logic.{◌⊎◌, inl, inr, ⊎_elim}
use Prim.Native.Nat.{ℕ, suc, ◌+◌, ◌-◌, ◌≤◌, ◌<◌}
use native.Mathlib.Nat.{sub-zero}
use native.Mathlib.Omega.{arith}
use lib.Dec.{T, T_not, eqb, leb, ltb, leb-zero, leb→le, le→leb, ltb→lt, lt→ltb, nltb→le, eqb→eq, eqb_refl}
use lib.ListN.{length, take, drop}
use lib.Seq.{take-nil, drop-nil}
use mir.Facts.{and_yes, yes_and}
use borrow.Author.Tests.{ltb-true, ltb-false, leb-true, leb-false, le-ltb}
use Rattle.embedding.specs.declared.Model.{Model}
use Rattle.embedding.specs.declared.Model.TheVariants.{Retention, Mobility}
use Rattle.embedding.specs.Count.{picked}
use Rattle.embedding.specs.Design.{everywhere, n_terminal, c_terminal, chosen}

module _ {A : Type 0} where
  picked_from : (p : ℕ → Bool) (f t i : ℕ) (xs : List A)
      → ((j : ℕ) → i ≤ j → j < i + length xs → p j ≡ leb f j && ltb j t)
      → picked p i xs ≡ drop (f - i) (take (t - i) xs)
  unfolding picked
  picked_from p f t i [] h = sym (rw (take-nil, drop-nil))
  picked_from p f t i (x ∷ xs) h =
      rw (h i (omega arith) (omega arith), picked_from p f t (suc i) xs (λ j l r. h j (omega arith) (omega arith)))
      (by (leb f i) (ltb i t) refl refl)
    where
      past : t ≤ i → drop (f - suc i) (take (t - suc i) xs) ≡ drop (f - i) (take (t - i) (x ∷ xs))
      past l =
          let u : t - i ≡ 0 = omega arith in
          let v : t - suc i ≡ 0 = omega arith in
          rw (u, v) (drop-nil (f - suc i) ∙ sym (drop-nil (f - i)))

      by : (a b : Bool) → leb f i ≡ a → ltb i t ≡ b
          → cond (a && b) (x ∷ drop (f - suc i) (take (t - suc i) xs)) (drop (f - suc i) (take (t - suc i) xs))
          ≡ drop (f - i) (take (t - i) (x ∷ xs))
      by true true e g =
          let l = leb-true f i e in
          let r = ltb-true i t g in
          let u : t - i ≡ suc (t - suc i) = omega arith in
          let v : f - i ≡ 0 = omega arith in
          let w : f - suc i ≡ 0 = omega arith in
          rw (u, v, w)
      by false true e g =
          let l = leb-false f i e in
          let r = ltb-true i t g in
          let u : t - i ≡ suc (t - suc i) = omega arith in
          let v : f - i ≡ suc (f - suc i) = omega arith in
          rw (u, v)
      by true false e g = past (ltb-false i t g)
      by false false e g = past (ltb-false i t g)

  -- the elements at the positions from f up to t, not including t
  pub picked_range : (p : ℕ → Bool) (f t : ℕ) (xs : List A)
      → ((j : ℕ) → j < length xs → p j ≡ leb f j && ltb j t) → picked p 0 xs ≡ drop f (take t xs)
  picked_range p f t xs h =
      picked_from p f t 0 xs (λ j l r. h j (omega arith))
      ∙ ap (λ (k : ℕ). drop k (take (t - 0) xs)) (sub-zero f)
      ∙ ap (λ (k : ℕ). drop f (take k xs)) (sub-zero t)

-- ---- the selections of a peptide's positions

-- two tests that imply each other
same_test : (a b : Bool) → (T a → T b) → (T b → T a) → a ≡ b
same_test true true f g = refl
same_test true false f g = absurd (f tt)
same_test false true f g = absurd (g tt)
same_test false false f g = refl

pub chosen_everywhere : (letters : List ℕ) → chosen everywhere letters ≡ letters
unfolding chosen
chosen_everywhere letters = all 0 letters
  where
    all : (i : ℕ) (xs : List ℕ) → picked (λ _. true) i xs ≡ xs
    all i [] = refl
    all i (x ∷ xs) = ap {B = List ℕ} (λ r. x ∷ r) (all (suc i) xs)

pub chosen_n : (letters : List ℕ) → chosen n_terminal letters ≡ take 2 letters
unfolding chosen
chosen_n letters = picked_range (λ i. ltb i 2) 0 2 letters (λ j h. rw leb-zero)

-- where the two positions end that are C-terminal in a peptide of length n
unfoldable pub end_of : Model → ℕ → ℕ
end_of Retention n = n - 1
end_of Mobility n = n

within : (f t j : ℕ) → f ≤ j → j < t → T (leb f j && ltb j t)
within f t j l r = yes_and (leb f j) (ltb j t) (le→leb f j l) (lt→ltb j t r)

or_split : (a b : Bool) → T (a || b) → T a ⊎ T b
or_split true b t = inl tt
or_split false b t = inr t

or_else : (a b : Bool) → (T (not a) → T b) → T (a || b)
or_else true b h = tt
or_else false b h = h tt

eq→eqb : (a b : ℕ) → a ≡ b → T (eqb a b)
eq→eqb a b e = rw e (eqb_refl b)

le→nltb : (a b : ℕ) → b ≤ a → T (not (ltb a b))
le→nltb a b h = rw (le-ltb a b h) tt

c_range : (model : Model) (n j : ℕ) → j < n
    → c_terminal model n j ≡ leb (2 + (end_of model n - 4)) j && ltb j (end_of model n)
unfolding end_of
c_range Retention n j h = same_test _ _ to from
  where
    near : Bool
    near = eqb j (n - 3) || eqb j (n - 3 + 1)

    to : T (c_terminal Retention n j) → T (leb (2 + (n - 1 - 4)) j && ltb j (n - 1))
    to t =
        let u = and_yes (not (ltb j 2)) near t in
        let l : 2 ≤ j = nltb→le j 2 u.0 in
        ⊎_elim
        (λ (e : T (eqb j (n - 3))). let q = eqb→eq j (n - 3) e in within (2 + (n - 1 - 4)) (n - 1) j (omega arith) (omega arith))
        (λ (e : T (eqb j (n - 3 + 1))). let q = eqb→eq j (n - 3 + 1) e in within (2 + (n - 1 - 4)) (n - 1) j (omega arith) (omega arith))
        (or_split (eqb j (n - 3)) (eqb j (n - 3 + 1)) u.1)

    from : T (leb (2 + (n - 1 - 4)) j && ltb j (n - 1)) → T (c_terminal Retention n j)
    from t =
        let u = and_yes (leb (2 + (n - 1 - 4)) j) (ltb j (n - 1)) t in
        let l : 2 + (n - 1 - 4) ≤ j = leb→le (2 + (n - 1 - 4)) j u.0 in
        let r : j < n - 1 = ltb→lt j (n - 1) u.1 in
        yes_and (not (ltb j 2)) near (le→nltb j 2 (omega arith))
        (or_else (eqb j (n - 3)) (eqb j (n - 3 + 1))
        (λ f. let g : j ≡ n - 3 → ⊥ = λ e. T_not (eqb j (n - 3)) f (eq→eqb j (n - 3) e) in eq→eqb j (n - 3 + 1) (omega arith)))
c_range Mobility n j h = same_test _ _ to from
  where
    to : T (c_terminal Mobility n j) → T (leb (2 + (n - 4)) j && ltb j n)
    to t =
        let u = and_yes (not (ltb j 2)) (ltb (n - 3) j) t in
        let l : 2 ≤ j = nltb→le j 2 u.0 in
        let r : n - 3 < j = ltb→lt (n - 3) j u.1 in
        within (2 + (n - 4)) n j (omega arith) h

    from : T (leb (2 + (n - 4)) j && ltb j n) → T (c_terminal Mobility n j)
    from t =
        let l : 2 + (n - 4) ≤ j = leb→le (2 + (n - 4)) j (and_yes (leb (2 + (n - 4)) j) (ltb j n) t).0 in
        yes_and (not (ltb j 2)) (ltb (n - 3) j) (le→nltb j 2 (omega arith)) (lt→ltb (n - 3) j (omega arith))

pub chosen_c : (model : Model) (letters : List ℕ)
    → chosen (c_terminal model) letters
    ≡ drop (2 + (end_of model (length letters) - 4)) (take (end_of model (length letters)) letters)
unfolding chosen
chosen_c model letters = picked_range _ _ _ letters (λ j h. c_range model (length letters) j h)

-- no selection has more letters than there are
pub chosen_le : (sel : ℕ → ℕ → Bool) (letters : List ℕ) → length (chosen sel letters) ≤ length letters
unfolding chosen
chosen_le sel letters = from 0 letters
  where
    by : (t : Bool) (x : ℕ) (xs : List ℕ) (n : ℕ) → length xs ≤ n → length (cond t (x ∷ xs) xs) ≤ suc n
    by true x xs n h = omega arith
    by false x xs n h = omega arith

    from : (i : ℕ) (xs : List ℕ) → length (picked (sel (length letters)) i xs) ≤ length xs
    from i [] = omega arith
    from i (x ∷ xs) =
        by (sel (length letters) i) x (picked (sel (length letters)) (suc i) xs) (length xs) (from (suc i) xs)
