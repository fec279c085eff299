-- Laws of lists that are related cell by cell, for any elements and any relation.
use mathlib.Core.Path.{◌≡◌, refl, ap}
use mathlib.Core.List.{List, ◌++◌, map, Forall₂}
use Prim.Native.Nat.{ℕ, zero, suc}
use lib.ListN.{length, get_or}
use Rattle.matrix.specs.Lists.{tabulate}

module _ {A : Type 0} {R : A → A → Type 0} where
  pub each_tabulate : (n : ℕ) (f g : ℕ → A) → ((i : ℕ) → R (f i) (g i)) → Forall₂ R (tabulate n f) (tabulate n g)
  unfolding tabulate
  each_tabulate zero f g h = Forall₂.nil
  each_tabulate (suc n) f g h =
      Forall₂.cons (h 0) (each_tabulate n (λ i. f (suc i)) (λ i. g (suc i)) (λ i. h (suc i)))

  pub each_append : {us vs xs ys : List A} → Forall₂ R us vs → Forall₂ R xs ys → Forall₂ R (us ++ xs) (vs ++ ys)
  each_append Forall₂.nil s = s
  each_append (Forall₂.cons h r) s = Forall₂.cons h (each_append r s)

  pub each_length : {us vs : List A} → Forall₂ R us vs → length us ≡ length vs
  each_length Forall₂.nil = refl
  each_length (Forall₂.cons h r) = ap suc (each_length r)

  pub each_at : {us vs : List A} → Forall₂ R us vs → (k : ℕ) (d : A) → R d d → R (get_or us k d) (get_or vs k d)
  each_at Forall₂.nil k d h = h
  each_at (Forall₂.cons g r) zero d h = g
  each_at (Forall₂.cons g r) (suc k) d h = each_at r k d h

module _ {A B : Type 0} (R : A → A → Type 0) (S : B → B → Type 0) (f : A → B)
    (h : (u v : A) → R u v → S (f u) (f v)) where
  pub each_map : {us vs : List A} → Forall₂ R us vs → Forall₂ S (map f us) (map f vs)
  each_map Forall₂.nil = Forall₂.nil
  each_map (Forall₂.cons {a = u} {b = v} n r) = Forall₂.cons (h u v n) (each_map r)

pub each_equal : {A : Type 0} {us vs : List A} → Forall₂ ◌≡◌ us vs → us ≡ vs
each_equal Forall₂.nil = refl
each_equal (Forall₂.cons e r) = rw (e, each_equal r)
