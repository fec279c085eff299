-- Laws of reorderings: their length, a test of every element, lists one after the other, and what is picked of the
-- elements that pass a test.
use mathlib.Core.Path.{◌≡◌, refl, sym, ap, ◌∙◌}
use mathlib.Core.Bool.{Bool, true, false, ◌&&◌, cond}
use mathlib.Core.List.Permᴰ
use mathlib.Core.List.{List, ◌∷◌, ◌++◌, map, flatten, filter_map}
use mathlib.Core.Option.{Option, none, some, Option-elim}
use Prim.Native.Nat.{ℕ, suc}
use native.Mathlib.Omega.{arith}
use lib.Dec.{ltb}
use lib.ListN.{length, length-append}
use Rattle.status.specs.Checks.{every, all_below}
use Rattle.row_order.specs.Order.{Reordered}

and_swap : (a b c : Bool) → a && (b && c) ≡ b && (a && c)
and_swap true true c = refl
and_swap true false c = refl
and_swap false true c = refl
and_swap false false c = refl

module _ {A : Type 0} where
  pub same_length : {xs ys : List A} → Reordered xs ys → length xs ≡ length ys
  same_length Permᴰ.nil = refl
  same_length (Permᴰ.cons e r) = ap suc (same_length r)
  same_length (Permᴰ.swap e f) = refl
  same_length (Permᴰ.trans r s) = same_length r ∙ same_length s

  -- a test passes at each element of both or of neither
  pub same_every : (p : A → Bool) {xs ys : List A} → Reordered xs ys → every p xs ≡ every p ys
  unfolding every
  same_every p Permᴰ.nil = refl
  same_every p (Permᴰ.cons e r) = rw (e, same_every p r)
  same_every p (Permᴰ.swap {a} {b} {l} e f) = and_swap (p a) (p b) (every p l) ∙ rw (e, f)
  same_every p (Permᴰ.trans r s) = same_every p r ∙ same_every p s

  -- lists one after the other are as long
  pub flatten_long : {xs ys : List (List A)} → Reordered xs ys → length (flatten xs) ≡ length (flatten ys)
  unfolding flatten
  flatten_long Permᴰ.nil = refl
  flatten_long (Permᴰ.cons {a} {b} {l₁} {l₂} e r) =
      length-append a (flatten l₁) ∙ omega (arith, ap length e, flatten_long r, length-append b (flatten l₂))
  flatten_long (Permᴰ.swap {a} {b} {a'} {b'} {l} e f) =
      let h = length-append a (b ++ flatten l) in
      let k = length-append a' (b' ++ flatten l) in
      omega (arith, h, k, length-append b (flatten l), length-append b' (flatten l), ap length e, ap length f)
  flatten_long (Permᴰ.trans r s) = flatten_long r ∙ flatten_long s

-- a column's numbers are all below a limit in both or in neither
pub same_below : {A : Type 0} (f : A → ℕ) (n : ℕ) {xs ys : List A} → Reordered xs ys
    → all_below n (map f ys) ≡ all_below n (map f xs)
same_below f n r = sym (same_every (λ x. ltb x n) (Permᴰ.map f r))

-- ---- of the elements that pass a test, what a function gives, in order

module _ {A B : Type 0} (keep : A → Bool) (g : A → B) where
  abbrev pub pick : A → Option B
  pick x = cond (keep x) (some (g x)) none

  pub one_more : (x : A) (xs : List A) (picked : List B) → filter_map pick xs ≡ picked
      → cond (keep x) (g x ∷ picked) picked ≡ filter_map pick (x ∷ xs)
  unfolding filter_map Option-elim
  one_more x xs picked e = rw (← e) (go (keep x))
    where
      go : (b : Bool) → cond b (g x ∷ filter_map pick xs) (filter_map pick xs)
          ≡ Option-elim (cond b (some (g x)) none) (filter_map pick xs) (λ y. y ∷ filter_map pick xs)
      go true = refl
      go false = refl

  pub picked_reordered : {xs ys : List A} → Reordered xs ys → Reordered (filter_map pick xs) (filter_map pick ys)
  picked_reordered r = Permᴰ.filter_map pick r
