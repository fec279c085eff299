-- Laws of lists: what is left from a place on, and runs of stores.
use mathlib.Core.Path.{◌≡◌, sym, ap, ◌∙◌}
use mathlib.Core.List.{List, [], ◌∷◌, ◌++◌}
use Prim.Native.Nat.{ℕ, suc, ◌+◌, ◌-◌, ◌<◌}
use native.Mathlib.Numerals.{add-one}
use native.Mathlib.Omega.{arith}
use lib.ListN.{length, take, drop, get_or, set, length-drop, length-set}
use lib.Seq.{drop-cons, take_all, sets, get_or-set_same, drop-set-lt}
use native.Mathlib.Nat.{add-zero, add-suc, suc-add}

pub drop_next : {A : Type 0} (d : A) (s : List A) (i : ℕ) → i < length s
    → drop i s ≡ get_or s i d ∷ drop (i + 1) s
drop_next d s i h = rw (add-one, drop-cons s i d)

pub drop_set : {A : Type 0} (l : List A) (i : ℕ) (a : A) → i < length l
    → drop i (set l i a) ≡ a ∷ drop (i + 1) l
drop_set {A} l i a h =
    drop_next a (set l i a) i (rw length-set h)
    ∙ ap (λ (x : A). x ∷ drop (i + 1) (set l i a)) (get_or-set_same l i a a h)
    ∙ ap (λ (t : List A). a ∷ t) (drop-set-lt (i + 1) l i a (omega arith))

-- the part from a place to the end
pub part_rest : {A : Type 0} (s : List A) (k : ℕ) → take (length s - k) (drop k s) ≡ drop k s
part_rest s k = take_all (length s - k) (drop k s) (rw length-drop (omega arith))

-- ---- a run of stores: the next of them, and one run after another
pub sets_next : {A : Type 0} (d : A) (l s : List A) (at i : ℕ) → i < length s
    → sets l (at + i) (drop i s) ≡ sets (set l (at + i) (get_or s i d)) (at + (i + 1)) (drop (i + 1) s)
sets_next d l s at i h =
    let e : suc (at + i) ≡ at + (i + 1) = omega arith in
    ap (sets l (at + i)) (drop_next d s i h)
    ∙ ap (λ (k : ℕ). sets (set l (at + i) (get_or s i d)) k (drop (i + 1) s)) e

pub sets_append : {A : Type 0} (l : List A) (at : ℕ) (a b : List A)
    → sets l at (a ++ b) ≡ sets (sets l at a) (at + length a) b
sets_append l at [] b = ap (λ (k : ℕ). sets l k b) (sym (add-zero at))
sets_append l at (x ∷ a) b =
    sets_append (set l at x) (suc at) a b
    ∙ ap (λ (k : ℕ). sets (sets (set l at x) (suc at) a) k b)
    (suc-add at (length a) ∙ sym (add-suc at (length a)))
