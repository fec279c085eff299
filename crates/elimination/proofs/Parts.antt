-- A part of a list that is lent from place a on, k cells long, and comes back as other cells. For any cells.
use mathlib.Core.Path.{◌≡◌, refl}
use mathlib.Core.List.{List, ◌++◌, append-nil}
use Prim.Native.Nat.{ℕ, ◌+◌, ◌-◌, ◌≤◌}
use native.Mathlib.Nat.{le_refl}
use native.Mathlib.Omega.{arith}
use lib.ListN.{length, take, drop, length-take, length-drop, drop_of_length-le}
use lib.Seq.{take_all}

module _ {A : Type 0} where
  pub part_length : (a k : ℕ) (xs : List A) → a + k ≤ length xs → length (take k (drop a xs)) ≡ k
  part_length a k xs h = simp (length-take, length-drop) (omega arith)

  -- all the rest of the list
  pub rest : (a : ℕ) (xs : List A) → take (length xs - a) (drop a xs) ≡ drop a xs
  rest a xs =
      let e : length (drop a xs) ≤ length xs - a = rw length-drop (le_refl (length xs - a)) in
      take_all (length xs - a) (drop a xs) e

  pub put_rest : (a : ℕ) (xs ys : List A)
      → take a xs ++ (ys ++ drop (length xs - a) (drop a xs)) ≡ take a xs ++ ys
  put_rest a xs ys =
      let e : length (drop a xs) ≤ length xs - a = rw length-drop (le_refl (length xs - a)) in
      rw (drop_of_length-le (drop a xs) e, append-nil) refl
