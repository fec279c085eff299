-- What a system's shape gives: small counts, rows within the cells, and the same shape for as many other cells.
use mathlib.Core.Path.{◌≡◌, ◌∙◌}
use mathlib.Core.List.{List}
use Prim.Native.Nat.{ℕ, ◌+◌, ◌*◌, ◌≤◌, ◌<◌}
use native.Mathlib.Nat.{mul-le-mul}
use native.Mathlib.Omega.{arith}
use lib.ListN.{length, take}
use lib.Seq.{length-take-le}
use Rattle.status.specs.Limits.{max_order}
use Rattle.elimination.specs.Rows.{max_width}
use Rattle.matrix.proofs.Laws.{row_end}
use Rattle.elimination.specs.Rows.{Shape}
use Rattle.elimination.specs.declared.size.Size.{Size}

module _ {A : Type 0} {n w : ℕ} {cells : List A} where
  -- row i ends within the cells, of which there are few
  pub inside : Shape n w cells → (i : ℕ) → i < n → (i * w + w ≤ length cells) × (length cells ≤ 10800)
  inside s i h =
      let e : n * w ≤ max_order * max_width = mul-le-mul s.order s.wide in
      (omega (arith, s.count, row_end w n i h), omega (arith, s.count))

  -- the same of the row that starts at a
  pub inside_at : Shape n w cells → (i a : ℕ) → i < n → a ≡ i * w → (a + w ≤ length cells) × (length cells ≤ 10800)
  inside_at s i a h e = let k = inside s i h in (omega (arith, k.0, e), k.1)

  pub shape_kept : {others : List A} → Shape n w cells → length others ≡ length cells → Shape n w others
  shape_kept s e = record { order = s.order; wide = s.wide; left = s.left; count = e ∙ s.count }

-- as many cells as a system's size says
pub shape_of : {A : Type 0} (s : Size) (cells : List A) → length cells ≡ s.n * s.w → Shape s.n s.w cells
shape_of s cells e = record { order = s.order; wide = s.wide; left = s.left; count = e }

-- the front of a copy of a row
pub copy_length : {A : Type 0} (w : ℕ) (copy : List A) → w ≤ max_width → length copy ≡ max_width
    → length (take w copy) ≡ w
copy_length w copy h e = length-take-le w copy (omega (arith, h, e))
