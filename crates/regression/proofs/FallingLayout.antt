-- Rows of falling width may be made anew in a loop: how they lie in the list.
use Prim.Native.Nat.{ℕ, ◌-◌}
use Rattle.elimination.proofs.Rows.{Layout}
use Rattle.packed_rows.specs.Falling.{falling_rows, falling_start}
use Rattle.packed_rows.proofs.Falling.{start_next, row_ends, row_falling, put_falling}

pub falling_layout : {A : Type 0} (w n : ℕ) → Layout {A = A} n (falling_rows w n) (falling_start w) (λ i. w - i)
falling_layout w n =
    record {
      row_next = λ i. start_next w i;
      row_ends = λ i h. row_ends w n i h;
      row_is = λ i l h. row_falling w n i l h;
      row_put = λ i r l h f e. put_falling w n i r l h f e;
    }
