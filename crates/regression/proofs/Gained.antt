-- Stored rows that have gained a sample: block after block, and all of them.
use mathlib.Core.Path.{◌≡◌, refl, sym, ap, ◌∙◌}
use mathlib.Core.Bool.{true}
use mathlib.Core.List.{List, []}
use Prim.Native.Nat.{ℕ, ◌+◌, ◌-◌, ◌≤◌, ◌<◌}
use native.Mathlib.Nat.{lt_of_not-le}
use native.Mathlib.Decide.{dec_le}
use native.Mathlib.Omega.{arith}
use lib.ListN.{length, get_or, drop, length-drop}
use lib.Seq.{get_or-drop}
use lib.Ieee.{Float, nan}
use Rattle.float.specs.Value.{is_zero}
use Rattle.matrix.specs.Rows.{flat}
use Rattle.matrix.specs.Lists.{tabulate, zipped}
use Rattle.matrix.proofs.Lists.{same_cells, length_tabulate, get_d_tabulate, tabulate_cells}
use Rattle.matrix.proofs.Lists.{length_zipped, get_d_zipped}
use Rattle.packed_rows.specs.Falling.{falling_rows, falling_start, Stored, cell_at}
use Rattle.regression.specs.Triangle.{add_triangle_by}
use Rattle.packed_rows.specs.Added.{plus_nonzero, Gained}
use Rattle.packed_rows.proofs.Falling.{length_falling, falling_rows_lem, falling_row, cell_falling, flat_falling}
use Rattle.regression.proofs.Triangle.{add_tabulate}
use Rattle.packed_rows.proofs.Begun.{cell, gains, zero_row}

module _ (ext : List Float) where
  -- no row has
  pub gained_none : (J : ℕ) (acc : List Float) → Gained ext J J acc acc
  gained_none J acc =
      record {
        long = refl;
        above = λ j c s l. refl;
        gained = λ j c s l m. absurd (omega arith);
        below = λ j c s l. refl;
      }

  -- one block and then another, with zero rows between them
  pub gained_on : (J K L M : ℕ) (acc₀ acc₁ acc₂ : List Float) → J ≤ K → K ≤ L → L ≤ M
      → Gained ext J K acc₀ acc₁ → Gained ext L M acc₁ acc₂
      → ((j : ℕ) → K ≤ j → j < L → is_zero (get_or ext j nan) ≡ true)
      → Gained ext J M acc₀ acc₂
  gained_on J K L M acc₀ acc₁ acc₂ a b d f g zeros =
      record {
        long = g.long ∙ f.long;
        above = λ j c s l. g.above j c s (omega arith) ∙ f.above j c s l;
        gained = λ j c s l m. by j c s l m (dec_le K j) (dec_le L j);
        below = λ j c s l. g.below j c s l ∙ f.below j c s (omega arith);
      }
    where
      by : (j c : ℕ) → Stored (length ext) j c → J ≤ j → j < M → Dec (K ≤ j) → Dec (L ≤ j)
          → cell ext acc₀ acc₂ j c ≡ gains ext acc₀ j c
      by j c s l m (no p) q = g.above j c s (omega (arith, lt_of_not-le p)) ∙ f.gained j c s l (lt_of_not-le p)
      by j c s l m (yes p) (no q) =
          g.above j c s (lt_of_not-le q) ∙ f.below j c s p ∙ sym (zero_row ext acc₀ j c (zeros j p (lt_of_not-le q)))
      by j c s l m (yes p) (yes q) =
          g.gained j c s q m
          ∙ ap (λ (d : Float). plus_nonzero (get_or ext j nan) d (get_or ext c nan)) (f.below j c s p)

  -- all rows
  module _ (acc₀ acc : List Float) (some : 0 < length ext)
      (whole : length acc₀ ≡ falling_start (length ext) (length ext - 1))
      (g : Gained ext 0 (length ext - 1) acc₀ acc)
    where
      abbrev w : ℕ
      w = length ext

      abbrev d : ℕ
      d = length ext - 1

      abbrev old : List (List Float)
      old = falling_rows w d acc₀

      -- row j with the sample
      abbrev more : ℕ → List Float
      more j = zipped (plus_nonzero (get_or ext j nan)) (get_or old j []) (drop j ext)

      added : add_triangle_by plus_nonzero old ext ≡ tabulate d more
      added =
          ap (λ (t : List (List Float)). add_triangle_by plus_nonzero t ext)
          (sym (tabulate_cells d old [] (length_falling w d acc₀)))
          ∙ add_tabulate plus_nonzero d (λ j. get_or old j []) ext (omega arith)

      row_long : (l : List Float) → length l ≡ falling_start w d → (j : ℕ) → j < d
          → length (get_or (falling_rows w d l) j []) ≡ w - j
      row_long l e j h =
          falling_row w (falling_rows w d l) j (falling_rows_lem w d l (omega arith))
          (omega (arith, length_falling w d l))

      cell_is : (j k : ℕ) → j < d → k < w - j
          → get_or (get_or (falling_rows w d acc) j []) k nan ≡ get_or (more j) k nan
      cell_is j k h l =
          let s : Stored w j (j + k) =
          record { row = omega arith; from = omega arith; within = omega arith } in
          let place : falling_start w j + k ≡ cell_at w j (j + k) = omega arith in
          cell_falling w d j k acc nan h l
          ∙ ap (λ (i : ℕ). get_or acc i nan) place
          ∙ g.gained j (j + k) s (omega arith) h
          ∙ ap (λ (i : ℕ). plus_nonzero (get_or ext j nan) (get_or acc₀ i nan) (get_or ext (j + k) nan)) (sym place)
          ∙ ap (λ (x : Float). plus_nonzero (get_or ext j nan) x (get_or ext (j + k) nan))
          (sym (cell_falling w d j k acc₀ nan h l))
          ∙ ap (plus_nonzero (get_or ext j nan) (get_or (get_or old j []) k nan)) (sym (get_or-drop j ext k nan))
          ∙ sym
          (get_d_zipped (plus_nonzero (get_or ext j nan)) (get_or old j []) (drop j ext) k nan nan
          (omega (arith, row_long acc₀ whole j h)) (simp length-drop (omega arith)))

      rows_are : falling_rows w d acc ≡ tabulate d more
      rows_are =
          same_cells (falling_rows w d acc) (tabulate d more) [] (length_falling w d acc ∙ sym (length_tabulate d more))
          (λ j h.
          let l : j < d = omega (arith, length_falling w d acc) in
          let long : length acc ≡ falling_start w d = g.long ∙ whole in
          same_cells (get_or (falling_rows w d acc) j []) (more j) nan
          (row_long acc long j l ∙ sym (length_zipped _ (get_or old j []) (drop j ext) ∙ row_long acc₀ whole j l))
          (λ k m. cell_is j k l (omega (arith, row_long acc long j l)))
          ∙ sym (get_d_tabulate d more j [] l))

      pub gained_all : acc ≡ flat (add_triangle_by plus_nonzero old ext)
      gained_all =
          sym (flat_falling w d acc (g.long ∙ whole)) ∙ ap flat (rows_are ∙ sym added)
