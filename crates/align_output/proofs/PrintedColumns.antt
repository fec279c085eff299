-- What is printed of the files' records, as one list over the four columns that hold it.
use mathlib.Core.Path.{◌≡◌, refl, ap, ap₂, ◌∙◌}
use mathlib.Core.List.{List, [], ◌∷◌, map, zip, zip_with}
use Prim.Native.Nat.{ℕ, ◌<◌}
use native.Mathlib.Omega.{arith}
use lib.ListN.{length, get_or}
use lib.Ieee.{Float, nan}
use Rattle.matrix.proofs.Lists.{length_zip_with, get_d_zip_with, length_zip, get_d_zip}
use Rattle.rt_matrix.specs.Columns.{FileColumns, columns_of}
use Rattle.rt_matrix.specs.declared.Alignment.{Alignment}
use Rattle.align_output.specs.Output.{printed_of, printed_by, printed_in}
use Rattle.align_output.specs.declared.Printed.{Printed}

-- what stands past the last file
abbrev pub none_printed : Printed
none_printed = record { max_rt = nan; slope = nan; intercept = nan; used = 0 }

module _ (ms ss is : List Float) (us : List ℕ) (hs : length ss ≡ length ms) (hi : length is ≡ length ms)
    (hu : length us ≡ length ms) where
  lines_long : length (zip ms ss) ≡ length ms
  lines_long = length_zip ms ss (omega arith)

  counts_long : length (zip is us) ≡ length ms
  counts_long = length_zip is us (omega arith) ∙ hi

  pub length_printed : length (printed_in ms ss is us) ≡ length ms
  length_printed =
      length_zip_with printed_by (zip ms ss) (zip is us) (omega (arith, lines_long, counts_long)) ∙ lines_long

  pub printed_cells : (f : ℕ) → f < length ms
      → get_or (printed_in ms ss is us) f none_printed
      ≡ record { max_rt = get_or ms f nan; slope = get_or ss f nan; intercept = get_or is f nan; used = get_or us f 0 }
  printed_cells f h =
      get_d_zip_with printed_by (zip ms ss) (zip is us) f (nan, nan) (nan, 0) none_printed
      (omega (arith, lines_long))
      (omega (arith, counts_long))
      ∙ ap₂ printed_by (get_d_zip ms ss f nan nan h (omega arith)) (get_d_zip is us f nan 0 (omega arith) (omega arith))

-- ---- by the records

abbrev pub printed_columns : FileColumns → List Printed
printed_columns c = printed_in c.max_rt c.slope c.intercept c.used

pub printed_back : (records : List Alignment) → printed_columns (columns_of records) ≡ map printed_of records
unfolding zip zip_with
printed_back [] = refl
printed_back (a ∷ records) = ap (λ (t : List Printed). printed_of a ∷ t) (printed_back records)
