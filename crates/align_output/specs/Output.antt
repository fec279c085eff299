-- The text of an answer of the align program. Definitions only.
use Rattle.std.specs.Prelude.{ℕ, ◌+◌, Float, get_or}
use mathlib.Core.List.{List, [], ◌∷◌, ◌++◌, map, zip, zip_with, flatten}
use Rattle.std.specs.Float.{binary32}
use Rattle.std.specs.Float.Ieee.{to_bits, nan}
use Rattle.status.specs.Status.{accepted}
use Rattle.float.specs.Hex.{hex_of}
use Rattle.text.specs.Ascii.{ascii}
use Rattle.text.specs.Decimal.{decimal_of}
use Rattle.text.specs.Line.{line}
use Rattle.rt_matrix.specs.declared.Alignment.{Alignment}
use Rattle.params.specs.Slice.{Change}
use Rattle.align_output.specs.declared.Printed.{Printed}
use Rattle.align_output.specs.declared.files.Files.{Files}

-- the keys of the output's lines
abbrev pub status_key : List ℕ
status_key = ascii "status="

abbrev pub file_key : List ℕ
file_key = ascii "file="

abbrev pub max_key : List ℕ
max_key = ascii "max="

abbrev pub slope_key : List ℕ
slope_key = ascii "slope="

abbrev pub intercept_key : List ℕ
intercept_key = ascii "intercept="

abbrev pub used_key : List ℕ
used_key = ascii "used="

abbrev pub aligned_key : List ℕ
aligned_key = ascii "aligned="

-- the line of a status: all that a refused input is answered
unfoldable pub status_text : ℕ → List ℕ
unfolding decimal_of
status_text n = line status_key (decimal_of n)

-- a line with the pattern of an f32; a NaN's is 7FC00000
unfoldable pub float_line : List ℕ → Float → List ℕ
unfolding hex_of to_bits
float_line key x = line key (hex_of 8 (to_bits binary32 x))

-- what is printed of a record: its longest time, slope, intercept and number of kept peptides, and no flag
abbrev pub printed_of : Alignment → Printed
printed_of a = record { max_rt = a.max_rt; slope = a.slope; intercept = a.intercept; used = a.used }

-- the same by its numbers, and of all records by their columns
abbrev pub printed_by : Float × Float → Float × ℕ → Printed
printed_by p q = record { max_rt = p.0; slope = p.1; intercept = q.0; used = q.1 }

abbrev pub printed_in : (max_rt slope intercept : List Float) (used : List ℕ) → List Printed
printed_in max_rt slope intercept used = zip_with printed_by (zip max_rt slope) (zip intercept used)

-- the cells of the i-th file
abbrev pub cells_at : Files → ℕ → Printed
cells_at files i =
    record {
      max_rt = get_or files.max_rt.now i nan;
      slope = get_or files.slope.now i nan;
      intercept = get_or files.intercept.now i nan;
      used = get_or files.used.now i 0;
    }

-- what is printed of files, as a `requires` has them
abbrev pub printed_at : Files → List Printed
printed_at files = printed_in files.max_rt.now files.slope.now files.intercept.now files.used.now

-- and as an `ensures` has them
abbrev pub printed_from : Change Files → List Printed
printed_from files = printed_at files.entry

-- the lines of a file: its number, and what is printed of its record
unfoldable pub file_text : ℕ → Printed → List ℕ
unfolding flatten float_line decimal_of
file_text i a =
    flatten
    (line file_key (decimal_of i)
    ∷ float_line max_key a.max_rt
    ∷ float_line slope_key a.slope
    ∷ float_line intercept_key a.intercept
    ∷ line used_key (decimal_of a.used)
    ∷ [])

-- the lines of the files from number i on
unfoldable pub files_text : ℕ → List Printed → List ℕ
unfolding file_text
files_text i [] = []
files_text i (a ∷ files) = file_text i a ++ files_text (i + 1) files

-- the lines of the rows
unfoldable pub aligned_text : List Float → List ℕ
unfolding flatten float_line
aligned_text times = flatten (map (float_line aligned_key) times)

-- the text of an accepted input's answer: status, files, rows
unfoldable pub accepted_text : (files : List Printed) (times : List Float) → List ℕ
unfolding flatten status_text files_text aligned_text
accepted_text files times = flatten (status_text accepted ∷ files_text 0 files ∷ aligned_text times ∷ [])
