-- The align program's texts: the blocks of lines of a text's rows in another order. The lines of the files are the
-- same, and the line of a row's aligned time stands where the row's block stands. Definitions only.
use Rattle.std.specs.Prelude.{◌≡◌, ℕ, length, Some}
use mathlib.Core.List.{List, ◌++◌, map, zip, flatten}
use Rattle.status.specs.Status.{accepted}
use Rattle.retention_alignment.specs.Alignments.{aligned}
use Rattle.retention_alignment.specs.Call.{records_for, rows}
use Rattle.align_input.specs.Input.{Input, row_text, render}
use Rattle.align_input.specs.Parse.{parse}
use Rattle.align_input.specs.declared.TextRow.{TextRow}
use Rattle.align_output.specs.Output.{aligned_key, printed_of, status_text, float_line, files_text}
use Rattle.align_text.specs.AlignText.{columns_of, align_text, text_status}
use Rattle.row_order.specs.Order.{Reordered}

-- an input with its rows in another order
abbrev pub with_rows : Input → List TextRow → Input
with_rows d rows = record { files = d.files; peptides = d.peptides; rows = rows }

-- ---- the answer to an input, in two parts

-- the lines of the status and of the files
abbrev pub file_lines : Input → List ℕ
file_lines d = status_text accepted ++ files_text 0 (map printed_of (records_for (columns_of d)))

-- for each row the line of its aligned time
abbrev pub row_lines : Input → List (List ℕ)
row_lines d = map (float_line aligned_key) (map (aligned (records_for (columns_of d))) (rows (columns_of d)))

-- each row's block of five lines beside the line of its aligned time
abbrev pub timed_blocks : Input → List (List ℕ × List ℕ)
timed_blocks d = zip (map row_text d.rows) (row_lines d)

-- ---- what is claimed

-- of two inputs that are accepted and their answers: the first one's lines of the files stand in both
pub record SameLines (d e : Input) (answer other : List ℕ) : Type 0 where
  pub first : answer ≡ file_lines d ++ flatten (row_lines d)
  pub second : other ≡ file_lines d ++ flatten (row_lines e)
  pub blocks : Reordered (timed_blocks d) (timed_blocks e)
  pub every_row : length (timed_blocks d) ≡ length d.rows

-- of a text t that is read as the input d, and the text with the blocks of d's rows in another order
pub record TextOrder (t : List ℕ) (d : Input) (others : List TextRow) : Type 0 where
  -- that text is read, as the rows in that order,
  pub read : parse (render (with_rows d others)) ≡ Some (with_rows d others)
  -- has the same number,
  pub status : text_status (render (with_rows d others)) ≡ text_status t
  -- and where that is 0, the same lines of the files, and each row's line where its block is;
  pub lines : text_status t ≡ accepted
      → SameLines d (with_rows d others) (align_text t) (align_text (render (with_rows d others)))
  -- where it is not, the same answer
  pub refused : (text_status t ≡ accepted → ⊥) → align_text (render (with_rows d others)) ≡ align_text t
