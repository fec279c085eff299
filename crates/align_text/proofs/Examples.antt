-- Document 01's examples of the alignment as texts of the program, over the definitions, by computation.
use Prim.Native.Nat.{ℕ}
use Prim.Native.String.{String}
use mathlib.Core.Path.{◌≡◌, refl}
use mathlib.Core.List.{List, [], ◌∷◌, ◌++◌, map, flatten, zip_with, head_d}
use lib.Ieee.{round, add, sub, mul, div, lt, le, eq, of_int, to_unsigned, of_bits, to_bits, nan_bits}
use Rattle.float.specs.Convert.{narrowed, ceiling}
use Rattle.float.specs.Value.{is_finite, is_normal, minimum}
use Rattle.float.specs.Hex.{hex_digit, hex_of, digit_value, all_hex, hex_value, read_hex}
use Rattle.text.specs.Ascii.{ascii}
use Rattle.text.specs.Decimal.{
  decimal_onto,
  decimal_of,
  is_digit,
  read_from,
  read_decimal,
  negative,
  non_negative,
  read_signed,
}
use Rattle.text.specs.Line.{line_of, starts_with, keyed, first_line, read_hex_digits, decimal_line, signed_line, hex_line}
use Rattle.status.specs.Checks.{every}
use Rattle.feature.specs.Feature.{trains, mask, kept}
use Rattle.rt_matrix.specs.Line as RL
use Rattle.matrix.specs.Lists.{tabulate}
use Rattle.rt_matrix.specs.Line.{share, present, mean, kept_rows, point_of, points, finite_or, line, lines}
use Rattle.retention_alignment.specs.Observation.{observations, max_rt, max_rts, times, smaller, min_rt, min_rts}
use Rattle.retention_alignment.specs.Alignments.{alignments, on_line, aligned}
use Rattle.align_input.specs.Parse.{row_read, rows_from, rows_of, head_read, parse}
use Rattle.align_output.specs.Output.{status_text, float_line, file_text, files_text, aligned_text, accepted_text}
use Rattle.align_text.specs.AlignText.{
  columns_of,
  alignment_text,
  columns_text,
  input_text_with,
  align_text_with,
  align_text,
  input_status_with,
  text_status_with,
  text_status,
  call_status,
  written_to,
  answer_of,
}
use Rattle.std.specs.Prelude.{Err}
use Rattle.status.specs.declared.Refusal.TheVariants.{Malformed}

-- lines, each closed by LF
abbrev closed : List String → List ℕ
closed [] = []
closed (s ∷ ss) = ascii s ++ 10 ∷ closed ss

-- a text with one row
abbrev one : (files peptides file peptide rt : String) → List ℕ
one files peptides file peptide rt =
    closed (files ∷ peptides ∷ file ∷ peptide ∷ "label=1" ∷ "q=00000000" ∷ rt ∷ [])

-- the answer to a text with one file and one row
abbrev answer : (max slope intercept used aligned : String) → List ℕ
answer max slope intercept used aligned =
    closed ("status=0" ∷ "file=0" ∷ max ∷ slope ∷ intercept ∷ used ∷ aligned ∷ [])

-- a text and its answer: the program's row; the times 9.2, -3.0 and 5E9; no rows; and the table's examples of 2, 4, 5
-- and 10
abbrev tests : List (List ℕ × List ℕ)
tests =
    (one "files=1" "peptides=1" "file=0" "peptide=0" "rt=41200000", answer "max=41200000" "slope=00000000" "intercept=3F800000" "used=1" "aligned=3F800000")
    ∷
    (one "files=1" "peptides=1" "file=0" "peptide=0" "rt=41133333", answer "max=41200000" "slope=00000000" "intercept=3F6B851E" "used=1" "aligned=3F6B851E")
    ∷
    (one "files=1" "peptides=1" "file=0" "peptide=0" "rt=C0400000", answer "max=00000000" "slope=3F800000" "intercept=00000000" "used=0" "aligned=FF800000")
    ∷
    (one "files=1" "peptides=1" "file=0" "peptide=0" "rt=4F9502F9", answer "max=4F800000" "slope=00000000" "intercept=3F9502F9" "used=1" "aligned=3F9502F9")
    ∷
    (closed ("files=1" ∷ "peptides=1" ∷ []), closed ("status=0" ∷ "file=0" ∷ "max=00000000" ∷ "slope=3F800000" ∷ "intercept=00000000" ∷ "used=0" ∷ []))
    ∷ (closed ("files=0" ∷ "peptides=1" ∷ []), closed ("status=2" ∷ []))
    ∷ (one "files=2" "peptides=1" "file=2" "peptide=0" "rt=41200000", closed ("status=4" ∷ []))
    ∷ (one "files=1" "peptides=1" "file=0" "peptide=1" "rt=41200000", closed ("status=5" ∷ []))
    ∷ (closed ("files=+1" ∷ "peptides=1" ∷ []), closed ("status=10" ∷ []))
    ∷ []

pub examples : map (λ (t : List ℕ × List ℕ). align_text t.0) tests
    ≡ map (λ (t : List ℕ × List ℕ). t.1) tests
unfolding align_text_with input_text_with columns_text alignment_text columns_of accepted_text files_text file_text aligned_text float_line status_text flatten head_d decimal_of decimal_onto hex_of hex_digit to_bits nan_bits parse head_read rows_of rows_from row_read decimal_line signed_line hex_line first_line keyed line_of starts_with read_decimal read_from is_digit read_signed negative non_negative read_hex_digits read_hex digit_value all_hex hex_value every observations max_rt max_rts times smaller min_rt min_rts alignments on_line aligned mask kept trains ceiling minimum tabulate lines line RL.line_of share present mean kept_rows point_of points finite_or is_finite is_normal narrowed round add sub mul div lt le eq of_int to_unsigned of_bits zip_with
examples = refl

-- the numbers of these texts
pub statuses : map (λ (t : List ℕ × List ℕ). text_status t.0) tests
    ≡ 0 ∷ 0 ∷ 0 ∷ 0 ∷ 0 ∷ 2 ∷ 4 ∷ 5 ∷ 10 ∷ []
unfolding text_status_with input_status_with columns_of parse head_read rows_of rows_from row_read decimal_line signed_line hex_line first_line keyed line_of starts_with read_decimal read_from is_digit read_signed negative non_negative read_hex_digits read_hex digit_value all_hex hex_value every
statuses = refl

-- the answer to a malformed text is 10 also where its line does not fit
pub malformed_unwritten : answer_of (call_status (closed ("files=+1" ∷ [])) (0 ∷ [])) (written_to (closed ("files=+1" ∷ [])) (0 ∷ [])) ≡ Err (record { status = Malformed; written = 0 })
unfolding answer_of call_status text_status_with align_text_with status_text decimal_of decimal_onto parse head_read rows_of rows_from row_read decimal_line signed_line hex_line first_line keyed line_of starts_with read_decimal read_from is_digit read_signed negative non_negative read_hex_digits read_hex digit_value all_hex hex_value every
malformed_unwritten = refl
