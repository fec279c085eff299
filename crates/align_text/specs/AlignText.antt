-- What the align program answers to a text. Definitions only.
use Rattle.std.specs.Prelude.{ℕ, ◌≡◌, Bool, ◌&&◌, cond, List, [], ◌∷◌, map, eqb, leb, length, Option, Some, None, Result, Ok, Err}
use Rattle.std.proofs.Math.Option.{some}
use Rattle.matrix.specs.Lists.{overwritten}
use Rattle.status.specs.Checks.{all_below}
use Rattle.status.specs.Status.{accepted, malformed, past_limit, too_short, bad_file, bad_peptide, first_failing, number_of, refusal_by}
use Rattle.status.specs.Told.{Told, gives, if_accepted}
use Rattle.retention_alignment.specs.Alignments.{aligned}
use Rattle.retention_alignment.specs.Call as Call
use Rattle.retention_alignment.specs.Call.{records_for, rows}
use Rattle.align_input.specs.declared.TextRow.{TextRow}
use Rattle.align_input.specs.Input.{Input}
use Rattle.align_input.specs.Parse.{parse}
use Rattle.align_input.specs.Columns.{q_of, rt_of}
use Rattle.align_output.specs.Output.{printed_of, status_text, accepted_text}
use Rattle.align_text.specs.declared.Refused.{Refused}

-- the program's limits
abbrev pub max_files : ℕ
max_files = 16

abbrev pub max_peptides : ℕ
max_peptides = 64

abbrev pub max_rows : ℕ
max_rows = 256

-- whether these numbers are within them, for a program that takes `most` files
abbrev pub within_limits : (most files peptides rows : ℕ) → Bool
within_limits most files peptides rows =
    leb 1 files && leb files most && leb peptides max_peptides && leb rows max_rows

-- an input's rows as the alignment's columns
unfoldable pub columns_of : Input → Call.Input
columns_of d =
    record {
      file = map (λ (r : TextRow). r.file) d.rows;
      peptide = map (λ (r : TextRow). r.peptide) d.rows;
      label = map (λ (r : TextRow). r.label) d.rows;
      q = map q_of d.rows;
      rt = map rt_of d.rows;
      files = d.files;
      peptides = d.peptides;
    }

-- the text of the alignment of columns whose numbers are in range
unfoldable pub alignment_text : Call.Input → List ℕ
unfolding accepted_text
alignment_text i = accepted_text (map printed_of (records_for i)) (map (aligned (records_for i)) (rows i))

-- the text of the answer to columns: each check over all of them before the next
unfoldable pub columns_text : Call.Input → List ℕ
unfolding alignment_text status_text
columns_text i =
    cond (all_below i.files i.file)
    (cond (all_below i.peptides i.peptide) (alignment_text i) (status_text bad_peptide))
    (status_text bad_file)

-- the text of the answer to an input, of a program that takes `most` files
unfoldable pub input_text_with : (most : ℕ) → Input → List ℕ
unfolding columns_text columns_of status_text
input_text_with most d =
    cond (within_limits most d.files d.peptides (length d.rows)) (columns_text (columns_of d))
    (status_text past_limit)

abbrev pub answer_with : (most : ℕ) → Option Input → List ℕ
answer_with most None = status_text malformed
answer_with most (Some d) = input_text_with most d

-- the whole text that such a program writes for a text
unfoldable pub align_text_with : (most : ℕ) → List ℕ → List ℕ
unfolding parse input_text_with status_text
align_text_with most t = answer_with most (parse t)

-- what this program writes
abbrev pub align_text : List ℕ → List ℕ
align_text t = align_text_with max_files t

-- ---- the number of a text: the first of document 01's checks that fails

-- the checks of columns, in the table's order
abbrev pub column_checks : Call.Input → List (ℕ × Bool)
column_checks i = (bad_file, all_below i.files i.file) ∷ (bad_peptide, all_below i.peptides i.peptide) ∷ []

unfoldable pub columns_status : Call.Input → ℕ
columns_status i = first_failing (column_checks i)

-- the limits come before
unfoldable pub input_status_with : (most : ℕ) → Input → ℕ
unfolding columns_of
input_status_with most d =
    first_failing
    ((past_limit, within_limits most d.files d.peptides (length d.rows)) ∷ column_checks (columns_of d))

abbrev pub status_with : (most : ℕ) → Option Input → ℕ
status_with most None = malformed
status_with most (Some d) = input_status_with most d

-- 10 comes before all
unfoldable pub text_status_with : (most : ℕ) → List ℕ → ℕ
unfolding parse input_status_with
text_status_with most t = status_with most (parse t)

-- the number of a text for this program
abbrev pub text_status : List ℕ → ℕ
text_status t = text_status_with max_files t

-- ---- a call

-- whether a text fits a slice
abbrev pub fits : List ℕ → List ℕ → Bool
fits text output = leb (length text) (length output)

-- the number of a call: the text's, and behind it 3 for an answer that does not fit
unfoldable pub call_status : (input output : List ℕ) → ℕ
call_status input output =
    let status = text_status input in
    first_failing ((status, eqb status accepted) ∷ (too_short, fits (align_text input) output) ∷ [])

-- how many bytes a call writes
abbrev pub written_to : (input output : List ℕ) → ℕ
written_to input output = cond (fits (align_text input) output) (length (align_text input)) 0

-- the answer with a number, and so many bytes written
unfoldable pub answer_of : (status written : ℕ) → Result ℕ Refused
answer_of s n = if_accepted s (Ok n) (Err (record { status = refusal_by s; written = n }))

-- how many bytes an answer says were written
abbrev pub written_in : Result ℕ Refused → ℕ
written_in (Ok n) = n
written_in (Err r) = r.written

-- the same of an answer whose refusals are a status that is any number, and a number of bytes
abbrev pub written_by_number : Result ℕ (ℕ × ℕ) → ℕ
written_by_number (Ok n) = n
written_by_number (Err r) = r.1

-- what every case of an answer tells: a refused one too has a value, how many bytes were written
abbrev pub told_by : Result ℕ Refused → Told ℕ
told_by (Ok n) = gives n
told_by (Err r) = record { status = number_of r.status; values = some r.written }

-- The contract: the answer, what it tells, and the whole slice after the call. An answer that does not fit leaves the
-- slice as it was.
pub record Answered (input before : List ℕ) (r : Result ℕ Refused) (after : List ℕ) : Type 0 where
  pub answer : r ≡ answer_of (call_status input before) (written_to input before)
  pub told : told_by r ≡ record { status = call_status input before; values = some (written_to input before) }
  pub output : after ≡ cond (fits (align_text input) before) (overwritten (align_text input) before) before
