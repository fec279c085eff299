-- No answer is longer than 5,650 bytes: the status, 16 files and 256 rows.
use mathlib.Core.Path.{◌≡◌, refl, sym, ap, ◌∙◌}
use mathlib.Core.Bool.{Bool, true, false, cond}
use mathlib.Core.List.{List, map}
use Rattle.std.specs.Prelude.{Option, None, Some}
use Prim.Native.Nat.{ℕ, ◌≤◌}
use native.Mathlib.Omega.{arith}
use lib.ListN.{length, get_or, length-map, get_or-map}
use borrow.Author.Tests.{le-leb}
use Rattle.matrix.specs.Lists.{overwritten}
use Rattle.matrix.proofs.Lists.{length_tabulate}
use Rattle.status.specs.Checks.{all_below}
use Rattle.status.specs.Status.{bad_file, bad_peptide}
use Rattle.retention_alignment.specs.Observation.{max_rts, min_rts}
use Rattle.retention_alignment.specs.Alignments.{alignments, aligned}
use Rattle.rt_matrix.proofs.RecordColumns.{no_record}
use Rattle.rt_matrix.proofs.Used.{used_few}
use Rattle.retention_alignment.specs.Call as Call
use Rattle.retention_alignment.specs.Call.{records_for, rows, training_rows}
use Rattle.retention_alignment.proofs.Rows.{length_rows}
use Rattle.align_input.specs.declared.TextRow.{TextRow}
use Rattle.align_input.specs.Input.{Input}
use Rattle.align_input.specs.Parse.{parse}
use Rattle.align_input.specs.Columns.{rt_of}
use Rattle.align_output.specs.Output.{printed_of, status_text}
use Rattle.align_output.specs.declared.Printed.{Printed}
use Rattle.align_output.proofs.Lengths.{Counted, status_length, accepted_length}
use Rattle.std.specs.Prelude.{Result}
use Rattle.align_text.specs.declared.Refused.{Refused}
use Rattle.align_text.specs.AlignText.{
  max_files,
  within_limits,
  columns_of,
  alignment_text,
  columns_text,
  input_text_with,
  answer_with,
  align_text_with,
  align_text,
  text_status,
  fits,
  written_to,
  answer_of,
  Answered,
}
use Rattle.align_text.proofs.Aligning.{records_long}
use Rattle.align_text.proofs.Answers.{within}
use Rattle.align_text.proofs.Contract.{fitting}

abbrev pub longest : ℕ
longest = 5650

-- the longer of two texts
either : (b : Bool) (x y : List ℕ) (n : ℕ) → (b ≡ true → length x ≤ n) → length y ≤ n
    → length (cond b x y) ≤ n
either true x y n h g = h refl
either false x y n h g = g

status_short : (n : ℕ) → n ≤ 10 → length (status_text n) ≤ longest
status_short n h = omega (arith, status_length n (omega arith))

-- a file's count is at most the number of peptides
counts : (i : Call.Input) (k : ℕ) → (get_or (records_for i) k no_record).used ≤ i.peptides
unfolding alignments min_rts
counts i k =
    let times = min_rts i.files i.peptides (training_rows i) in
    let count : length times ≡ i.peptides = length_tabulate _ _ in
    omega (arith, used_few (max_rts i.files (rows i)) times k, count)

module _ (i : Call.Input) (files : i.files ≤ max_files) (peptides : i.peptides ≤ 64) (count : length (rows i) ≤ 256) where
  alignment_short : length (alignment_text i) ≤ longest
  unfolding alignment_text
  alignment_short =
      let t = map (aligned (records_for i)) (rows i) in
      let printed = map printed_of (records_for i) in
      let e : length printed ≡ i.files = length-map (records_for i) printed_of ∙ records_long i in
      let f : length t ≡ length (rows i) = length-map (rows i) (aligned (records_for i)) in
      let counted : Counted printed = λ k l.
      omega (
        arith,
        ap (λ (p : Printed). p.used) (get_or-map printed_of (records_for i) k no_record),
        counts i k,
      ) in
      omega (arith, accepted_length printed t (omega (arith, e)) counted, e, f)

  pub columns_short : length (columns_text i) ≤ longest
  unfolding columns_text
  columns_short =
      either (all_below i.files i.file) _ _ longest
      (λ h. either (all_below i.peptides i.peptide) _ _ longest (λ g. alignment_short) (status_short bad_peptide (omega arith)))
      (status_short bad_file (omega arith))

rows_count : (d : Input) → length (rows (columns_of d)) ≡ length d.rows
unfolding columns_of
rows_count d =
    let f = length-map d.rows (λ r. r.file) in
    length_rows (map (λ (r : TextRow). r.file) d.rows) (map (λ (r : TextRow). r.peptide) d.rows)
    (map rt_of d.rows) (length-map d.rows (λ r. r.peptide) ∙ sym f) (length-map d.rows rt_of ∙ sym f)
    ∙ f

input_short : (d : Input) → length (input_text_with max_files d) ≤ longest
unfolding input_text_with columns_of
input_short d =
    either (within_limits max_files d.files d.peptides (length d.rows)) _ _ longest
    (λ h.
    let w = within d.files d.peptides (length d.rows) h in
    columns_short (columns_of d) w.files w.peptides (omega (arith, rows_count d, w.rows)))
    (status_short 2 (omega arith))

answer_short : (o : Option Input) → length (answer_with max_files o) ≤ longest
answer_short None = status_short 10 (omega arith)
answer_short (Some d) = input_short d

pub text_short : (t : List ℕ) → length (align_text t) ≤ longest
unfolding align_text_with
text_short t = answer_short (parse t)

-- an output of that length takes every answer: the call's number is the text's, and what is written is the whole text
pub always_written : (t before : List ℕ) (r : Result ℕ Refused) (after : List ℕ) → Answered t before r after
    → longest ≤ length before
    → (r ≡ answer_of (text_status t) (length (align_text t))) × (after ≡ overwritten (align_text t) before)
always_written t before r after w h =
    let f : fits (align_text t) before ≡ true = le-leb (length (align_text t)) (length before) (omega (arith, text_short t)) in (
      w.answer
          ∙ ap (λ (s : ℕ). answer_of s (written_to t before)) (fitting t before f)
          ∙ ap (λ (b : Bool). answer_of (text_status t) (cond b (length (align_text t)) 0)) f,
      w.output ∙ ap (λ (b : Bool). cond b (overwritten (align_text t) before) before) f,
    )
