-- Document 02's No. 9 for the align program's texts. A text and the one with its rows' blocks reordered are as long, so
-- that both are read; their numbers are the same; and an answer is the lines of the files' records, which are the same,
-- and for each row a line, which is a function of the records and the row.
use mathlib.Core.Path.{◌≡◌, refl, sym, ap, ◌∙◌, subst, subst₂}
use mathlib.Core.List.{List, ◌++◌, map, map-map, zip, flatten, append_assoc, append-nil}
use mathlib.Core.List.Permᴰ
use Rattle.std.specs.Prelude.{Some}
use Prim.Native.Nat.{ℕ, ◌≤◌}
use lib.Ieee.{nan}
use lib.ListN.{length, length-map}
use borrow.Author.Tests.{ne_eqb}
use Rattle.status.specs.Status.{accepted}
use Rattle.matrix.proofs.Lists.{zip_with_map}
use Rattle.feature.specs.Feature.{Row}
use Rattle.rt_matrix.specs.declared.Alignment.{Alignment}
use Rattle.retention_alignment.specs.Alignments.{aligned}
use Rattle.retention_alignment.specs.Call.{Input as Passed, records_for, rows}
use Rattle.align_input.specs.Columns.{q_of, rt_of}
use Rattle.text.specs.Decimal.{decimal_of}
use Rattle.text.specs.Line.{line}
use Rattle.align_input.specs.Input.{Input, Each, cons, RowInRange, files_key, peptides_key, row_text, render, max_bytes}
use Rattle.align_input.specs.Parse.{parse}
use Rattle.align_input.specs.declared.TextRow.{TextRow}
use Rattle.align_input.proofs.Grammar.{grammar}
use Rattle.align_output.specs.Output.{aligned_key, printed_of, status_text, float_line}
use Rattle.align_output.specs.Output.{files_text, aligned_text, accepted_text}
use Rattle.align_text.specs.AlignText.{max_files, columns_of, alignment_text, align_text, text_status}
use Rattle.align_text.specs.AlignText.{input_status_with, status_with, text_status_with}
use Rattle.align_text.proofs.Statuses.{by_status, alignment_of, text_by_status, refused_text}
use Rattle.row_order.specs.Order.{Reordered, passed_for}
use Rattle.row_order.specs.Texts.{with_rows, file_lines, row_lines, timed_blocks, TextOrder}
use Rattle.row_order.proofs.Reordering.{same_length, same_below, flatten_long}
use Rattle.row_order.proofs.Records.{records_by, time_by, records_same}
use Rattle.row_order.proofs.RowOrder.{records_for_lem, times_for}

-- ---- laws of reorderings for texts

each_reordered : {A : Type 0} (P : A → Type 0) {xs ys : List A} → Reordered xs ys → Each P xs → Each P ys
each_reordered P Permᴰ.nil h = h
each_reordered P (Permᴰ.cons e r) (cons p ps) = cons (subst P e p) (each_reordered P r ps)
each_reordered P (Permᴰ.swap e f) (cons p (cons q ps)) = cons (subst P f q) (cons (subst P e p) ps)
each_reordered P (Permᴰ.trans r s) h = each_reordered P s (each_reordered P r h)

-- ---- an input's rows as rows of an alignment

-- a text has neither charge nor mobility, and no alignment reads one
abbrev row_of : TextRow → Row
row_of r =
    record {
      file = r.file;
      peptide = r.peptide;
      label = r.label;
      q = q_of r;
      rt = rt_of r;
      charge = 0;
      mobility = nan;
    }

module _ (d : Input) where
  abbrev rows_in : List Row
  rows_in = map row_of d.rows

  abbrev records : List Alignment
  records = records_by d.files d.peptides rows_in

  columns_are : columns_of d ≡ passed_for d.files d.peptides rows_in
  unfolding columns_of
  columns_are =
      let files_are = map-map (λ (r : Row). r.file) row_of d.rows in
      let peptides_are = map-map (λ (r : Row). r.peptide) row_of d.rows in
      let labels_are = map-map (λ (r : Row). r.label) row_of d.rows in
      let qs_are = map-map (λ (r : Row). r.q) row_of d.rows in
      let rts_are = map-map (λ (r : Row). r.rt) row_of d.rows in
      λ k.
      record {
        file = sym files_are k;
        peptide = sym peptides_are k;
        label = sym labels_are k;
        q = sym qs_are k;
        rt = sym rts_are k;
        files = d.files;
        peptides = d.peptides;
      }

  records_are : records_for (columns_of d) ≡ records
  records_are = ap records_for columns_are ∙ records_for_lem d.files d.peptides rows_in

  -- the line of a row's aligned time, by records
  abbrev line_by : List Alignment → TextRow → List ℕ
  line_by rs r = float_line aligned_key (time_by rs (row_of r))

  lines_are : row_lines d ≡ map (line_by records) d.rows
  lines_are =
      ap (λ (i : Passed). map (float_line aligned_key) (map (aligned (records_for i)) (rows i))) columns_are
      ∙ ap (map (float_line aligned_key)) (times_for d.files d.peptides rows_in)
      ∙ map-map (float_line aligned_key) (time_by records) rows_in
      ∙ map-map (λ (r : Row). float_line aligned_key (time_by records r)) row_of d.rows

  blocks_are : timed_blocks d ≡ map (λ r. (row_text r, line_by records r)) d.rows
  unfolding zip
  blocks_are =
      ap (zip (map row_text d.rows)) lines_are ∙ zip_with_map (λ a b. (a, b)) row_text (line_by records) d.rows

  -- the answer in two parts
  in_parts : alignment_text (columns_of d) ≡ file_lines d ++ flatten (row_lines d)
  unfolding alignment_text accepted_text aligned_text flatten
  in_parts =
      let s = status_text accepted in
      let f = files_text 0 (map printed_of (records_for (columns_of d))) in
      let a = flatten (row_lines d) in
      ap (λ (t : List ℕ). s ++ (f ++ t)) (append-nil a) ∙ sym (append_assoc s f a)

-- ---- two inputs that differ in the order of their rows

module _ (d : Input) (others : List TextRow) (r : Reordered d.rows others) where
  abbrev e : Input
  e = with_rows d others

  -- the text is as long
  as_long : length (render e) ≡ length (render d)
  unfolding render
  as_long =
      let files : List ℕ = line files_key (decimal_of d.files) in
      let peptides : List ℕ = line peptides_key (decimal_of d.peptides) in
      sym
      (flatten_long
      (Permᴰ.cons {a = files} refl (Permᴰ.cons {a = peptides} refl (Permᴰ.map row_text r))))

  same_status : input_status_with max_files e ≡ input_status_with max_files d
  unfolding input_status_with columns_of
  same_status =
      rw (
        sym (same_length r),
        same_below (λ (r : TextRow). r.file) d.files r,
        same_below (λ (r : TextRow). r.peptide) d.peptides r,
      )

  same_records : records_by d.files d.peptides (rows_in e) ≡ records_by d.files d.peptides (rows_in d)
  same_records = records_same d.files d.peptides (Permᴰ.map row_of r)

  same_file_lines : file_lines e ≡ file_lines d
  same_file_lines =
      ap (λ (rs : List Alignment). status_text accepted ++ files_text 0 (map printed_of rs))
      (records_are e ∙ same_records ∙ sym (records_are d))

  blocks_reordered : Reordered (timed_blocks d) (timed_blocks e)
  blocks_reordered =
      let block : List Alignment → TextRow → List ℕ × List ℕ = λ rs x. (row_text x, line_by d rs x) in
      subst₂ Reordered
      (sym (blocks_are d))
      (sym (blocks_are e ∙ ap (λ (rs : List Alignment). map (block rs) others) same_records))
      (Permᴰ.map (block (records d)) r)

-- ---- the theorem

module _ (t : List ℕ) (d : Input) (others : List TextRow) (read : parse t ≡ Some d)
    (r : Reordered d.rows others) where
  abbrev u : List ℕ
  u = render (with_rows d others)

  read_too : parse u ≡ Some (with_rows d others)
  read_too =
      let w = (grammar t d).0 read in
      let l : length u ≤ max_bytes = rw (as_long d others r) (rw w.0 at w.2) in
      let o = w.1 in
      (grammar u (with_rows d others)).1 (
        refl,
        record { files = o.files; peptides = o.peptides; rows = each_reordered RowInRange r o.rows },
        l,
      )

  same_number : text_status u ≡ text_status t
  unfolding text_status_with
  same_number =
      ap (status_with max_files) read_too ∙ same_status d others r ∙ sym (ap (status_with max_files) read)

-- the answer to a text that is read, and accepted
answer_is : (t : List ℕ) (d : Input) → parse t ≡ Some d → text_status t ≡ accepted
    → align_text t ≡ file_lines d ++ flatten (row_lines d)
answer_is t d read h =
    text_by_status t
    ∙ ap (λ (n : ℕ). by_status n (alignment_of (parse t))) h
    ∙ ap alignment_of read
    ∙ in_parts d

pub text_order : (t : List ℕ) (d : Input) (others : List TextRow) → parse t ≡ Some d → Reordered d.rows others
    → TextOrder t d others
text_order t d others read r =
    let e = with_rows d others in
    let u = render e in
    let u_read = read_too t d others read r in
    let number = same_number t d others read r in
    record {
      read = u_read;
      status = number;
      lines = λ h.
          record {
            first = answer_is t d read h;
            second =
                answer_is u e u_read (number ∙ h)
                ∙ ap (λ (l : List ℕ). l ++ flatten (row_lines e)) (same_file_lines d others r);
            blocks = blocks_reordered d others r;
            every_row = ap length (blocks_are d) ∙ length-map d.rows (λ x. (row_text x, line_by d (records d) x));
          };
      refused = λ h.
          refused_text u (ne_eqb (text_status u) accepted (λ z. h (sym number ∙ z)))
          ∙ ap status_text number
          ∙ sym (refused_text t (ne_eqb (text_status t) accepted h));
    }
