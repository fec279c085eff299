-- An alignment within the program's limits, with slices that are long enough: it is refused for a number out of range
-- or not at all, and the outputs' first cells are the records' and the rows'.
use mathlib.Core.Path.{◌≡◌, refl, sym, ap, ap₂, ◌∙◌}
use mathlib.Core.Bool.{Bool, true, false, cond}
use mathlib.Core.List.{map}
use Prim.Native.Nat.{ℕ, ◌*◌, ◌≤◌}
use native.Mathlib.Nat.{mul-le-mul}
use native.Mathlib.Omega.{arith}
use lib.Dec.{eqb}
use lib.ListN.{length, get_or, take, length-map}
use lib.Seq.{take_at}
use borrow.Author.Tests.{le-leb, eq-eqb, eqb-true}
use Rattle.params.specs.Slice.{change}
use Rattle.status.specs.Limits.{max_files, max_rows, max_peptides, max_cells}
use Rattle.status.specs.Checks.{every}
use Rattle.status.specs.Status.{accepted, status_of}
use Rattle.rt_matrix.specs.Line.{lines}
use Rattle.rt_matrix.specs.Columns.{FileColumns, EachFrom, columns_of, first_of}
use Rattle.rt_matrix.specs.declared.Alignment.{Alignment}
use Rattle.rt_matrix.proofs.RecordColumns.{columns_long, from_less, first_written}
use Rattle.matrix.proofs.Lists.{length_tabulate}
use Rattle.retention_alignment.specs.Observation.{max_rts}
use Rattle.retention_alignment.specs.Alignments.{alignments, aligned}
use Rattle.retention_alignment.specs.Call.{
  Input,
  Slices,
  room_of,
  checks,
  status_by,
  status,
  told_by,
  rows,
  records_for,
  filled,
  slices_after,
  Aligned,
}
use Rattle.std.specs.Prelude.{⊤, Result, Ok, Err, is_err}
use Rattle.status.specs.declared.Refusal.{Refusal}
use Rattle.status.specs.Told.{Told, gives, only, told_for}
use Rattle.retention_alignment.proofs.Rows.{length_rows}
use Rattle.align_output.specs.Output.{printed_of, status_text, accepted_text}
use Rattle.align_output.proofs.PrintedColumns.{printed_columns, printed_back}
use Rattle.align_text.specs.AlignText.{alignment_text, columns_text, columns_status}
use Rattle.align_text.specs.Ready.{Ready}
use Rattle.align_text.proofs.Statuses.{columns_text_lem}

-- slices with room for any input within the limits
pub record Roomy (s : Slices) : Type 0 where
  pub workspace : 1024 ≤ length s.workspace
  pub records : EachFrom 16 s.records
  pub aligned : 256 ≤ length s.aligned

pub records_long : (i : Input) → length (records_for i) ≡ i.files
unfolding alignments lines max_rts
records_long i = length_tabulate _ _ ∙ length_tabulate _ _

-- ---- the number in the alignment's answer
told_number : (s : ℕ) (r : Result ⊤ Refusal) → told_by r ≡ told_for s (gives tt) → status_of r ≡ s
told_number s r h = told r ∙ ap (λ (t : Told (Unit {0})). t.status) h ∙ asked (eqb s accepted) refl
  where
    told : (r : Result ⊤ Refusal) → status_of r ≡ (told_by r).status
    told (Ok x) = refl
    told (Err e) = refl

    asked : (b : Bool) → eqb s accepted ≡ b → (cond b (gives {A = Unit {0}} tt) (only s)).status ≡ s
    asked true e = sym (eqb-true s accepted e)
    asked false e = refl

-- an answer that is no `Err` is that of an accepted call
pub not_refused : (r : Result ⊤ Refusal) → false ≡ is_err r → status_of r ≡ accepted
not_refused (Ok x) h = refl
not_refused (Err e) h = let z : ◌≡◌ {A = ℕ} 0 1 = cc in absurd (omega arith)

module _ (i : Input) (d : Ready i) where
  module _ (s : Slices) (room : Roomy s) where
    cells : i.peptides * i.files ≤ 1024
    cells = mul-le-mul d.peptides d.files

    lengths_agree_lem : (get_or (checks i (room_of s)) 0 (0, true)).1 ≡ true
    unfolding every
    lengths_agree_lem =
        simp (eq-eqb _ _ d.peptide, eq-eqb _ _ d.label, eq-eqb _ _ d.q, eq-eqb _ _ d.rt)

    within : (get_or (checks i (room_of s)) 1 (0, true)).1 ≡ true
    within =
        simp (
          le-leb 1 _ d.some_files,
          le-leb i.files max_files (omega (arith, d.files)),
          le-leb (length i.file) max_rows (omega (arith, d.rows)),
          le-leb i.peptides max_peptides (omega (arith, d.peptides)),
          le-leb (i.peptides * i.files) max_cells (omega (arith, cells)),
        )

    long : (get_or (checks i (room_of s)) 2 (0, true)).1 ≡ true
    long =
        simp (
          le-leb (i.peptides * i.files) (length s.workspace) (omega (arith, cells, room.workspace)),
          columns_long i.files s.records (from_less 16 i.files s.records d.files room.records),
          le-leb (length i.file) (length s.aligned) (omega (arith, d.rows, room.aligned)),
        )

    -- only the checks of the numbers are left
    status_is : status i s ≡ columns_status i
    unfolding status_by columns_status
    status_is = rw (lengths_agree_lem, within, long)

  module _ (s t : Slices) (r : Result ⊤ Refusal) (w : Aligned i (change s t) r) (room : Roomy s) where
    pub number_is : status_of r ≡ columns_status i
    number_is = told_number (status i s) r w.told ∙ status_is s room

    -- ---- an accepted one
    module _ (h : status_of r ≡ accepted) where
      passed : eqb (columns_status i) accepted ≡ true
      passed = eq-eqb (columns_status i) accepted (sym number_is ∙ h)

      text_is : columns_text i ≡ alignment_text i
      text_is = columns_text_lem i ∙ ap (λ (b : Bool). cond b (alignment_text i) (status_text (columns_status i))) passed

      after_is : t ≡ filled i s
      unfolding slices_after
      after_is =
          w.slices
          ∙ ap (λ (b : Bool). cond b (filled i s) s)
          (ap (λ (n : ℕ). eqb n accepted) (status_is s room) ∙ passed)

      times_long : length (map (aligned (records_for i)) (rows i)) ≡ length i.file
      times_long =
          length-map (rows i) (aligned (records_for i))
          ∙ length_rows i.file i.peptide i.rt d.peptide d.rt

      -- the outputs' first cells are the records' and the rows'
      cells_are : first_of i.files t.records ≡ columns_of (records_for i)
      unfolding filled
      cells_are =
          ap (λ (x : Slices). first_of i.files x.records) after_is
          ∙ first_written i.files s.records (records_for i) (records_long i)

      -- so there is one for each file
      counted : {A : Type 0} (get : Alignment → A) → length (map get (records_for i)) ≡ i.files
      counted get = length-map (records_for i) get ∙ records_long i

      pub max_rts_long : length (take i.files t.records.max_rt) ≡ i.files
      max_rts_long = ap (λ (c : FileColumns). length c.max_rt) cells_are ∙ counted (λ a. a.max_rt)

      pub slopes_long : length (take i.files t.records.slope) ≡ i.files
      slopes_long = ap (λ (c : FileColumns). length c.slope) cells_are ∙ counted (λ a. a.slope)

      pub intercepts_long : length (take i.files t.records.intercept) ≡ i.files
      intercepts_long = ap (λ (c : FileColumns). length c.intercept) cells_are ∙ counted (λ a. a.intercept)

      pub counts_long : length (take i.files t.records.used) ≡ i.files
      counts_long = ap (λ (c : FileColumns). length c.used) cells_are ∙ counted (λ a. a.used)

      records_are : printed_columns (first_of i.files t.records) ≡ map printed_of (records_for i)
      records_are = ap printed_columns cells_are ∙ printed_back (records_for i)

      times : take (length i.file) t.aligned ≡ map (aligned (records_for i)) (rows i)
      unfolding filled
      times =
          ap (λ (x : Slices). take (length i.file) x.aligned) after_is
          ∙ take_at (map (aligned (records_for i)) (rows i)) _ (length i.file) times_long

      -- what is written of the outputs is the definition's text
      pub accepted_is : accepted_text (printed_columns (first_of i.files t.records)) (take (length i.file) t.aligned) ≡ columns_text i
      unfolding alignment_text
      accepted_is = ap₂ accepted_text records_are times ∙ sym text_is
