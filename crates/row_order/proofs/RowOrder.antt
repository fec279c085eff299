-- Document 02's No. 9 for calls of `global_alignment` and for whole runs. What a call leaves is what the definitions
-- give for its rows (`Records`), and every check is one that the order of the rows doesn't move.
use mathlib.Core.Path.{◌≡◌, refl, sym, ap, ◌∙◌, subst₂}
use mathlib.Core.Bool.{true}
use mathlib.Core.List.Permᴰ
use mathlib.Core.List.{List, map, map-map}
use Prim.Native.Nat.{ℕ, zero, suc}
use native.Mathlib.Omega.{arith}
use lib.Dec.{eqb-suc-zero}
use lib.Ieee.{Float, nan}
use lib.ListN.{length, replicate, length-map, length-replicate}
use Rattle.status.specs.Checks.{every}
use Rattle.status.specs.Status.{accepted}
use Rattle.status.specs.Told.{Told, gives, told_for}
use Rattle.status.proofs.First.{passed_at_lem}
use Rattle.status.proofs.Told.{if_accepted_lem}
use Rattle.matrix.specs.Lists.{overwritten}
use Rattle.feature.specs.Feature.{Row, mask, kept, rows_from}
use Rattle.feature.proofs.Training.{Fields, Columns, fields_rows_from, mask_rows}
use Rattle.rt_matrix.specs.Columns.{columns_of, written_over}
use Rattle.rt_matrix.specs.declared.Alignment.{Alignment}
use Rattle.retention_alignment.specs.Observation.{Obs, observations, max_rts}
use Rattle.retention_alignment.specs.Alignments.{alignments, aligned}
use Rattle.std.specs.Prelude.{⊤, Result, Ok}
use Rattle.status.specs.declared.Refusal.{Refusal}
use Rattle.retention_alignment.specs.Call.{Input, Slices, Room, room_of, long_enough, checks, status_by, status, answer_of}
use Rattle.retention_alignment.specs.Call.{told_by, records_for, filled, slices_after}
use Rattle.retention_alignment.proofs.Calls.{passed}
use Rattle.run.specs.Fitted.{obs_of, longest, file_records, fitted}
use Rattle.run.specs.Call.{peptides as peptides_of}
use Rattle.run.proofs.Rows.{rows_observed, training_observed}
use Rattle.run.proofs.Parts.{targets}
use Rattle.edit_rule.specs.Ends.{End, passed_at}
use Rattle.edit_rule.proofs.Written.{wrote}
use Rattle.row_order.specs.Order.{Reordered, SameAlignment, passed_for, OfRows, AlignCall, batch_of, RowOrder}
use Rattle.row_order.specs.Order.{SortedDifferently, batch_at}
use Rattle.row_order.proofs.Reordering.{same_length, same_below}
use Rattle.row_order.proofs.Records.{records_by, time_by, Holds, same_alignment}

-- ---- a list of rows, as columns

module _ (files peptides : ℕ) (rs : List Row) where
  abbrev input : Input
  input = passed_for files peptides rs

  abbrev charges : List ℕ
  charges = map (λ (r : Row). r.charge) rs

  abbrev mobilities : List Float
  mobilities = map (λ (r : Row). r.mobility) rs

  fields : Fields rs input.file input.peptide input.label input.q input.rt charges mobilities
  fields =
      record {
        files_are = refl;
        peptides_are = refl;
        labels_are = refl;
        qs_are = refl;
        rts_are = refl;
        charges_are = refl;
        mobilities_are = refl;
      }

  observed_rows : observations input.file input.peptide input.rt ≡ map obs_of rs
  observed_rows =
      rows_observed rs input.file input.peptide input.label input.q input.rt charges mobilities
      fields (mask_rows rs)

  pub records_for_lem : records_for input ≡ records_by files peptides rs
  records_for_lem =
      let trained = kept (mask input.label input.q) (observations input.file input.peptide input.rt) in
      ap (λ (os : List Obs). alignments files peptides (max_rts files os) trained) observed_rows
      ∙ ap (alignments files peptides (longest files rs))
      (training_observed rs input.file input.peptide input.label input.q input.rt charges mobilities
      fields (mask_rows rs))

  pub times_for : map (aligned (records_for input)) (observations input.file input.peptide input.rt)
      ≡ map (time_by (records_by files peptides rs)) rs
  times_for =
      ap (map (aligned (records_for input))) observed_rows
      ∙ map-map (aligned (records_for input)) obs_of rs
      ∙ ap (λ (records : List Alignment). map (time_by records) rs) records_for_lem

-- ---- an accepted call

-- the number that an answer has to tell is the status
told_status : (n : ℕ) → (told_for n (gives (tt {0}))).status ≡ n
told_status zero = refl
told_status (suc n) = rw (eqb-suc-zero n)

module _ (files peptides : ℕ) (rs : List Row) (c : AlignCall files peptides rs) (h : c.answer ≡ Ok tt) where
  unrefused : status (input files peptides rs) c.before ≡ accepted
  unrefused =
      sym (told_status (status (input files peptides rs) c.before))
      ∙ sym (ap (λ (t : Told Unit). t.status) c.contract.told)
      ∙ ap (λ (r : Result ⊤ Refusal). (told_by r).status) h

  after_is : c.after ≡ filled (input files peptides rs) c.before
  unfolding slices_after
  after_is =
      let i = input files peptides rs in
      c.contract.slices ∙ if_accepted_lem (status i c.before) (filled i c.before) c.before unrefused

  call_holds : Holds files peptides (batch_of files peptides rs c)
  unfolding filled
  call_holds =
      record {
        held_records = c.before.records;
        records =
            ap (λ (s : Slices). s.records) after_is
            ∙ ap (λ (a : List Alignment). written_over (columns_of a) c.before.records)
            (records_for_lem files peptides rs);
        held_aligned = c.before.aligned;
        aligned =
            ap (λ (s : Slices). s.aligned) after_is
            ∙ ap (λ (l : List Float). overwritten l c.before.aligned) (times_for files peptides rs);
      }

-- ---- the checks of a reordering

module _ (files peptides : ℕ) (rs others : List Row) (r : Reordered rs others) where
  -- a column is as long
  as_long : {A : Type 0} (f : Row → A) → length (map f others) ≡ length (map f rs)
  as_long f = sym (same_length (Permᴰ.map f r))

  same_status : (room : Room)
      → status_by (passed_for files peptides others) room ≡ status_by (passed_for files peptides rs) room
  unfolding status_by
  same_status room =
      rw (
        as_long (λ (r : Row). r.file),
        as_long (λ (r : Row). r.peptide),
        as_long (λ (r : Row). r.label),
        as_long (λ (r : Row). r.q),
        as_long (λ (r : Row). r.rt),
        same_below (λ (r : Row). r.file) files r,
        same_below (λ (r : Row). r.peptide) peptides r,
      )

  -- of the checks only the third looks at the slices
  long_accepted : (room other : Room) → status_by (passed_for files peptides rs) room ≡ accepted
      → long_enough files peptides (length rs) other ≡ true → status_by (passed_for files peptides rs) other ≡ accepted
  unfolding status_by every
  long_accepted room other e l =
      let cs = checks (passed_for files peptides rs) room in
      rw (
        passed_at_lem cs 0 refl e (omega arith),
        passed_at_lem cs 1 refl e (omega arith),
        length-map rs (λ (r : Row). r.file),
        l,
        passed_at_lem cs 3 refl e (omega arith),
        passed_at_lem cs 4 refl e (omega arith),
      )

-- ---- the theorem

pub row_order : (files peptides : ℕ) (rs others : List Row) → Reordered rs others
    → (a : AlignCall files peptides rs) (b : AlignCall files peptides others) → RowOrder files peptides rs others a b
unfolding answer_of
row_order files peptides rs others r a b =
    let same = same_status files peptides rs others r (room_of b.before) in
    record {
      accepted_too = λ h l.
          b.contract.answer
          ∙ ap answer_of
          (same
          ∙ long_accepted files peptides rs others r (room_of a.before) (room_of b.before)
          (unrefused files peptides rs a h)
          (ap (λ (n : ℕ). long_enough files peptides n (room_of b.before)) (same_length r) ∙ l));
      same = λ h k.
          same_alignment files peptides (batch_of files peptides rs a) (batch_of files peptides others b)
          (call_holds files peptides rs a h) (call_holds files peptides others b k) r;
      answer = λ e.
          b.contract.answer
          ∙ ap answer_of (same ∙ ap (status_by (passed_for files peptides rs)) e)
          ∙ sym a.contract.answer;
    }

-- Every accepted call is one on a list of rows; the charges and the mobilities, which it isn't passed, may be any.
pub of_rows : (i : Input) (s : Slices) → status i s ≡ accepted → OfRows i
of_rows i s e =
    let p = passed i s e in
    let n : ℕ = length i.file in
    let zs : List ℕ = replicate n 0 in
    let ms : List Float = replicate n nan in
    let columns : Columns n i.file i.peptide i.label i.q i.rt zs ms =
    record {
      files_long = refl;
      peptides_long = p.peptide;
      labels_long = p.label;
      qs_long = p.q;
      rts_long = p.rt;
      charges_long = length-replicate n 0;
      mobilities_long = length-replicate n nan;
    } in
    let f = fields_rows_from n i.file i.peptide i.label i.q i.rt zs ms columns in
    record {
      rows = rows_from i.file i.peptide i.label i.q i.rt zs ms;
      passed = λ k.
          record {
            file = sym f.files_are k;
            peptide = sym f.peptides_are k;
            label = sym f.labels_are k;
            q = sym f.qs_are k;
            rt = sym f.rts_are k;
            files = i.files;
            peptides = i.peptides;
          };
    }

-- ---- whole runs

run_holds : (e : End) → Holds (passed_at e).files (peptides_of (passed_at e)) (batch_at e)
unfolding fitted file_records
run_holds e =
    let w = wrote e in
    record {
      held_records = w.held_records;
      records = w.records;
      held_aligned = w.held_aligned;
      aligned =
          w.aligned
          ∙ ap (λ (l : List Float). overwritten l w.held_aligned) (targets (passed_at e) w.columns);
    }

pub run_order : (a b : End) → SortedDifferently (passed_at a) (passed_at b)
    → SameAlignment (passed_at a).files (batch_at a) (batch_at b)
run_order a b s =
    same_alignment (passed_at a).files (peptides_of (passed_at a)) (batch_at a) (batch_at b) (run_holds a)
    (subst₂ (λ (m n : ℕ). Holds m n (batch_at b)) s.files s.peptides (run_holds b))
    s.rows
