-- What a status says of a call, and the contract of a refused and of an accepted one.
use mathlib.Core.Path.{◌≡◌, refl, ap, ◌∙◌}
use mathlib.Core.Bool.{Bool, true, false, cond, ◌&&◌}
use mathlib.Core.List.{[], ◌∷◌}
use Prim.Native.Nat.{ℕ, ◌*◌, ◌≤◌, ◌<◌}
use native.Mathlib.Omega.{arith}
use lib.Dec.{eqb, leb}
use lib.ListN.{length, get_or}
use borrow.Author.Tests.{leb-true, eq-eqb, eqb-true}
use Rattle.params.specs.Slice.{change}
use Rattle.status.specs.Checks.{every, all_below, lengths_agree}
use Rattle.std.specs.Prelude.{⊤, Result, Ok, Err}
use Rattle.status.specs.Limits.{within_limits}
use Rattle.status.specs.Status.{accepted, bad_lengths, past_limit, too_short, bad_file, bad_peptide}
use Rattle.status.specs.Status.{first_failing, refusal_by, checked}
use Rattle.status.specs.Told.{gives, told_for}
use Rattle.status.specs.declared.Refusal.{Refusal}
use Rattle.status.proofs.Laws.{Limits, limits, length_at, and_true}
use Rattle.status.proofs.First.{passed_at_lem}
use Rattle.rt_matrix.specs.Columns.{EachFrom, file_room, each_long}
use Rattle.rt_matrix.proofs.RecordColumns.{long_columns}
use Rattle.retention_alignment.specs.Call.{Input, Slices, room_of, long_enough, checks, status_by, status, answer_of, told_by, slices_after, Filled, Aligned}

-- ---- an input that passed the checks

pub record Passed (i : Input) (s : Slices) : Type 0 where
  pub peptide : length i.peptide ≡ length i.file
  pub label : length i.label ≡ length i.file
  pub q : length i.q ≡ length i.file
  pub rt : length i.rt ≡ length i.file
  pub within : Limits i.files (length i.file) i.peptides
  pub workspace : i.peptides * i.files ≤ length s.workspace
  pub records : EachFrom i.files s.records
  pub aligned : length i.file ≤ length s.aligned
  pub file_numbers : all_below i.files i.file ≡ true
  pub peptide_numbers : all_below i.peptides i.peptide ≡ true

module _ (i : Input) (s : Slices) (accept : status i s ≡ accepted) where
  check_at : (k : ℕ) → k < 5 → (get_or (checks i (room_of s)) k (0, true)).1 ≡ true
  unfolding status_by every
  check_at k h = passed_at_lem (checks i (room_of s)) k refl accept h

  pub passed : Passed i s
  passed =
      let n : ℕ = length i.file in
      let lengths = length i.peptide ∷ length i.label ∷ length i.q ∷ length i.rt ∷ [] in
      let one = check_at 0 (omega arith) in
      let cells : Bool = leb (i.peptides * i.files) (length s.workspace) in
      let columns : Bool = each_long i.files (file_room s.records) in
      let three = and_true (cells && columns) (leb n (length s.aligned)) (check_at 2 (omega arith)) in
      let two = and_true cells columns three.0 in
      record {
        peptide = length_at n lengths 0 one (omega arith);
        label = length_at n lengths 1 one (omega arith);
        q = length_at n lengths 2 one (omega arith);
        rt = length_at n lengths 3 one (omega arith);
        within = limits i.files n i.peptides (check_at 1 (omega arith));
        workspace = leb-true (i.peptides * i.files) (length s.workspace) two.0;
        records = long_columns i.files s.records two.1;
        aligned = leb-true n (length s.aligned) three.1;
        file_numbers = check_at 3 (omega arith);
        peptide_numbers = check_at 4 (omega arith);
      }

-- ---- the contract

-- what the checks answer tells their status
told_checks : (a b c d e : Bool)
    → let n =
    first_failing
    ((bad_lengths, a) ∷ (past_limit, b) ∷ (too_short, c) ∷ (bad_file, d) ∷ (bad_peptide, e) ∷ []) in
    told_by (checked n) ≡ told_for n (gives tt)
told_checks false b c d e = refl
told_checks true false c d e = refl
told_checks true true false d e = refl
told_checks true true true false e = refl
told_checks true true true true false = refl
told_checks true true true true true = refl

-- the checks' answer and their status
abbrev ok : Result ⊤ Refusal
ok = Ok tt

refused_status : {r : Refusal} (n : ℕ) → Err r ≡ checked n → eqb n accepted ≡ false
refused_status n e = go (eqb n accepted) e
  where
    go : {r : Refusal} (b : Bool) → Err r ≡ cond b ok (Err (refusal_by n)) → b ≡ false
    go true e = cc
    go false e = refl

pub accepted_status : (n : ℕ) → ok ≡ checked n → n ≡ accepted
accepted_status n e = eqb-true n accepted (go (eqb n accepted) e)
  where
    go : (b : Bool) → ok ≡ cond b ok (Err (refusal_by n)) → b ≡ true
    go true e = refl
    go false e = cc

-- a refused call
pub refused : (i : Input) (s : Slices) (r : Refusal) → Err r ≡ checked (status i s) → Aligned i (change s s) (Err r)
unfolding answer_of slices_after status_by
refused i s r e =
    let rows : ℕ = length i.file in
    record {
      answer = e;
      told =
          ap told_by e
          ∙ told_checks (lengths_agree rows (length i.peptide ∷ length i.label ∷ length i.q ∷ length i.rt ∷ []))
          (within_limits i.files rows i.peptides) (long_enough i.files i.peptides rows (room_of s))
          (all_below i.files i.file) (all_below i.peptides i.peptide);
      slices = rw (refused_status (status i s) e) refl;
    }

-- an accepted call
pub accepted_is : (i : Input) (s t : Slices) → status i s ≡ accepted → Filled i (change s t)
    → Aligned i (change s t) (Ok tt)
unfolding answer_of slices_after
accepted_is i s t e f =
    let test : eqb (status i s) accepted ≡ true = eq-eqb (status i s) 0 e in
    record { answer = simp test; told = simp test; slices = rw test f.slices }
