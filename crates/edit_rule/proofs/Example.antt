-- What is supposed can be met. Every accepted call of `run` is an end, and so are three accepted calls. A host finds a
-- peptide and then adds a decoy with another, whose number is smaller: the table has one more, the training row's
-- peptide gets another number, and by computation all that the rule supposes holds. The first end is one call, the
-- second three, with workspaces of 2, 7,314 and 15,251 cells.
use mathlib.Core.Path.{◌≡◌, refl, sym, ap, ◌∙◌}
use mathlib.Core.Bool.{true, cond}
use mathlib.Core.List.{List, [], ◌∷◌, map, head_d}
use Prim.Native.Nat.{ℕ, zero, suc, ◌<◌}
use native.Mathlib.Omega.{arith}
use lib.Dec.{eqb}
use lib.IntN.{pos, negsuc}
use lib.Ieee.{Float, of_bits, le}
use lib.ListN.{length, take, get_or, replicate}
use Rattle.status.specs.Checks.{every}
use Rattle.status.specs.Status.{accepted}
use Rattle.status.specs.Told.{if_accepted, gives, told_for}
use Rattle.float.specs.Number.{zero64, one64}
use Rattle.float.specs.Convert.{ceiling}
use Rattle.matrix.specs.Lists.{tabulate}
use Rattle.feature.specs.Feature.{Row, trains, outside, rows_from}
use Rattle.edits.specs.Edits.{add_row, remove_row, edited_by, touch_only}
use Rattle.peptide.specs.Table.{Table, climbs, offsets_right}
use Rattle.embedding.specs.Count.{how_many, one_of}
use Rattle.embedding.specs.declared.Model.{Model}
use Rattle.embedding.specs.declared.Model.TheVariants.{Retention, Mobility}
use Rattle.rt_matrix.specs.Columns.{FileColumns}
use Rattle.retention_alignment.specs.Observation.{observations, max_rt, max_rts}
use Rattle.retention_alignment.specs.Call.{Input as AlignInput, Slices as AlignSlices, Aligned, status as align_status}
use Rattle.retention_alignment.specs.Call.{status_by as align_status_by, answer_of as align_answer, told_by as align_told}
use Rattle.retention_alignment.specs.Call.{filled as align_filled, slices_after as align_after}
use Rattle.model_fit.specs.Input.{Input as ModelInput, columns_agree, status_by as model_status_by}
use Rattle.models.specs.Call.{ModelOutputs, PredictSlices, predict_status, predict_filled}
use Rattle.models.specs.Call.{predict_outcome, predict_outcome_told}
use Rattle.models.specs.Call.{answer_of as predict_answer_of, told_by as predict_told_by}
use Rattle.run.specs.Fitted.{of_retention, of_mobility}
use Rattle.run.specs.Call.{Input, Slices, predict_outcome_of, fits_told, answer_of, told_by, slices_after, status_by, status}
use Rattle.run.specs.Parts.{align_input, retention_input, mobility_input}
use Rattle.edit_rule.specs.Ends.{AcceptedCall, RunEnd, AcceptedPredict, CallsEnd, of_run, of_calls, shown}
use Rattle.edit_rule.specs.EditsOutside.{EditedOutside, Unmoved}
use Rattle.edit_rule.specs.Peptides.{Peptide, peptide_at, renumbered, PutIn, PeptidesUnmoved}
use Rattle.edit_rule.specs.Host.{rising, HostEnd, HostEdited, HostUnmoved}
use Rattle.edit_rule.proofs.Peptides.{put_in_unmoved}
use Rattle.edit_rule.proofs.EditsOutside.{edits_outside}
use Rattle.edit_rule.proofs.Host.{host_unmoved}

-- ---- for every input and all slices that are accepted there is an end

pub run_for : (i : Input) (s : Slices) → status i s ≡ accepted → RunEnd
unfolding answer_of
run_for i s h =
    let t = gives (fits_told (predict_outcome_of of_retention i) (predict_outcome_of of_mobility i)) in
    record {
      input = i;
      call =
          record {
            before = s;
            after = slices_after i s;
            answer = answer_of (status i s) i;
            contract =
                record {
                  answer = refl;
                  told = ap (λ (n : ℕ). told_by (answer_of n i)) h ∙ sym (ap (λ (n : ℕ). told_for n t) h);
                  slices = refl;
                };
            unrefused = h;
          };
    }

align_for : (i : AlignInput) (s : AlignSlices) → align_status i s ≡ accepted
    → AcceptedCall (Aligned i) (align_status i)
unfolding align_answer
align_for i s h =
    record {
      before = s;
      after = align_after i s;
      answer = align_answer (align_status i s);
      contract =
          record {
            answer = refl;
            told = ap (λ (n : ℕ). align_told (align_answer n)) h ∙ sym (ap (λ (n : ℕ). told_for n (gives tt)) h);
            slices = refl;
          };
      unrefused = h;
    }

predict_for : (model : Model) (i : ModelInput) (s : PredictSlices) → predict_status model i s ≡ accepted
    → AcceptedPredict model i
predict_for model i s h =
    let p = predict_outcome model i in
    record {
      before = s;
      after = if_accepted (predict_status model i s) (predict_filled model i s) s;
      answer = predict_answer_of (predict_status model i s) p;
      contract =
          record {
            answer = refl;
            told =
                ap (λ (n : ℕ). predict_told_by predict_outcome_told (predict_answer_of n p)) h
                ∙ sym (ap (λ (n : ℕ). told_for n (predict_outcome_told p)) h);
            slices = refl;
          };
      unrefused = h;
    }

-- the aligned times that the alignment writes
abbrev written : Input → AlignSlices → List Float
written i s = take (length i.file) (align_after (align_input i) s).aligned

pub calls_for : (i : Input) (s : AlignSlices) (r m : PredictSlices)
    → align_status (align_input i) s ≡ accepted
    → predict_status Retention (retention_input i (written i s)) r ≡ accepted
    → predict_status Mobility (mobility_input i) m ≡ accepted
    → CallsEnd
unfolding align_for
calls_for i s r m h k l =
    record {
      input = i;
      alignment = align_for (align_input i) s h;
      retention = predict_for Retention (retention_input i (written i s)) r k;
      mobility = predict_for Mobility (mobility_input i) m l;
    }

-- ---- a host's rows

-- AK under the number 7, GR under every other
abbrev pub host : ℕ → Peptide
host n =
    cond (eqb n 7)
    (record { letters = 65 ∷ 75 ∷ []; mass = one64; log = one64 })
    (record { letters = 71 ∷ 82 ∷ []; mass = zero64; log = zero64 })

-- a training row with the peptide 7, and a decoy with the peptide 3
abbrev known : Row
known = record { file = 0; peptide = 7; label = pos 1; q = zero64; rt = one64; charge = 2; mobility = one64 }

abbrev decoy : Row
decoy = record { file = 0; peptide = 3; label = negsuc 0; q = zero64; rt = one64; charge = 2; mobility = one64 }

-- the tables of the peptide 7 alone, and of both
abbrev alone : Table
alone = record { letters = 65 ∷ 75 ∷ []; offsets = 0 ∷ 2 ∷ []; masses = one64 ∷ []; logs = one64 ∷ [] }

abbrev both : Table
both =
    record {
      letters = 71 ∷ 82 ∷ 65 ∷ 75 ∷ [];
      offsets = 0 ∷ 2 ∷ 4 ∷ [];
      masses = zero64 ∷ one64 ∷ [];
      logs = zero64 ∷ one64 ∷ [];
    }

-- rows with the places of their peptides in a table, passed
abbrev passing : List Row → Table → Input
passing rs table =
    record {
      file = map (λ (r : Row). r.file) rs;
      peptide = map (λ (r : Row). r.peptide) rs;
      label = map (λ (r : Row). r.label) rs;
      q = map (λ (r : Row). r.q) rs;
      rt = map (λ (r : Row). r.rt) rs;
      charge = map (λ (r : Row). r.charge) rs;
      mobility = map (λ (r : Row). r.mobility) rs;
      files = 1;
      table = table;
    }

abbrev at : ℕ → Row → Row
at place r = renumbered (λ p. place) r

-- without the decoy; with it; and without it in the table of both
abbrev without : Input
without = passing (at 0 known ∷ []) alone

abbrev with_decoy : Input
with_decoy = passing (at 0 decoy ∷ at 1 known ∷ []) both

abbrev decoy_gone : Input
decoy_gone = passing (at 1 known ∷ []) both

-- ---- slices that are accepted

abbrev hundred : List Float
hundred = replicate 100 zero64

abbrev outputs : ModelOutputs
outputs = record { coefficients = hundred; predicted = hundred; error = hundred }

abbrev records : FileColumns
records =
    let flags = replicate 100 true in
    record {
      max_rt = hundred;
      slope = hundred;
      intercept = hundred;
      used = replicate 100 0;
      max_rt_exact = flags;
      slope_exact = flags;
      intercept_exact = flags;
    }

abbrev slices : Slices
slices =
    record {
      workspace = replicate 15250 zero64;
      records = records;
      aligned = hundred;
      retention = outputs;
      mobility = outputs;
    }

abbrev align_slices : AlignSlices
align_slices = record { workspace = replicate 2 zero64; records = records; aligned = hundred }

abbrev model_slices : ℕ → PredictSlices
model_slices cells = record { workspace = replicate cells zero64; outputs = outputs }

accepts_without : status without slices ≡ accepted
unfolding status_by every offsets_right climbs
accepts_without = refl

accepts_gone : status decoy_gone slices ≡ accepted
unfolding status_by every offsets_right climbs
accepts_gone = refl

accepts_align : align_status (align_input with_decoy) align_slices ≡ accepted
unfolding align_status_by every
accepts_align = refl

accepts_retention : predict_status Retention (retention_input with_decoy (written with_decoy align_slices))
    (model_slices 7314)
    ≡ accepted
unfolding model_status_by columns_agree every offsets_right climbs align_after align_status_by align_filled observations
accepts_retention = refl

accepts_mobility : predict_status Mobility (mobility_input with_decoy) (model_slices 15251) ≡ accepted
unfolding model_status_by columns_agree every offsets_right climbs
accepts_mobility = refl

pub run_without : RunEnd
run_without = run_for without slices accepts_without

pub run_gone : RunEnd
run_gone = run_for decoy_gone slices accepts_gone

pub calls_with : CallsEnd
calls_with =
    calls_for with_decoy align_slices (model_slices 7314) (model_slices 15251)
    accepts_align accepts_retention accepts_mobility

-- ---- the host adds the decoy

pub first : HostEnd host
unfolding run_without run_for rows_from head_d how_many one_of every rising
first =
    record {
      found = known ∷ [];
      numbers = 7 ∷ [];
      sorted = refl;
      listed = refl;
      end = of_run run_without;
      placed = refl;
      table = says;
    }
  where
    says : (k : ℕ) → k < 1 → peptide_at alone k ≡ host (get_or (7 ∷ []) k 0)
    says zero l = refl
    says (suc k) l = absurd (omega arith)

pub second : HostEnd host
unfolding calls_with calls_for rows_from head_d how_many one_of every rising
second =
    record {
      found = decoy ∷ known ∷ [];
      numbers = 3 ∷ 7 ∷ [];
      sorted = refl;
      listed = refl;
      end = of_calls calls_with;
      placed = refl;
      table = says;
    }
  where
    says : (k : ℕ) → k < 2 → peptide_at both k ≡ host (get_or (3 ∷ 7 ∷ []) k 0)
    says zero l = refl
    says (suc zero) l = refl
    says (suc (suc k)) l = absurd (omega arith)

decoy_outside : touch_only outside (add_row 0 decoy ∷ []) (known ∷ []) ≡ true
unfolding touch_only trains le of_bits
decoy_outside = refl

decoy_added : HostEdited first second
unfolding first second run_without run_for calls_with calls_for edited_by max_rts max_rt tabulate ceiling of_bits
decoy_added =
    record {
      edits = add_row 0 decoy ∷ [];
      edited = refl;
      outside = decoy_outside;
      longest_times = record { files = refl; longests = refl };
    }

pub decoy_moves_nothing : HostUnmoved first second
decoy_moves_nothing = host_unmoved host first second decoy_added

-- ---- the decoy's peptide is put in, at the number 0

decoy_put_in : PutIn without with_decoy
unfolding rows_from head_d edited_by touch_only trains le of_bits max_rts max_rt tabulate ceiling
decoy_put_in =
    record {
      number = suc;
      rises = λ p q l h. omega arith;
      kept = says;
      edits = add_row 0 (at 0 decoy) ∷ [];
      edited = refl;
      outside = refl;
      longest_times = record { files = refl; longests = refl };
    }
  where
    says : (p : ℕ) → p < 1 → peptide_at both (suc p) ≡ peptide_at alone p
    says zero l = refl
    says (suc p) l = absurd (omega arith)

pub put_in_moves_nothing : PeptidesUnmoved (shown (of_run run_without)) (shown (of_calls calls_with))
unfolding run_without run_for calls_with calls_for
put_in_moves_nothing = put_in_unmoved (of_run run_without) (of_calls calls_with) decoy_put_in

-- ---- the decoy goes, and the table stays

decoy_removed : EditedOutside with_decoy decoy_gone
unfolding rows_from head_d edited_by touch_only trains le of_bits max_rts max_rt tabulate ceiling
decoy_removed =
    record {
      edits = remove_row 0 ∷ [];
      edited = refl;
      outside = refl;
      longest_times = record { files = refl; longests = refl };
      table = refl;
    }

pub decoy_gone_moves_nothing : Unmoved (shown (of_calls calls_with)) (shown (of_run run_gone))
unfolding run_gone run_for calls_with calls_for
decoy_gone_moves_nothing = edits_outside (of_calls calls_with) (of_run run_gone) decoy_removed
