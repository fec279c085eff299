-- What an accepted run leaves, from what its three parts promise.
use mathlib.Core.Path.{◌≡◌, refl, sym, ap, ◌∙◌}
use mathlib.Core.Bool.{Bool, true, false, cond}
use mathlib.Core.List.{List, [], ◌++◌, map, zip_with, append_assoc}
use Prim.Native.Nat.{ℕ, ◌+◌, ◌-◌, ◌*◌, ◌≤◌, max}
use native.Mathlib.Decide.{dec_le}
use native.Mathlib.Nat.{lt_of_not-le}
use native.Mathlib.Omega.{arith}
use lib.Dec.{eqb}
use lib.Ieee.{Float}
use lib.ListN.{length, take, drop, replicate, length-map, length-replicate, replicate-append-replicate}
use lib.Seq.{take_at, drop_at, length-take-le, drop-append-add, drop-drop}
use borrow.Author.Tests.{eq-eqb, ne_eqb}
use Rattle.std.specs.Prelude.{Result, Ok, Err}
use Rattle.params.specs.Slice.{change}
use Rattle.status.specs.Checks.{every}
use Rattle.status.specs.Status.{accepted, checked}
use Rattle.status.specs.declared.Refusal.{Refusal}
use Rattle.status.specs.Told.{only}
use Rattle.float.specs.Number.{zero64}
use Rattle.matrix.specs.Lists.{overwritten}
use Rattle.feature.specs.Feature.{Row, training}
use Rattle.retention_alignment.specs.Call.{Input as AlignInput, Slices as AlignSlices, Filled as AlignFilled}
use Rattle.retention_alignment.proofs.Calls.{accepted_is}
use Rattle.embedding.specs.Design.{order_of}
use Rattle.embedding.specs.declared.Model.TheVariants.{Retention, Mobility}
use Rattle.regression.specs.Regression.{Fitting, fit_of}
use Rattle.regression.specs.Workspace.{workspace_cells}
use Rattle.model_fit.specs.Input.{Input as ModelInput, Query, queries, columns_agree as model_columns}
use Rattle.model_fit.specs.Samples.{fit_of_input}
use Rattle.model_fit.specs.Shared.{Checked}
use Rattle.model_fit.proofs.Status.{accepted_checked, accepted_room}
use Rattle.models.specs.Prediction.{predictions, errors, error_of, is_solved, prediction_of, inexact, inexact_in}
use Rattle.models.specs.Call.{ModelOutputs, PredictSlices, PredictCall, PredictedWithin, predict_room_in, predict_status}
use Rattle.models.specs.declared.PredictOutcome.{PredictOutcome}
use Rattle.models.proofs.Calls.{predict_accepted, refused_by}
use Rattle.run.specs.Fitted.{RowOutcome, of_retention, of_mobility, row_query, target, fitted, outcome}
use Rattle.run.specs.Call.{model_room, room_of}
use Rattle.run.specs.Call.{Input, Slices, rows, peptides, fitted_by, outcomes, errors_of, inexact_of}
use Rattle.run.specs.Call.{answer_of, told_by, filled, Filled, slices_after, RunCall, status}
use Rattle.run.specs.Parts.{align_input, retention_input, mobility_input}
use Rattle.run.specs.declared.Ran.{Ran}
use Rattle.run.proofs.CheckLaws.{refused_number}
use Rattle.run.proofs.Rows.{retention_queries, mobility_queries, samples_of, mobility_samples}
use Rattle.run.proofs.Rows.{
  mobility_predictions,
  mobility_counts,
  predictions_for,
  predictions_written,
  errors_written,
}
use Rattle.run.proofs.Accepted.{ColumnsIn, Passed, align_accepts, model_accepts, model_room_lem}
use Rattle.run.proofs.Parts.{fields, marks, targets, AlignPart, align_part, ModelPart, model_part}

-- ---- cells that are zeroed twice

module _ {A : Type 0} (z : A) (a b : ℕ) (ws : List A) where
  more : b ≤ a → replicate a z ++ drop a (replicate b z ++ drop b ws) ≡ replicate a z ++ drop a ws
  more h =
      let n : length (replicate b z) ≡ b = length-replicate b z in
      ap (λ (t : List A). replicate a z ++ t)
      (ap (λ (k : ℕ). drop k (replicate b z ++ drop b ws)) {x = a} {y = length (replicate b z) + (a - b)} (omega arith)
      ∙ drop-append-add (replicate b z) (drop b ws) (a - b)
      ∙ drop-drop (a - b) b ws
      ∙ ap (λ (k : ℕ). drop k ws) {x = b + (a - b)} {y = a} (omega arith))

  fewer : a ≤ b → replicate a z ++ drop a (replicate b z ++ drop b ws) ≡ replicate b z ++ drop b ws
  fewer h =
      let e : replicate b z ≡ replicate a z ++ replicate (b - a) z =
      ap (λ (k : ℕ). replicate k z) {x = b} {y = a + (b - a)} (omega arith)
      ∙ sym (replicate-append-replicate a (b - a) z) in
      let d : drop a (replicate b z ++ drop b ws) ≡ replicate (b - a) z ++ drop b ws =
      ap (λ (t : List A). drop a (t ++ drop b ws)) e
      ∙ ap (drop a) (append_assoc (replicate a z) (replicate (b - a) z) (drop b ws))
      ∙ drop_at (replicate a z) (replicate (b - a) z ++ drop b ws) a (length-replicate a z) in
      ap (λ (t : List A). replicate a z ++ t) d
      ∙ sym (append_assoc (replicate a z) (replicate (b - a) z) (drop b ws))
      ∙ ap (λ (t : List A). t ++ drop b ws) (sym e)

  zeroed_twice : overwritten (replicate a z) (overwritten (replicate b z) ws)
      ≡ overwritten (replicate (max a b) z) ws
  zeroed_twice = rw (length-replicate a z, length-replicate b z, length-replicate (max a b) z) (by (dec_le a b))
    where
      by : Dec (a ≤ b)
          → replicate a z ++ drop a (replicate b z ++ drop b ws) ≡ replicate (max a b) z ++ drop (max a b) ws
      by (yes h) = fewer h ∙ ap (λ (k : ℕ). replicate k z ++ drop k ws) {x = b} {y = max a b} (omega arith)
      by (no h) =
          let g = lt_of_not-le h in
          more (omega arith) ∙ ap (λ (k : ℕ). replicate k z ++ drop k ws) {x = a} {y = max a b} (omega arith)

-- ---- the models' parts

module _ (i : Input) (k : ColumnsIn i) where
  row_count : length (rows i) ≡ length i.file
  row_count = sym (length-map (rows i) (λ (r : Row). r.file)) ∙ ap length (fields i k).files_are

  -- the aligned times that the alignment wrote are retention's targets
  pub targets_written : (s t : AlignSlices) → AlignPart i s t
      → take (length i.file) t.aligned ≡ map (target Retention (fitted_by i).records) (rows i)
  targets_written s t a =
      let n : length (map (λ (o : RowOutcome). o.aligned) (outcomes i)) ≡ length i.file =
      length-map (outcomes i) (λ (o : RowOutcome). o.aligned)
      ∙ length-map (rows i) (outcome i.table (fitted_by i))
      ∙ row_count in
      ap (take (length i.file)) a.aligned ∙ take_at _ _ (length i.file) n ∙ targets i k

  queries_of_retention : queries i.peptide [] ≡ map (row_query Retention) (rows i)
  queries_of_retention =
      retention_queries
      (rows i) i.file i.peptide i.label i.q i.rt i.charge i.mobility (fields i k) (marks i k)

  queries_of_mobility : queries i.peptide i.charge ≡ map (row_query Mobility) (rows i)
  queries_of_mobility =
      mobility_queries
      (rows i) i.file i.peptide i.label i.q i.rt i.charge i.mobility (fields i k) (marks i k)

  module _ (observed : List Float) (o : observed ≡ map (target Retention (fitted_by i).records) (rows i)) where
    retention_fit : fit_of_input Retention (retention_input i observed) ≡ (fitted_by i).retention
    unfolding fitted
    retention_fit =
        ap (fit_of (order_of Retention))
        (samples_of
        (rows i) i.file i.peptide i.label i.q i.rt i.charge i.mobility
        (fields i k) (marks i k)
        Retention i.table (fitted_by i).records [] observed queries_of_retention o)

    retention_predictions : predictions Retention (retention_input i observed)
        ≡ predictions_for of_retention i.table (fitted_by i) (rows i)
    retention_predictions =
        let beta = (fitted_by i).retention.coefficients in
        let solved = is_solved (fitted_by i).retention.outcome in
        ap (λ (x : Fitting).
        cond (is_solved x.outcome)
        (map (prediction_of Retention i.table x.coefficients) (queries i.peptide [])) [])
        retention_fit
        ∙ ap
        (λ (x : List Query). cond solved (map (prediction_of Retention i.table beta) x) []) queries_of_retention

    retention_errors : errors Retention (retention_input i observed) ≡ errors_of of_retention i
    retention_errors =
        let predicted = predictions_for of_retention i.table (fitted_by i) (rows i) in
        ap (zip_with error_of observed) retention_predictions
        ∙ ap (λ (x : List Float). zip_with error_of x predicted) o
        ∙ errors_written of_retention i.table (fitted_by i) (rows i)

    retention_inexact : inexact Retention (retention_input i observed) ≡ inexact_of of_retention i
    retention_inexact =
        let beta = (fitted_by i).retention.coefficients in
        let solved = is_solved (fitted_by i).retention.outcome in
        ap (λ (x : Fitting).
        cond (is_solved x.outcome) (inexact_in Retention i.table x.coefficients (queries i.peptide [])) 0)
        retention_fit
        ∙ ap (λ (x : List Query). cond solved (inexact_in Retention i.table beta x) 0) queries_of_retention

    -- an accepted call on such times
    pub retention_part : (s t : PredictSlices) (r : Result PredictOutcome Refusal)
        → predict_status Retention (retention_input i observed) s ≡ accepted
        → PredictCall Retention (retention_input i observed) (change s t) r → ModelPart of_retention i s t r
    retention_part s t r accept c =
        model_part of_retention i (retention_input i observed) s t r accept retention_fit
        (retention_predictions ∙ predictions_written of_retention i.table (fitted_by i) (rows i))
        retention_errors retention_inexact c

  mobility_fit : fit_of_input Mobility (mobility_input i) ≡ (fitted_by i).mobility
  unfolding fitted
  mobility_fit =
      let f = fields i k in
      ap (fit_of (order_of Mobility))
      (samples_of
      (rows i) i.file i.peptide i.label i.q i.rt i.charge i.mobility f (marks i k)
      Mobility (mobility_input i).table (fitted_by i).records i.charge i.mobility
      queries_of_mobility (sym f.mobilities_are)
      ∙ mobility_samples i.table.letters i.table.offsets i.table.masses i.table.logs
      (fitted_by i).records (training (rows i)))

  mobility_predicted : predictions Mobility (mobility_input i)
      ≡ predictions_for of_mobility i.table (fitted_by i) (rows i)
  mobility_predicted =
      let beta = (fitted_by i).mobility.coefficients in
      let solved = is_solved (fitted_by i).mobility.outcome in
      let asked = queries i.peptide i.charge in
      ap (λ (x : Fitting).
      cond (is_solved x.outcome) (map (prediction_of Mobility (mobility_input i).table x.coefficients) asked) [])
      mobility_fit
      ∙ ap (λ (x : List Float). cond solved x [])
      (mobility_predictions i.table.letters i.table.offsets i.table.masses i.table.logs beta asked)
      ∙ ap (λ (x : List Query). cond solved (map (prediction_of Mobility i.table beta) x) []) queries_of_mobility

  mobility_errors : errors Mobility (mobility_input i) ≡ errors_of of_mobility i
  mobility_errors =
      let predicted = predictions_for of_mobility i.table (fitted_by i) (rows i) in
      ap (zip_with error_of i.mobility) mobility_predicted
      ∙ ap (λ (x : List Float). zip_with error_of x predicted) (sym (fields i k).mobilities_are)
      ∙ errors_written of_mobility i.table (fitted_by i) (rows i)

  mobility_inexact : inexact Mobility (mobility_input i) ≡ inexact_of of_mobility i
  mobility_inexact =
      let beta = (fitted_by i).mobility.coefficients in
      let solved = is_solved (fitted_by i).mobility.outcome in
      let asked = queries i.peptide i.charge in
      ap (λ (x : Fitting).
      cond (is_solved x.outcome) (inexact_in Mobility (mobility_input i).table x.coefficients asked) 0)
      mobility_fit
      ∙ ap (λ (n : ℕ). cond solved n 0)
      (mobility_counts i.table.letters i.table.offsets i.table.masses i.table.logs beta asked)
      ∙ ap (λ (x : List Query). cond solved (inexact_in Mobility i.table beta x) 0) queries_of_mobility

  pub mobility_part : (s t : PredictSlices) (r : Result PredictOutcome Refusal)
      → predict_status Mobility (mobility_input i) s ≡ accepted
      → PredictCall Mobility (mobility_input i) (change s t) r → ModelPart of_mobility i s t r
  mobility_part s t r accept c =
      model_part of_mobility i (mobility_input i) s t r accept mobility_fit
      (mobility_predicted ∙ predictions_written of_mobility i.table (fitted_by i) (rows i))
      mobility_errors mobility_inexact c

-- ---- the models accept

-- predictions that are answered alike are alike
same_outcome : (a b : PredictOutcome) → ◌≡◌ {A = Result PredictOutcome Refusal} (Ok a) (Ok b) → a ≡ b
same_outcome a b e = cc

module _ (i : Input) (s : Slices) (p : Passed i (room_of s)) where
  -- the slices that they get, with the workspace as it then is
  abbrev retention_slices : (workspace : List Float) → PredictSlices
  retention_slices workspace = record { workspace = workspace; outputs = s.retention }

  abbrev mobility_slices : (workspace : List Float) → PredictSlices
  mobility_slices workspace = record { workspace = workspace; outputs = s.mobility }

  retention_accepts : (observed ws : List Float) → length observed ≡ length i.file
      → length ws ≡ length s.workspace
      → predict_status Retention (retention_input i observed) (retention_slices ws) ≡ accepted
  unfolding model_columns every
  retention_accepts observed ws e w =
      let k = p.columns in
      let n = sym k.peptides_long in
      model_accepts i (room_of s) p Retention (retention_input i observed) _ refl refl refl refl
      (rw (
        eq-eqb (length i.label) (length i.peptide) (k.labels_long ∙ n),
        eq-eqb (length i.q) (length i.peptide) (k.qs_long ∙ n),
        eq-eqb (length observed) (length i.peptide) (e ∙ n),
        eq-eqb (length i.table.logs) (length i.table.masses) p.logs,
      )
      refl)
      (model_room_lem Retention (length i.peptide) (length ws) (model_room s.retention) (rw n at p.long.retention)
      (omega (arith, p.long.fit_cells)))

  mobility_accepts : (ws : List Float) → length ws ≡ length s.workspace
      → predict_status Mobility (mobility_input i) (mobility_slices ws) ≡ accepted
  unfolding model_columns every
  mobility_accepts ws w =
      let k = p.columns in
      let n = sym k.peptides_long in
      model_accepts i (room_of s) p Mobility (mobility_input i) _ refl refl refl refl
      (rw (
        eq-eqb (length i.label) (length i.peptide) (k.labels_long ∙ n),
        eq-eqb (length i.q) (length i.peptide) (k.qs_long ∙ n),
        eq-eqb (length i.charge) (length i.peptide) (k.charges_long ∙ n),
        eq-eqb (length i.mobility) (length i.peptide) (k.mobilities_long ∙ n),
      )
      refl)
      (model_room_lem Mobility (length i.peptide) (length ws) (model_room s.mobility) (rw n at p.long.mobility)
      (omega (arith, p.long.fit_cells)))

  -- so what they require is met
  pub retention_ready : (observed ws : List Float) → length observed ≡ length i.file
      → length ws ≡ length s.workspace
      → Checked (retention_input i observed)
      × (predict_room_in Retention (retention_input i observed) (retention_slices ws) ≡ true)
  retention_ready observed ws e w =
      let m : ModelInput = retention_input i observed in
      let long : Bool = predict_room_in Retention m (retention_slices ws) in
      let a : predict_status Retention m (retention_slices ws) ≡ accepted = retention_accepts observed ws e w in
      (accepted_checked Retention m long a, accepted_room Retention m long a)

  pub mobility_ready : (ws : List Float) → length ws ≡ length s.workspace
      → Checked (mobility_input i) × (predict_room_in Mobility (mobility_input i) (mobility_slices ws) ≡ true)
  mobility_ready ws w =
      let m : ModelInput = mobility_input i in
      let long : Bool = predict_room_in Mobility m (mobility_slices ws) in
      let a : predict_status Mobility m (mobility_slices ws) ≡ accepted = mobility_accepts ws w in
      (accepted_checked Mobility m long a, accepted_room Mobility m long a)

  -- passed by their own structs
  pub retention_ready_by : (m : ModelInput) (observed ws : List Float) → m ≡ retention_input i observed
      → length observed ≡ length i.file → length ws ≡ length s.workspace
      → Checked m × (predict_room_in Retention m (retention_slices ws) ≡ true)
  retention_ready_by m observed ws e l w = rw e (retention_ready observed ws l w)

  pub mobility_ready_by : (m : ModelInput) (ws : List Float) → m ≡ mobility_input i
      → length ws ≡ length s.workspace
      → Checked m × (predict_room_in Mobility m (mobility_slices ws) ≡ true)
  mobility_ready_by m ws e w = rw e (mobility_ready ws w)

  -- ---- all together

  abbrev align_slices : AlignSlices
  align_slices = record { workspace = s.workspace; records = s.records; aligned = s.aligned }

  -- the alignment left t, retention's prediction t₁, mobility's t₂
  pub run_filled : (t : AlignSlices) → AlignFilled (align_input i) (change align_slices t)
      → length t.workspace ≡ length s.workspace → length t.aligned ≡ length s.aligned
      → (t₁ : PredictSlices) (r₁ : PredictOutcome)
      → PredictedWithin Retention (retention_input i (take (length i.file) t.aligned))
      (change (retention_slices t.workspace) t₁) r₁
      → length t₁.workspace ≡ length s.workspace
      → (t₂ : PredictSlices) (r₂ : PredictOutcome)
      → PredictedWithin Mobility (mobility_input i) (change (mobility_slices t₁.workspace) t₂) r₂
      → Filled i (change s (record {
        workspace = t₂.workspace;
        records = t.records;
        aligned = t.aligned;
        retention = t₁.outputs;
        mobility = t₂.outputs;
      })) (record { retention = r₁; mobility = r₂ })
  unfolding filled
  run_filled t c lw la t₁ r₁ c₁ l₁ t₂ r₂ c₂ =
      let n : ℕ = length i.file in
      let ok = align_accepts i (room_of s) p in
      let a : AlignPart i align_slices t =
      align_part i p.columns align_slices t (Ok tt) ok (accepted_is (align_input i) align_slices t ok c) in
      let times : List Float = take n t.aligned in
      let long = length-take-le n t.aligned (omega (arith, p.long.aligned)) in
      let s₁ : PredictSlices = retention_slices t.workspace in
      let ok₁ = retention_accepts times t.workspace long lw in
      let x : ModelPart of_retention i s₁ t₁ (Ok r₁) =
      retention_part i p.columns times (targets_written i p.columns align_slices t a) s₁ t₁ (Ok r₁) ok₁
      (predict_accepted Retention (retention_input i times) s₁ t₁ r₁ ok₁ c₁) in
      let s₂ : PredictSlices = mobility_slices t₁.workspace in
      let ok₂ = mobility_accepts t₁.workspace l₁ in
      let y : ModelPart of_mobility i s₂ t₂ (Ok r₂) =
      mobility_part i p.columns s₂ t₂ (Ok r₂) ok₂
      (predict_accepted Mobility (mobility_input i) s₂ t₂ r₂ ok₂ c₂) in
      let cells : ℕ = peptides i * i.files in
      let first : ℕ = workspace_cells (order_of Retention) in
      let second : ℕ = workspace_cells (order_of Mobility) in
      let workspace_is : t₂.workspace ≡ (filled i s).workspace =
      y.workspace
      ∙ ap (overwritten (replicate second zero64))
      (x.workspace
      ∙ ap (overwritten (replicate first zero64)) a.workspace
      ∙ zeroed_twice zero64 first cells s.workspace)
      ∙ zeroed_twice zero64 second (max first cells) s.workspace
      ∙ ap (λ (k : ℕ). overwritten (replicate k zero64) s.workspace)
      {x = max second (max first cells)} {y = max cells second} (omega arith) in
      record {
        answer = λ k. record { retention = same_outcome r₁ _ x.answer k; mobility = same_outcome r₂ _ y.answer k };
        slices = λ k.
            record {
              workspace = workspace_is k;
              records = a.records k;
              aligned = a.aligned k;
              retention = x.outputs k;
              mobility = y.outputs k;
            };
      }

  -- by the structs that the three calls were passed
  pub run_filled_by : (m : AlignInput) (t : AlignSlices) → m ≡ align_input i → AlignFilled m (change align_slices t)
      → length t.workspace ≡ length s.workspace → length t.aligned ≡ length s.aligned
      → (m₁ : ModelInput) (t₁ : PredictSlices) (r₁ : PredictOutcome)
      → m₁ ≡ retention_input i (take (length i.file) t.aligned)
      → PredictedWithin Retention m₁ (change (retention_slices t.workspace) t₁) r₁
      → length t₁.workspace ≡ length s.workspace
      → (m₂ : ModelInput) (t₂ : PredictSlices) (r₂ : PredictOutcome) → m₂ ≡ mobility_input i
      → PredictedWithin Mobility m₂ (change (mobility_slices t₁.workspace) t₂) r₂
      → Filled i (change s (record {
        workspace = t₂.workspace;
        records = t.records;
        aligned = t.aligned;
        retention = t₁.outputs;
        mobility = t₂.outputs;
      })) (record { retention = r₁; mobility = r₂ })
  run_filled_by m t e c lw la m₁ t₁ r₁ e₁ c₁ l₁ m₂ t₂ r₂ e₂ c₂ =
      run_filled t (rw e at c) lw la t₁ r₁ (rw e₁ at c₁) l₁ t₂ r₂ (rw e₂ at c₂)

-- ---- the contract

pub run_refused : (i : Input) (s : Slices) (r : Refusal) → Err r ≡ checked (status i s) → RunCall i (change s s) (Err r)
unfolding answer_of slices_after
run_refused i s r e =
    let known = refused_by (status i s) r (sym e) in
    let test : eqb (status i s) accepted ≡ false = ne_eqb (status i s) 0 known.0 in
    record {
      answer = simp test (ap Err known.1);
      told = simp test (rw known.1 (ap only (refused_number i (room_of s) known.0)));
      slices = simp test;
    }

-- whose outputs keep what they held
pub run_refused_by : (i : Input) (s : Slices) (r : Refusal) (retention mobility : ModelOutputs)
    → Err r ≡ checked (status i s) → retention ≡ s.retention → mobility ≡ s.mobility
    → RunCall i
    (change s (record {
      workspace = s.workspace;
      records = s.records;
      aligned = s.aligned;
      retention = retention;
      mobility = mobility;
    }))
    (Err r)
run_refused_by i s r retention mobility e x y = rw (x, y) (run_refused i s r e)

pub run_accepted : (i : Input) (s t : Slices) (r : Ran) → status i s ≡ accepted → Filled i (change s t) r
    → RunCall i (change s t) (Ok r)
unfolding answer_of slices_after
run_accepted i s t r e f =
    let test : eqb (status i s) accepted ≡ true = eq-eqb (status i s) 0 e in
    record {
      answer = rw test (ap Ok f.answer);
      told = rw test (ap told_by (ap Ok f.answer));
      slices = rw test f.slices;
    }
