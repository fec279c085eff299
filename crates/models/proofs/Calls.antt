-- Laws of a call: what a fit leaves in slices that are longer than it needs, and the whole of a call by the status of
-- its checks.
use mathlib.Core.Path.{◌≡◌, refl, sym, ap, ◌∙◌}
use mathlib.Core.Bool.{Bool, true, false, cond, ◌&&◌}
use mathlib.Core.List.{List, [], ◌++◌, map, zip_with}
use Prim.Native.Nat.{ℕ, ◌≤◌}
use native.Mathlib.Omega.{arith}
use lib.Dec.{eqb, leb}
use lib.Ieee.{Float}
use lib.ListN.{length, take, drop, replicate, length-append, length-drop, length-replicate}
use lib.Seq.{length-take-le, take_at}
use borrow.Author.Tests.{leb-true, eqb-true, eqb-false}
use Rattle.params.specs.Slice.{Change, change}
use Rattle.float.specs.Number.{zero64}
use Rattle.std.specs.Prelude.{⊤, Result, Ok, Err}
use Rattle.status.specs.Status.{accepted, refusal_by, checked}
use Rattle.status.specs.declared.Refusal.{Refusal}
use Rattle.status.proofs.Told.{if_accepted_lem, if_refused}
use Rattle.status.specs.Told.{Told, only, told_for}
use Rattle.status.proofs.Laws.{and_true}
use Rattle.embedding.specs.Design.{order_of}
use Rattle.embedding.specs.declared.Model.{Model}
use Rattle.regression.specs.Regression.{Outcome, sse, told_by as outcome_told}
use Rattle.regression.specs.Workspace.{FitSlices, workspace_cells}
use Rattle.regression.specs.declared.Fit.{Fit}
use Rattle.regression.specs.declared.Unfitted.{Unfitted}
use Rattle.model_fit.specs.Input.{Input, queries, fit_room, status_by}
use Rattle.model_fit.specs.Samples.{training_samples, fit_of_input}
use Rattle.model_fit.specs.Shared.{FittedBy, outcome_of, SolvedRows}
use Rattle.model_fit.specs.declared.training.Solved.{Solved}
use Rattle.model_fit.proofs.Status.{refused_number}
use Rattle.matrix.specs.Lists.{overwritten}
use Rattle.matrix.proofs.Lists.{overwrite_part, zip_with_append, zip_with_none}
use Rattle.models.specs.declared.PredictOutcome.{PredictOutcome}
use Rattle.models.specs.Prediction.{is_solved, prediction_of, error_of, predictions, errors, inexact_in, inexact}
use Rattle.models.specs.Call.{PredictSlices, fit_part, answer_of, told_by, predict_room, fit_room_in, predict_room_in}
use Rattle.models.specs.Call.{fit_status, predict_status}
use Rattle.models.specs.Call.{predict_outcome, predict_outcome_told}
use Rattle.models.specs.Call.{fit_filled, predict_filled, FittedWithin, SolvedWithin, PredictedWithin}
use Rattle.models.specs.Call.{FitCall, PredictCall}
use Rattle.models.proofs.Writing.{length_predictions}

-- ---- the slices' lengths

pub record Room (model : Model) (workspace beta : ℕ) : Type 0 where
  pub cells : workspace_cells (order_of model) ≤ workspace
  pub coefficients : order_of model ≤ beta

pub room : (model : Model) (workspace beta : ℕ) → fit_room model workspace beta ≡ true
    → Room model workspace beta
room model workspace beta e =
    let b = and_true (leb (workspace_cells (order_of model)) workspace) (leb (order_of model) beta) e in
    record { cells = leb-true _ _ b.0; coefficients = leb-true _ _ b.1 }

pub record PredictRoom (model : Model) (rows workspace beta predicted error : ℕ) : Type 0 where
  pub fitted : fit_room model workspace beta ≡ true
  pub predictions : rows ≤ predicted
  pub errors : rows ≤ error

pub predict_room_lem : (model : Model) (rows workspace beta predicted error : ℕ)
    → predict_room model rows workspace beta predicted error ≡ true
    → PredictRoom model rows workspace beta predicted error
predict_room_lem model rows workspace beta predicted error e =
    let a = and_true (fit_room model workspace beta) (leb rows predicted && leb rows error) e in
    let b = and_true (leb rows predicted) (leb rows error) a.1 in
    record { fitted = a.0; predictions = leb-true _ _ b.0; errors = leb-true _ _ b.1 }

-- ---- a fit on the first cells of longer slices

-- what holds of a solved fit, by its test
if_solved : (o : Outcome) (P : Type 0) → is_solved o ≡ true → ((f : Fit) → o ≡ Ok f → P) → P
if_solved (Ok f) P e h = h f refl
if_solved (Err u) P e h = let z : ◌≡◌ {A = ℕ} 0 1 = cc in absurd (omega arith)

pub fitted_within : (model : Model) (i : Input) (k d : ℕ) (s t : FitSlices) (r : Outcome)
    → k ≡ workspace_cells (order_of model)
    → d ≡ order_of model
    → k ≤ length s.workspace
    → d ≤ length s.coefficients
    → length t.coefficients ≡ length (take d s.coefficients)
    → FittedBy (fit_of_input model i)
    (change (record { workspace = take k s.workspace; coefficients = take d s.coefficients }) t)
    r
    → FittedWithin model i
    (change s
    (record {
      workspace = t.workspace ++ drop k s.workspace;
      coefficients = t.coefficients ++ drop d s.coefficients;
    }))
    r
fitted_within model i k d s t r ek ed hk hd kept f =
    let w₀ : List Float = s.workspace in
    let b₀ : List Float = s.coefficients in
    let new : List Float = (fit_of_input model i).coefficients in
    let K : ℕ = workspace_cells (order_of model) in
    let td : length (take d b₀) ≡ d = length-take-le d b₀ hd in
    let few : length new ≤ d =
    omega (
      arith,
      ap length f.coefficients,
      length-append new (drop (length new) (take d b₀)),
      length-drop (length new) (take d b₀),
    ) in
    let zeros : t.workspace ≡ replicate K zero64 =
    f.workspace ∙ ap (λ (n : ℕ). replicate n zero64) (length-take-le k w₀ hk ∙ ek) in
    let workspace_is =
    ap (λ (x : List Float). x ++ drop k w₀) zeros
    ∙ ap (λ (n : ℕ). replicate K zero64 ++ drop n w₀) (ek ∙ sym (length-replicate K zero64)) in
    let coefficients_is =
    ap (λ (x : List Float). x ++ drop d b₀) f.coefficients ∙ overwrite_part new b₀ d few hd in
    record {
      outcome = f.outcome;
      slices = λ j. record { workspace = workspace_is j; coefficients = coefficients_is j };
      long = λ e. if_solved r _ e (λ fit told. f.long fit told ∙ td ∙ ed);
    }

-- the same of how far it was solved, with the squared errors of the coefficients that are kept
pub solved_within : (model : Model) (i : Input) (k d : ℕ) (s t : FitSlices) (r : Result Solved Unfitted)
    → k ≡ workspace_cells (order_of model)
    → d ≡ order_of model
    → k ≤ length s.workspace
    → d ≤ length s.coefficients
    → length t.coefficients ≡ length (take d s.coefficients)
    → SolvedRows model i
    (change (record { workspace = take k s.workspace; coefficients = take d s.coefficients }) t)
    r
    → SolvedWithin model i
    (change s
    (record {
      workspace = t.workspace ++ drop k s.workspace;
      coefficients = t.coefficients ++ drop d s.coefficients;
    }))
    r
solved_within model i k d s t r ek ed hk hd kept f =
    let rest : List Float = drop d s.coefficients in
    let wide : length t.coefficients ≡ order_of model = kept ∙ length-take-le d s.coefficients hd ∙ ed in
    rw (take_at t.coefficients rest (order_of model) wide)
    (fitted_within model i k d s t _ ek ed hk hd kept f)

-- ---- by how far it was solved

-- a fit that is solved, and one that isn't, as the arms of a `match` say it
pub is_solved_lem : (r : Result Solved Unfitted) (s : Solved) (errors : Float) → r ≡ Ok s
    → is_solved (outcome_of r errors) ≡ true
is_solved_lem r s errors e = rw e

pub not_solved_lem : (r : Result Solved Unfitted) (errors : Float) → ((s : Solved) → r ≡ Ok s → ⊥)
    → is_solved (outcome_of r errors) ≡ false
not_solved_lem (Ok s) errors h = absurd (h s refl)
not_solved_lem (Err u) errors h = refl

-- it has the same outcome with any squared errors
same_unsolved : (r : Result Solved Unfitted) (e₁ e₂ : Float) → is_solved (outcome_of r e₁) ≡ false
    → outcome_of r e₁ ≡ outcome_of r e₂
same_unsolved (Ok s) e₁ e₂ h = let z : ◌≡◌ {A = ℕ} 0 1 = cc in absurd (omega arith)
same_unsolved (Err u) e₁ e₂ h = refl

module _ (model : Model) (i : Input) (s : Change FitSlices) (r : Result Solved Unfitted) (f : SolvedWithin model i s r)
    (errors : Float) (o : Outcome) (is_outcome : o ≡ outcome_of r errors) where
  pub completed : (d : ℕ) → d ≡ order_of model
      → errors ≡ sse (take d s.exit.coefficients) (training_samples model i)
      → FittedWithin model i s o
  completed d ed e = rw (is_outcome, e, ed) f

  pub uncompleted : is_solved o ≡ false → FittedWithin model i s o
  uncompleted h =
      let e : Float = sse (take (order_of model) s.exit.coefficients) (training_samples model i) in
      rw (is_outcome, same_unsolved r errors e (rw is_outcome at h)) f

-- ---- the status

-- checks with this status that refuse, and that accept
pub refused_by : (n : ℕ) (r : Refusal) → checked n ≡ Err r → (n ≡ accepted → ⊥) × (r ≡ refusal_by n)
refused_by n r e = by_test (eqb n accepted) refl e
  where
    by_test : (b : Bool) → eqb n accepted ≡ b → ◌≡◌ {A = Result ⊤ Refusal} (cond b (Ok tt) (Err (refusal_by n))) (Err r)
        → (n ≡ accepted → ⊥) × (r ≡ refusal_by n)
    by_test true t h = let z : ◌≡◌ {A = ℕ} 0 1 = cc in absurd (omega arith)
    by_test false t h = (eqb-false n accepted t, cc)

pub accepted_by : (n : ℕ) (v : ⊤) → checked n ≡ Ok v → n ≡ accepted
accepted_by n v e = by_test (eqb n accepted) refl e
  where
    by_test : (b : Bool) → eqb n accepted ≡ b → ◌≡◌ {A = Result ⊤ Refusal} (cond b (Ok tt) (Err (refusal_by n))) (Ok v) → n ≡ accepted
    by_test true t h = eqb-true n accepted t
    by_test false t h = let z : ◌≡◌ {A = ℕ} 0 1 = cc in absurd (omega arith)

-- what an answer tells
module _ {A B : Type 0} (tell : A → Told B) (model : Model) (i : Input) (room : Bool) (done : A) where
  told_lem : (r : Result A Refusal) → r ≡ answer_of (status_by model i room) done
      → told_by tell r ≡ told_for (status_by model i room) (tell done)
  told_lem r e = ap (told_by tell) e ∙ by_test (eqb (status_by model i room) accepted) refl
    where
      by_test : (b : Bool) → eqb (status_by model i room) accepted ≡ b
          → told_by tell (cond b (Ok done) (Err (refusal_by (status_by model i room))))
          ≡ cond b (tell done) (only (status_by model i room))
      by_test true t = refl
      by_test false t = ap only (refused_number model i room (eqb-false _ accepted t))

-- ---- a call of `fit`

module _ (model : Model) (i : Input) (s : FitSlices) where
  pub fit_refused : (r : Refusal) → checked (fit_status model i s) ≡ Err r → FitCall model i (change s s) (Err r)
  fit_refused r e =
      let n : ℕ = fit_status model i s in
      let h = refused_by n r e in
      let done : Outcome = (fit_of_input model i).outcome in
      let a : Err r ≡ answer_of n done = ap Err h.1 ∙ sym (if_refused n _ _ h.0) in
      record {
        answer = a;
        told = told_lem outcome_told model i (fit_room_in model s) done _ a;
        slices = sym (if_refused n _ _ h.0);
      }

  pub fit_accepted : (t : FitSlices) (r : Outcome) → fit_status model i s ≡ accepted
      → FittedWithin model i (change s t) r
      → FitCall model i (change s t) (Ok r)
  fit_accepted t r h f =
      let n : ℕ = fit_status model i s in
      let done : Outcome = (fit_of_input model i).outcome in
      let a : Ok r ≡ answer_of n done = ap Ok f.outcome ∙ sym (if_accepted_lem n _ _ h) in
      record {
        answer = a;
        told = told_lem outcome_told model i (fit_room_in model s) done _ a;
        slices = f.slices ∙ sym (if_accepted_lem n (fit_filled model i s) s h);
      }

-- ---- a call of `predict`

-- what is written and counted where the fit is solved, and where it is not
module _ (model : Model) (i : Input) (s t : FitSlices) (r : Outcome) (f : FittedWithin model i (change s t) r) where
  coefficients_is : t.coefficients ≡ overwritten (fit_of_input model i).coefficients s.coefficients
  coefficients_is = ap (λ (x : FitSlices). x.coefficients) f.slices

  same_test : is_solved (fit_of_input model i).outcome ≡ is_solved r
  same_test = sym (ap is_solved f.outcome)

  module _ (e : is_solved r ≡ true) where
    -- the predictions with coefficients beta, and their count
    abbrev predicted_with : List Float → List Float
    predicted_with beta = map (prediction_of model i.table beta) (queries i.peptides i.charges)

    abbrev counted_with : List Float → ℕ
    counted_with beta = inexact_in model i.table beta (queries i.peptides i.charges)

    predicted_all : predictions model i ≡ predicted_with (fit_of_input model i).coefficients
    predicted_all = rw (same_test ∙ e)

    counted_all : inexact model i ≡ counted_with (fit_of_input model i).coefficients
    counted_all = rw (same_test ∙ e)

    module _ (d : ℕ) (ed : d ≡ order_of model) where
      -- the coefficients that are lent
      lent : take d t.coefficients ≡ (fit_of_input model i).coefficients
      lent = ap (take d) coefficients_is ∙ take_at (fit_of_input model i).coefficients _ d (f.long e ∙ sym ed)

      pub solved_count : (n : ℕ) → n ≡ counted_with (take d t.coefficients) → n ≡ inexact model i
      solved_count n c = c ∙ ap counted_with lent ∙ sym counted_all

      module _ (p₀ p₁ : List Float) (p : p₁ ≡ overwritten (predicted_with (take d t.coefficients)) p₀) where
        pub solved_predictions : p₁ ≡ overwritten (predictions model i) p₀
        solved_predictions =
            p ∙ ap (λ (x : List Float). overwritten x p₀) (ap predicted_with lent ∙ sym predicted_all)

        pub solved_errors : (e₀ e₁ : List Float) → length i.observed ≡ length i.peptides
            → e₁ ≡ overwritten (zip_with error_of i.observed p₁) e₀
            → e₁ ≡ overwritten (errors model i) e₀
        solved_errors e₀ e₁ same er =
            let new : List Float = (fit_of_input model i).coefficients in
            let n = length_predictions model i.table new i.peptides i.charges in
            let m : length (predictions model i) ≡ length i.peptides = ap length predicted_all ∙ n in
            let z : zip_with error_of i.observed p₁ ≡ errors model i =
            ap (zip_with error_of i.observed) solved_predictions
            ∙ zip_with_append error_of i.observed (predictions model i) _ (omega arith) in
            er ∙ ap (λ (x : List Float). overwritten x e₀) z

  module _ (e : is_solved r ≡ false) where
    pub unsolved_count : 0 ≡ inexact model i
    unsolved_count = rw (same_test ∙ e)

    none_predicted : predictions model i ≡ []
    none_predicted = rw (same_test ∙ e)

    pub unsolved_predictions : (p₀ : List Float) → p₀ ≡ overwritten (predictions model i) p₀
    unsolved_predictions p₀ = ap (λ (x : List Float). overwritten x p₀) (sym none_predicted)

    pub unsolved_errors : (e₀ : List Float) → e₀ ≡ overwritten (errors model i) e₀
    unsolved_errors e₀ =
        let z : errors model i ≡ [] =
        ap (zip_with error_of i.observed) none_predicted ∙ zip_with_none error_of i.observed in
        ap (λ (x : List Float). overwritten x e₀) (sym z)

-- the fit, the count and the other outputs together
pub predicted_within : (model : Model) (i : Input) (s t : PredictSlices) (r : PredictOutcome)
    → FittedWithin model i (change (fit_part s) (fit_part t)) r.fit
    → r.inexact ≡ inexact model i
    → t.outputs.predicted ≡ overwritten (predictions model i) s.outputs.predicted
    → t.outputs.error ≡ overwritten (errors model i) s.outputs.error
    → PredictedWithin model i (change s t) r
predicted_within model i s t r f count_is predicted_is error_is =
    let beta_is = coefficients_is model i (fit_part s) (fit_part t) r.fit f in
    record {
      fitted = f;
      count = count_is;
      outputs = λ k. record { coefficients = beta_is k; predicted = predicted_is k; error = error_is k };
    }

module _ (model : Model) (i : Input) (s : PredictSlices) where
  pub predict_refused : (r : Refusal) → checked (predict_status model i s) ≡ Err r
      → PredictCall model i (change s s) (Err r)
  predict_refused r e =
      let n : ℕ = predict_status model i s in
      let h = refused_by n r e in
      let done : PredictOutcome = predict_outcome model i in
      let a : Err r ≡ answer_of n done = ap Err h.1 ∙ sym (if_refused n _ _ h.0) in
      record {
        answer = a;
        told = told_lem predict_outcome_told model i (predict_room_in model i s) done _ a;
        slices = sym (if_refused n _ _ h.0);
      }

  pub predict_accepted : (t : PredictSlices) (r : PredictOutcome) → predict_status model i s ≡ accepted
      → PredictedWithin model i (change s t) r
      → PredictCall model i (change s t) (Ok r)
  predict_accepted t r h f =
      let n : ℕ = predict_status model i s in
      let done : PredictOutcome = predict_outcome model i in
      let outcome_is : r ≡ done = λ k. record { fit = f.fitted.outcome k; inexact = f.count k } in
      let a : Ok r ≡ answer_of n done = ap Ok outcome_is ∙ sym (if_accepted_lem n _ _ h) in
      let workspace_is = ap (λ (x : FitSlices). x.workspace) f.fitted.slices in
      let filled : t ≡ predict_filled model i s =
      λ k. record { workspace = workspace_is k; outputs = f.outputs k } in
      record {
        answer = a;
        told = told_lem predict_outcome_told model i (predict_room_in model i s) done _ a;
        slices = filled ∙ sym (if_accepted_lem n (predict_filled model i s) s h);
      }
