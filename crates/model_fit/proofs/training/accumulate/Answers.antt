-- `model_fit::training::accumulate` meets its contract. The loop's invariant: the equations in the workspace and
-- the sums are those of the training rows among the first i.
use mathlib.Core.Path.{◌≡◌, refl, sym, ap, ◌∙◌}
use mathlib.Core.Bool.{true, false}
use mathlib.Core.List.{List, [], ◌∷◌, ◌++◌}
use Prim.Native.Nat.{ℕ, ◌+◌, ◌<◌}
use native.Mathlib.Omega.{arith}
use native.Mathlib.Numerals.{add-one}
use lib.IntN.{pos}
use lib.Ieee.{Float, nan}
use lib.ListN.{length, get_or}
use Rattle.feature.specs.Feature.{trains, kept}
use Rattle.embedding.specs.Design.{order_of}
use Rattle.embedding.specs.declared.Model.{Model}
use Rattle.regression.specs.Regression.{Sample, extended, normal, sums_of, plus_target}
use Rattle.regression.specs.Sparse.{add_visited}
use Rattle.regression.specs.Workspace.{stored, with_stored, holding}
use Rattle.regression.specs.declared.Sums.{Sums}
use Rattle.regression.proofs.Laws.{sums_nil, sums_snoc}
use Rattle.regression.proofs.Workspace.{length_holding, add_visited_holds}
use Rattle.model_fit.specs.Input.{Input, input_at, query_of}
use Rattle.model_fit.specs.Samples.{sample_from, design_of}
use Rattle.model_fit.specs.Shared.{Checked}
use Rattle.model_fit.proofs.RowLaws.{order_max, wide_design}
use Rattle.model_fit.proofs.RowLaws.{seen, sample_at, seen_trains, seen_outside, seen_all, seen_few}
use Rattle.model_fit.proofs.Status.{listed}
use Rattle.model_fit.proofs.training.accumulate.Goals as goal

-- a sample by its design row and its target
sample_is : (row row₁ : List Float) (y y₁ : Float) → row ≡ row₁ → y ≡ y₁ → sample_from row y ≡ sample_from row₁ y₁
sample_is row row₁ y y₁ e f = rw (e, f)

-- one training row more
one_more : (model : Model) (i : Input) (k : ℕ) (x : Sample) (cells cells₁ : List Float) (before after : Sums)
    → Checked i
    → k < length i.peptides
    → trains (get_or i.labels k (pos 0)) (get_or i.qs k nan) ≡ true
    → x ≡ sample_at model i k
    → let D = order_of model in
    cells ≡ holding D (normal D (seen model i k))
    → cells₁ ≡ with_stored D (add_visited (stored D cells) (extended x)) cells
    → before ≡ sums_of (seen model i k)
    → after ≡ plus_target before x.y
    → (cells₁ ≡ holding D (normal D (seen model i (k + 1)))) × (after ≡ sums_of (seen model i (k + 1)))
one_more model i k x cells cells₁ before after checked h t ex holds e eb ea =
    let D : ℕ = order_of model in
    let ss : List Sample = seen model i k in
    let wide : length x.row ≡ D = ap (λ (s : Sample). length s.row) ex ∙ wide_design model _ _ _ _ in
    let n : seen model i (k + 1) ≡ ss ++ x ∷ [] = rw (add-one k, ex) (seen_trains model i checked k h t) in (
      add_visited_holds D ss cells cells₁ holds x (extended x) wide refl e
          ∙ ap (λ (t : List Sample). holding D (normal D t)) (sym n),
      ea ∙ ap (λ (v : Sums). plus_target v x.y) eb ∙ sym (sums_snoc ss x) ∙ ap sums_of (sym n),
    )

pub loop-i-init : goal.loop-i-init
unfolding kept
loop-i-init c = record { holds = c.requires.workspace_value; sums = c.zero-sums.ensures ∙ sym sums_nil }

pub loop-i-preserved-then-not-trains : goal.loop-i-preserved-then-not-trains
loop-i-preserved-then-not-trains c =
    let model : Model = c.args.model in
    let i : Input = input_at c.args.input in
    let l = c.loop-i in
    let t : trains (get_or i.labels l.i (pos 0)) (get_or i.qs l.i nan) ≡ false =
    sym c.trains.ensures ∙ c.if-not-trains.true in
    let n : seen model i (l.i + 1) ≡ seen model i l.i =
    rw (add-one l.i) (seen_outside model i c.requires.checked l.i (omega arith) t) in
    record {
      holds = l.invariant.holds ∙ ap (λ (t : List Sample). holding (order_of model) (normal (order_of model) t)) (sym n);
      sums = l.invariant.sums ∙ ap sums_of (sym n);
    }

-- the row's peptide is in the table
pub ion-ion-requires : goal.ion-ion-requires
ion-ion-requires c =
    let i : Input = input_at c.args.input in
    listed i.table i.peptides c.loop-i.i c.requires.checked.numbered (omega arith)

-- the workspace keeps its length
pub add-requires-clause-workspace : goal.add-requires-clause-workspace
add-requires-clause-workspace c =
    let model : Model = c.args.model in
    record {
      order = order_max model;
      count = ap length c.loop-i.invariant.holds ∙ length_holding (order_of model) (seen model (input_at c.args.input) c.loop-i.i);
    }

pub add-sums-requires : goal.add-sums-requires
add-sums-requires c =
    let model : Model = c.args.model in
    let i : Input = input_at c.args.input in
    let l = c.loop-i in
    let n : l.sums.n ≡ length (seen model i l.i) = ap (λ (x : Sums). x.n) l.invariant.sums in
    omega (arith, n, seen_few model i c.requires.checked l.i, c.requires.checked.rows_max)

pub loop-i-preserved : goal.loop-i-preserved
loop-i-preserved c =
    let model : Model = c.args.model in
    let i : Input = input_at c.args.input in
    let l = c.loop-i in
    let t : trains (get_or i.labels l.i (pos 0)) (get_or i.qs l.i nan) ≡ true =
    sym c.trains.ensures ∙ c.if-not-trains.false in
    let step =
    one_more model i l.i _ l.workspace _ l.sums c.add-sums.result c.requires.checked (omega arith) t
    (sample_is _ _ _ _ (c.ion-ion.ensures ∙ ap (λ (z : ℕ). design_of model i.table (query_of (get_or i.peptides l.i 0) z)) c.charge_at.ensures) c.widen-y.ensures) l.invariant.holds c.add.ensures
    l.invariant.sums c.add-sums.ensures in
    record { holds = step.0; sums = step.1 }

pub returns : goal.returns
returns c =
    let model : Model = c.args.model in
    let i : Input = input_at c.args.input in
    let l = c.loop-i in
    let n = seen_all model i c.requires.checked l.i (omega arith) in
    record {
      holds = l.invariant.holds ∙ ap (λ (x : List Sample). holding (order_of model) (normal (order_of model) x)) n;
      sums = l.invariant.sums ∙ ap sums_of n;
    }
