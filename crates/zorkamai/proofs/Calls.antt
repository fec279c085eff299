-- What an exported function gives is its entry point's call, as hosts see it.
use mathlib.Core.Path.{◌≡◌, ◌∙◌, ap, subst}
use mathlib.Core.Bool.{Bool}
use mathlib.Core.List.{List}
use Prim.Native.Nat.{ℕ}
use lib.Ieee.{Float}
use Rattle.std.specs.Prelude.{⊤, Result}
use Rattle.params.specs.Slice.{change}
use Rattle.status.specs.declared.Refusal.{Refusal}
use Rattle.rt_matrix.specs.Columns.{FileColumns, held_columns}
use Rattle.rt_matrix.specs.declared.FileColumns.{FileColumns as FileSlices}
use Rattle.retention_alignment.specs.Call.{Input, Slices, Aligned}
use Rattle.models.specs.Call.{ModelOutputs}
use Rattle.run.specs.Call.{Input as RunInput, Slices as RunSlices, RunCall}
use Rattle.run.specs.declared.Ran.{Ran}
use Rattle.zorkamai.specs.Answers.{Exported}

-- r shows the answer x of a call, and by the call's contract x is a
pub exported : {A B : Type 0} (shown : A → B) (call : A → Type 0) {x a : A} {r : B} → r ≡ shown x → x ≡ a
    → call x → Exported shown a call r
exported shown call r_is x_is done = record { answer = r_is ∙ ap shown x_is; entry = subst call x_is done }

-- ---- the slices that a host lent are those of the structs

pub columns_are : (c : FileSlices) (max_rt slope intercept : List Float) (used : List ℕ)
    (max_rt_exact slope_exact intercept_exact : List Bool)
    → max_rt ≡ c.max_rt.now → slope ≡ c.slope.now → intercept ≡ c.intercept.now → used ≡ c.used.now
    → max_rt_exact ≡ c.max_rt_exact.now → slope_exact ≡ c.slope_exact.now
    → intercept_exact ≡ c.intercept_exact.now
    → ◌≡◌ {A = FileColumns} (record {
      max_rt = max_rt;
      slope = slope;
      intercept = intercept;
      used = used;
      max_rt_exact = max_rt_exact;
      slope_exact = slope_exact;
      intercept_exact = intercept_exact;
    }) (held_columns c)
columns_are c max_rt slope intercept used max_rt_exact slope_exact intercept_exact e₁ e₂ e₃ e₄ e₅ e₆ e₇ =
    λ k.
    record {
      max_rt = e₁ k;
      slope = e₂ k;
      intercept = e₃ k;
      used = e₄ k;
      max_rt_exact = e₅ k;
      slope_exact = e₆ k;
      intercept_exact = e₇ k;
    }

pub outputs_are : (o : ModelOutputs) (beta predicted error : List Float)
    → beta ≡ o.coefficients → predicted ≡ o.predicted → error ≡ o.error
    → ◌≡◌ {A = ModelOutputs} (record { coefficients = beta; predicted = predicted; error = error }) o
outputs_are o beta predicted error e₁ e₂ e₃ = λ k. record { coefficients = e₁ k; predicted = e₂ k; error = e₃ k }

pub aligned_by : (i : Input) (before : Slices) (workspace aligned : List Float) (held shown : FileColumns)
    (r : Result ⊤ Refusal)
    → Aligned i (change before (record { workspace = workspace; records = held; aligned = aligned })) r
    → shown ≡ held
    → Aligned i (change before (record { workspace = workspace; records = shown; aligned = aligned })) r
aligned_by i before workspace aligned held shown r call e = rw e call

pub run_by : (i : RunInput) (before : RunSlices) (workspace aligned : List Float) (held shown : FileColumns)
    (r₀ r₁ m₀ m₁ : ModelOutputs) (r : Result Ran Refusal)
    → RunCall i
    (change before (record {
      workspace = workspace;
      records = held;
      aligned = aligned;
      retention = r₀;
      mobility = m₀;
    }))
    r
    → shown ≡ held → r₁ ≡ r₀ → m₁ ≡ m₀
    → RunCall i
    (change before (record {
      workspace = workspace;
      records = shown;
      aligned = aligned;
      retention = r₁;
      mobility = m₁;
    }))
    r
run_by i before workspace aligned held shown r₀ r₁ m₀ m₁ r call e e₁ e₂ = rw (e, e₁, e₂) call
