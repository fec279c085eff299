-- Laws of a fit on its workspace: what the fit is by the solver's answer, once the normal equations are summed.
use mathlib.Core.Path.{◌≡◌, refl, sym, ap, ◌∙◌}
use mathlib.Core.List.{List, [], ◌∷◌}
use Prim.Native.Nat.{ℕ, ◌<◌}
use native.Mathlib.Nat.{suc-ne-zero}
use native.Mathlib.Omega.{arith}
use lib.Ieee.{Float}
use lib.ListN.{length, replicate}
use Rattle.std.specs.Prelude.{Ok, Err, Some, None}
use Rattle.params.specs.Slice.{change}
use Rattle.float.specs.Number.{zero64}
use Rattle.matrix.specs.Lists.{overwritten}
use Rattle.matrix.proofs.Lists.{overwrite_whole}
use Rattle.elimination.specs.Ridge.{solved, unsolved, first_solved, ridges}
use Rattle.regression.specs.Regression.{Sample, Fitting, fit_from, fit_of, normal, sums_of, sse, r2_of}
use Rattle.regression.specs.Workspace.{Workspace, FitSlices, cleared, holding}
use Rattle.regression.specs.Solve.{SolvedBy, solution_in}
use Rattle.regression.specs.declared.Sums.{Sums}
use Rattle.regression.specs.declared.Unfitted.TheVariants.{NoTrainingRows, NotSolved}
use Rattle.regression.proofs.Laws.{fit_none, fit_some}
use Rattle.regression.proofs.Workspace.{cleared_holds, equations_normal, length_holding, solve_solved, solve_none}
use Rattle.model_fit.specs.Shared.{FittedBy}

no_element : {A : Type 0} (xs : List A) → length xs ≡ 0 → xs ≡ []
no_element [] e = refl
no_element (x ∷ xs) e = absurd (suc-ne-zero (length xs) e)

-- the slices as the fit begins, and once the equations are summed
module _ (D : ℕ) (ss : List Sample) (s : FitSlices) (cells : List Float) (room : Workspace D s.workspace)
    (summed : cells ≡ holding D (normal D ss)) where
  -- the workspace keeps its length
  same_room : length cells ≡ length s.workspace
  same_room = ap length summed ∙ length_holding D ss ∙ sym room.count

  pub still_workspace : Workspace D cells
  still_workspace = record { order = room.order; count = same_room ∙ room.count }

  -- there is no training row
  pub fitted_none : length ss ≡ 0
      → FittedBy (fit_of D ss) (change s (record { workspace = cells; coefficients = s.coefficients })) (Err NoTrainingRows)
  fitted_none e =
      let f : fit_of D ss ≡ record { outcome = Err NoTrainingRows; coefficients = [] } = fit_none D ss e in
      record {
        outcome = sym (ap (λ (x : Fitting). x.outcome) f);
        workspace = summed
            ∙ ap (λ (x : List Sample). holding D (normal D x)) (no_element ss e)
            ∙ sym (cleared_holds D s.workspace room.count);
        coefficients = sym (ap (λ (x : Fitting). overwritten x.coefficients s.coefficients) f);
        long = λ f told. let z : ◌≡◌ {A = ℕ} 0 1 = cc in absurd (omega arith);
      }

  module _ (some : 0 < length ss) (t : FitSlices) where
    abbrev solving : FitSlices
    solving = record { workspace = cells; coefficients = s.coefficients }

    fit_is : fit_of D ss ≡ fit_from ss (solution_in D cells)
    fit_is =
        fit_some D ss some
        ∙ ap (λ (x : List (List Float)). fit_from ss (first_solved D x ridges)) (sym (equations_normal D ss))
        ∙ ap (λ (x : List Float). fit_from ss (solution_in D x)) (sym summed)

    zeroed : t.workspace ≡ cleared cells → t.workspace ≡ cleared s.workspace
    zeroed e = e ∙ ap (λ (n : ℕ). replicate n zero64) same_room

    -- no ridge solves it
    pub fitted_unsolved : SolvedBy D (change solving t) None → FittedBy (fit_of D ss) (change s t) (Err NotSolved)
    fitted_unsolved h =
        let u : solution_in D cells ≡ unsolved = solve_none D solving t h in
        let f : fit_of D ss ≡ record { outcome = Err NotSolved; coefficients = [] } = fit_is ∙ ap (fit_from ss) u in
        record {
          outcome = sym (ap (λ (x : Fitting). x.outcome) f);
          workspace = zeroed h.workspace;
          coefficients = (rw u at h.coefficients)
              ∙ sym (ap (λ (x : Fitting). overwritten x.coefficients s.coefficients) f);
          long = λ f told. let z : ◌≡◌ {A = ℕ} 0 1 = cc in absurd (omega arith);
        }

    -- a ridge solves it
    pub fitted_solved : (ridge : Float) (sums : Sums) → SolvedBy D (change solving t) (Some ridge)
        → length t.coefficients ≡ length s.coefficients
        → sums ≡ sums_of ss
        → FittedBy (fit_of D ss) (change s t)
        (Ok (record { ridge = ridge; r2 = r2_of sums (sse t.coefficients ss); n = sums.n }))
    fitted_solved ridge sums h long es =
        let u : solution_in D cells ≡ solved ridge t.coefficients = solve_solved D solving t ridge h in
        let f : fit_of D ss ≡ fit_from ss (solved ridge t.coefficients) = fit_is ∙ ap (fit_from ss) u in
        record {
          outcome = rw es (sym (ap (λ (x : Fitting). x.outcome) f));
          workspace = zeroed h.workspace;
          coefficients = sym (overwrite_whole t.coefficients s.coefficients long)
              ∙ sym (ap (λ (x : Fitting). overwritten x.coefficients s.coefficients) f);
          long = λ f₁ told. ap (λ (x : Fitting). length x.coefficients) f ∙ long;
        }
