-- `regression::first_solved` meets its contract. The loop's invariant: the normal equations and beta are as they were,
-- and the first ridge from eps on that solves them is the first of the whole series.
use mathlib.Core.Path.{◌≡◌, refl, sym, ◌∙◌, ap}
use mathlib.Core.Bool.{Bool, true, false}
use mathlib.Core.List.{List}
use Prim.Native.Nat.{ℕ, ◌+◌, ◌≤◌}
use native.Mathlib.Nat.{mul-one}
use native.Mathlib.Omega.{arith}
use lib.ListN.{length, take, length-take}
use lib.Ieee.{Float, binary64, mul, le, of_bits, round}
use Rattle.std.specs.Prelude.{Some}
use Rattle.matrix.specs.Rows.{rows_of}
use Rattle.float.specs.Number.{one64}
use Rattle.elimination.specs.Elimination.{eliminate}
use Rattle.elimination.specs.Ridge.{ten64, solved, unsolved, right_side}
use Rattle.packed_rows.specs.Falling.{falling_rows}
use Rattle.regression.specs.Triangle.{unfolded}
use Rattle.regression.specs.Workspace.{workspace_cells, system_length, equations}
use Rattle.regression.specs.Solve.{Attempted, Found, solution_in}
use Rattle.elimination.proofs.Ridges.{within_first, within_next, fewer, solves_here, solves_later, none_solves}
use Rattle.regression.proofs.Workspace.{two_parts}
use Rattle.regression.proofs.first_solved.Goals as goal
use Rattle.regression.proofs.first_solved.Invariants.{Searched}

-- a try with the ridge eps
module _ (d : ℕ) (ws₀ ws ws₁ beta₀ beta : List Float) (eps : Float) (split : ℕ)
    (inv : Searched d ws₀ beta₀ ws beta eps) (small : le eps one64 ≡ true)
    (r : Bool) (tried : Attempted d eps ws ws₁ r) where
  rows : equations d ws ≡ equations d ws₀
  rows = ap (λ (t : List Float). unfolded d (falling_rows (d + 1) d t)) inv.1

  -- it solved the system
  found : (beta₁ : List Float) → split ≡ system_length d → r ≡ true
      → beta₁ ≡ right_side d (rows_of (d + 1) d (take split ws₁))
      → Found (solution_in d ws₀) beta₀ beta₁ (Some eps)
  found beta₁ h t copied =
      let right : beta₁ ≡ right_side d (eliminate d eps (equations d ws₀)) =
      copied ∙ rw (h, tried.system, rows) in
      let e : solution_in d ws₀ ≡ solved eps (right_side d (eliminate d eps (equations d ws₀))) =
      sym inv.4 ∙ solves_here d (equations d ws₀) eps inv.3 small (rw rows at (sym tried.answer ∙ t)) in
      record { answer = rw e; coefficients = rw e right }

  -- it did not
  goes_on : length ws₁ ≡ length ws → r ≡ false
      → Searched d ws₀ beta₀ ws₁ beta (mul binary64 eps ten64)
  goes_on len t = (
    len ∙ inv.0,
    tried.rest ∙ inv.1,
    inv.2,
    within_next eps inv.3 small,
    sym (solves_later d (equations d ws₀) eps inv.3 small (rw rows at (sym tried.answer ∙ t))) ∙ inv.4,
  )

-- the full rows are a part of a workspace
fits : (d split : ℕ) (ws₀ ws ws₁ : List Float) → split ≡ system_length d → length ws₀ ≡ workspace_cells d
    → length ws ≡ length ws₀ → length ws₁ ≡ length ws → split ≤ length ws₁
fits d split ws₀ ws ws₁ is count a b = omega (arith, two_parts d)

pub loop-eps-init : goal.loop-eps-init
unfolding of_bits round
loop-eps-init c = (refl, refl, refl, within_first, refl)

pub slice_bounds-right_side-end-then-attempt : goal.slice_bounds-right_side-end-then-attempt
slice_bounds-right_side-end-then-attempt c =
    let l = c.loop-eps in
    let f =
    fits c.args.d c.system_length-split.result c.args.workspace.now l.workspace c.attempt.new.workspace
    c.system_length-split.ensures c.requires.0.count l.invariant.0 c.attempt.auto.workspace in
    simp length-take (omega (arith, f))

pub right_side-requires : goal.right_side-requires
right_side-requires c =
    let l = c.loop-eps in
    let f =
    fits c.args.d c.system_length-split.result c.args.workspace.now l.workspace c.attempt.new.workspace
    c.system_length-split.ensures c.requires.0.count l.invariant.0 c.attempt.auto.workspace in (
      ap length l.invariant.2 ∙ c.requires.1 ∙ sym (mul-one _),
      simp length-take (omega (arith, f, c.system_length-split.ensures)),
    )

pub returns-then-attempt : goal.returns-then-attempt
unfolding of_bits
returns-then-attempt c =
    let right = c.right_side in
    let a = c.args in
    let l = c.loop-eps in
    found a.d a.workspace.now l.workspace c.attempt.new.workspace a.beta.now l.beta l.eps c.system_length-split.result
    l.invariant c.loop-eps-test.true c.attempt.result c.attempt.ensures right.new.solution c.system_length-split.ensures
    c.if-attempt.true right.ensures

pub loop-eps-smaller : goal.loop-eps-smaller
unfolding of_bits
loop-eps-smaller c = fewer c.loop-eps.eps c.loop-eps.invariant.3 c.loop-eps-test.true

pub loop-eps-preserved : goal.loop-eps-preserved
unfolding of_bits
loop-eps-preserved c =
    let a = c.args in
    let l = c.loop-eps in
    goes_on a.d a.workspace.now l.workspace c.attempt.new.workspace a.beta.now l.beta l.eps c.system_length-split.result
    l.invariant c.loop-eps-test.true c.attempt.result c.attempt.ensures c.attempt.auto.workspace c.if-attempt.false

pub returns : goal.returns
unfolding of_bits
returns c =
    let a = c.args in
    let l = c.loop-eps in
    let e : solution_in a.d a.workspace.now ≡ unsolved =
    sym l.invariant.4 ∙ none_solves _ _ l.eps c.loop-eps-test.false in
    record { answer = rw e; coefficients = rw e l.invariant.2 }
