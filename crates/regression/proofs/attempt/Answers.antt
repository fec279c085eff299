-- `regression::attempt` meets its contract: the first rows are the whole normal equations after `unfold`, and the
-- elimination works on them.
use mathlib.Core.Path.{◌≡◌, sym, ◌∙◌, ap}
use mathlib.Core.Bool.{Bool}
use mathlib.Core.List.{List, ◌++◌}
use Prim.Native.Nat.{ℕ, ◌+◌, ◌*◌}
use native.Mathlib.Omega.{arith}
use lib.ListN.{length, drop}
use lib.Seq.{take_at, drop_at}
use lib.Ieee.{Float}
use Rattle.matrix.specs.Rows.{rows_of, flat}
use Rattle.matrix.proofs.Laws.{length_flat, rows_of_flat}
use Rattle.elimination.specs.Elimination.{Tried}
use Rattle.regression.specs.Workspace.{system_length, stored, equations}
use Rattle.regression.specs.Solve.{Attempted}
use Rattle.regression.proofs.Triangle.{wide_unfolded, length_unfolded}
use Rattle.regression.proofs.Workspace.{two_parts}
use Rattle.regression.proofs.attempt.Goals as goal

-- what the elimination left of the full rows, and what is stored
attempted : (d : ℕ) (eps : Float) (ws₀ full last back : List Float) (r : Bool)
    → full ≡ flat (equations d ws₀)
    → back ≡ drop (system_length d) ws₀
    → Tried d 1 eps full last r
    → length last ≡ length full
    → Attempted d eps ws₀ (last ++ back) r
attempted d eps ws₀ full last back r written same tried len =
    let n : length (equations d ws₀) ≡ d = length_unfolded d (stored d ws₀) in
    let wide = wide_unfolded d (stored d ws₀) in
    let long : length last ≡ system_length d =
    len ∙ ap length written ∙ length_flat (d + 1) (equations d ws₀) wide ∙ ap (λ (k : ℕ). k * (d + 1)) n in
    let rows : rows_of (d + 1) d full ≡ equations d ws₀ =
    ap (rows_of (d + 1) d) written
    ∙ ap (λ (k : ℕ). rows_of (d + 1) k (flat (equations d ws₀))) (sym n)
    ∙ rows_of_flat (d + 1) (equations d ws₀) wide in
    record {
      answer = rw rows at tried.solved;
      system = rw (take_at last back (system_length d) long) (rw rows at tried.rows);
      rest = drop_at last back (system_length d) long ∙ same;
    }

pub unfold-requires-clause-cells : goal.unfold-requires-clause-cells
unfold-requires-clause-cells c =
    let split = c.split_at_mut-full.ensures in (
      split.front_len ∙ c.system_length.ensures,
      omega (arith, split.back_len, c.system_length.ensures, c.requires.count, two_parts c.args.d),
    )

pub returns : goal.returns
returns c =
    let a = c.args in
    let split = c.split_at_mut-full.ensures in
    let back = split.back ∙ ap (λ (k : ℕ). drop k a.workspace.now) c.system_length.ensures in
    attempted a.d a.eps a.workspace.now c.unfold.new.full c.solve_inner.new.cells c.split_at_mut-full.result.1.now
    c.solve_inner.result (rw back at c.unfold.ensures) back c.solve_inner.ensures c.solve_inner.auto.cells
