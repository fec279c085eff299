-- `model_fit::training::Sample::add` meets its contract: a sample that is not finite is written out, and another is
-- added by its cells that are not zero.
use mathlib.Core.Path.{◌≡◌, ap, ◌∙◌}
use mathlib.Core.List.{List}
use Prim.Native.Nat.{ℕ, ◌+◌, ◌-◌}
use native.Mathlib.Omega.{arith}
use lib.Ieee.{Float, nan}
use lib.ListN.{length, get_or, length-append}
use lib.Seq.{get_or-append-add}
use Rattle.embedding.specs.Design.{order_of}
use Rattle.embedding.specs.Row.{row_of}
use Rattle.matrix.specs.Nonzero.{Nonzeros}
use Rattle.regression.specs.Regression.{extended}
use Rattle.regression.specs.Sparse.{ListedRow}
use Rattle.model_fit.specs.Samples.{sample_from}
use Rattle.model_fit.specs.Shared.{sample_at}
use Rattle.model_fit.proofs.RowLaws.{wide_design}
use Rattle.model_fit.proofs.training.Sample.add.Goals as goal

-- a sample that is listed
sample_listed : (D : ℕ) (row : List Float) (y : Float) (places : List ℕ) (values : List Float) → length row ≡ D
    → Nonzeros 0 (extended (sample_from row y)) places values
    → ListedRow (D + 1) y places values (extended (sample_from row y))
sample_listed D row y places values wide listed =
    let ext : List Float = extended (sample_from row y) in
    record {
      wide = length-append row _ ∙ ap (λ (k : ℕ). k + 1) wide;
      some = omega arith;
      listed = listed;
      last =
          ap (λ (k : ℕ). get_or ext k nan) {x = D + 1 - 1} {y = length row + 0} (omega (arith, wide))
          ∙ get_or-append-add row _ 0 nan;
    }

pub add_row_listed-requires-clause-listed_row : goal.add_row_listed-requires-clause-listed_row
add_row_listed-requires-clause-listed_row c =
    let s = c.args.self in (
      extended (sample_at s),
      rw c.order-d.ensures (sample_listed (order_of s.model) (row_of s.model s.ion) s.y _ _
          (wide_design s.model s.ion.letters.now s.ion.log s.ion.mass s.ion.charge) c.list-n.ensures.nonzeros),
    )

pub returns : goal.returns
returns c =
    let s = c.args.self in
    (rw c.order-d.ensures at c.add_row_listed.ensures.workspace_after) (extended (sample_at s))
    (sample_listed (order_of s.model) (row_of s.model s.ion) s.y _ _
    (wide_design s.model s.ion.letters.now s.ion.log s.ion.mass s.ion.charge) c.list-n.ensures.nonzeros)
