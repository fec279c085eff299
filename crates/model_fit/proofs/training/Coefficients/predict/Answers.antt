-- `model_fit::training::Coefficients::predict` meets its contract: where a coefficient is not finite the row is
-- written out, and else it is split.
use mathlib.Core.Path.{◌≡◌, sym, ap, ◌∙◌, subst}
use mathlib.Core.List.{List}
use Prim.Native.Nat.{ℕ, ◌≤◌}
use native.Mathlib.Omega.{arith}
use lib.Ieee.{Float}
use lib.ListN.{length, take, drop}
use lib.Seq.{length-take-le}
use Rattle.embedding.specs.Design.{head_of}
use Rattle.embedding.specs.Row.{row_of}
use Rattle.matrix.specs.Nonzero.{Nonzeros}
use Rattle.regression.specs.Sparse.{SplitRow}
use Rattle.model_fit.proofs.RowLaws.{wide_design, head_max, head_order}
use Rattle.model_fit.proofs.training.Coefficients.predict.Goals as goal

-- a row whose first k cells are the first h of a list, k and h being the same, and whose others are listed
in_parts : (k h n : ℕ) (cells row : List Float) (places : List ℕ) (values : List Float) → h ≡ k → h ≤ length cells
    → k ≤ n
    → length row ≡ n → take k cells ≡ take k row → Nonzeros k (drop k row) places values
    → SplitRow n (take h cells) places values row
in_parts k h n cells row places values e room fits wide first rest =
    let size : length (take h cells) ≡ k = length-take-le h cells room ∙ e in
    record {
      wide = wide;
      short = omega arith;
      first = ap (λ (i : ℕ). take i row) size ∙ sym first ∙ ap (λ (i : ℕ). take i cells) (sym e);
      rest = subst (λ (i : ℕ). Nonzeros i (drop i row) places values) (sym size) rest;
    }

pub predict_listed-requires-clause-split_row : goal.predict_listed-requires-clause-split_row
predict_listed-requires-clause-split_row c =
    let s = c.args.self in
    let o = c.split-n in (
      row_of s.model c.args.ion,
      in_parts (head_of s.model) c.head.result (length s.beta.now) o.new.head _ _ _ c.head.ensures
          (omega (arith, c.head.ensures, head_max s.model, o.auto.head))
          (omega (arith, head_order s.model, s.long))
          (wide_design s.model c.args.ion.letters.now c.args.ion.log c.args.ion.mass c.args.ion.charge ∙ sym s.long)
          o.ensures.head_after o.ensures.nonzeros,
    )

pub returns : goal.returns
returns c =
    let s = c.args.self in
    let o = c.split-n in
    c.predict_listed.ensures (row_of s.model c.args.ion)
    (in_parts (head_of s.model) c.head.result (length s.beta.now) o.new.head _ _ _ c.head.ensures
    (omega (arith, c.head.ensures, head_max s.model, o.auto.head))
    (omega (arith, head_order s.model, s.long))
    (wide_design s.model c.args.ion.letters.now c.args.ion.log c.args.ion.mass c.args.ion.charge ∙ sym s.long)
    o.ensures.head_after o.ensures.nonzeros)
