-- `model_fit::training::Sample::list` meets its contract: the design row's cells are listed, and the target is put
-- behind them and counts where it is not zero.
use mathlib.Core.Path.{◌≡◌, sym, ap, ◌∙◌}
use mathlib.Core.List.{List, [], ◌∷◌, ◌++◌}
use Prim.Native.Nat.{ℕ}
use native.Mathlib.Numerals.{add-one}
use native.Mathlib.Omega.{arith}
use lib.Ieee.{Float, of_bits}
use lib.ListN.{length, take}
use lib.Seq.{take-set-le, take-suc-set}
use Rattle.float.proofs.Zeros.{is_zero_lem}
use Rattle.embedding.specs.Row.{row_of}
use Rattle.model_fit.proofs.Laws.{nothing_more, one_listed}
use Rattle.model_fit.proofs.RowLaws.{wide_design, order_max}
use Rattle.model_fit.proofs.training.Sample.list.Goals as goal

pub returns-then-self-clause-nonzeros : goal.returns-then-self-clause-nonzeros
unfolding of_bits
returns-then-self-clause-nonzeros c =
    let s = c.args.self in
    let row : List Float = row_of s.model s.ion in
    let n : ℕ = c.list-n.result in
    let places : List ℕ = c.list-n.new.places in
    let values : List Float = c.list-n.new.values in
    let m = nothing_more row (take n places) (take n values) s.y c.list-n.ensures.nonzeros
    (cc (is_zero_lem s.y)) in record {
      places_are = take-set-le n places n c.order.result (omega arith) ∙ m.places_are;
      values_are = take-set-le n values n s.y (omega arith) ∙ m.values_are;
    }

-- the target's column is the one after the row's
pub returns-clause-nonzeros : goal.returns-clause-nonzeros
unfolding of_bits
returns-clause-nonzeros c =
    let s = c.args.self in
    let row : List Float = row_of s.model s.ion in
    let d : ℕ = c.order.result in
    let n : ℕ = c.list-n.result in
    let places : List ℕ = c.list-n.new.places in
    let values : List Float = c.list-n.new.values in
    let column : d ≡ length row =
    c.order.ensures ∙ sym (wide_design s.model s.ion.letters.now s.ion.log s.ion.mass s.ion.charge) in
    let few = c.list-n.ensures.upper_bound in
    let m = one_listed row (take n places) (take n values) s.y c.list-n.ensures.nonzeros
    (cc (is_zero_lem s.y)) in record {
      places_are =
          rw (add-one n)
          (take-suc-set places n d (omega (arith, few, order_max s.model, c.list-n.auto.places)))
          ∙ ap (λ (k : ℕ). take n places ++ k ∷ []) column
          ∙ m.places_are;
      values_are =
          rw (add-one n)
          (take-suc-set values n s.y (omega (arith, few, order_max s.model, c.list-n.auto.values)))
          ∙ m.values_are;
    }
