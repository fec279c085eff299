-- `models::prediction::write_errors` meets its contract. The loop's invariant: the first i cells are the errors of the
-- first i rows, and the others are as they were.
use mathlib.Core.Path.{refl, ◌∙◌}
use mathlib.Core.List.{List, zip_with}
use Prim.Native.Nat.{◌≤◌, ◌<◌}
use native.Mathlib.Omega.{arith}
use lib.Ieee.{Float, nan}
use lib.ListN.{length, length-set}
use Rattle.matrix.proofs.Lists.{length_zip_with, overwrite_all}
use Rattle.models.specs.Prediction.{error_of}
use Rattle.models.proofs.Writing.{write_next, error_at}
use borrow.Author.Rules.{rules}
use Rattle.models.proofs.prediction.write_errors.Goals as goal

pub loop-i-init : goal.loop-i-init
loop-i-init c = (search rules, refl, refl)

pub loop-i-preserved : goal.loop-i-preserved
loop-i-preserved c =
    let a = c.args in
    let l = c.loop-i in
    let new : List Float = zip_with error_of a.observed.now a.predicted.now in
    let n = length_zip_with error_of a.observed.now a.predicted.now c.requires.observed_in_bounds in
    let t : l.i < length a.observed.now = omega arith in
    let p : length a.observed.now ≤ length a.predicted.now = c.requires.observed_in_bounds in
    let e : length a.observed.now ≤ length a.error.now = c.requires.observed_in_bounds_2 in
    let v =
    error_at a.observed.now a.predicted.now l.i c.error_of.result t (omega arith)
    c.error_of.ensures in (
      omega arith,
      write_next new a.error.now l.error l.i c.error_of.result nan (omega arith) (omega arith)
          l.invariant.1 v,
      simp length-set l.invariant.2,
    )

pub returns : goal.returns
returns c =
    let a = c.args in
    let l = c.loop-i in
    let new : List Float = zip_with error_of a.observed.now a.predicted.now in
    let n = length_zip_with error_of a.observed.now a.predicted.now c.requires.observed_in_bounds in
    l.invariant.1 ∙ overwrite_all new a.error.now l.i (omega arith)
