-- `model_fit::training::Sample::is_finite` meets its contract: of retention's cells the log and the target are tested.
use mathlib.Core.Path.{◌≡◌, sym, ◌∙◌}
use mathlib.Core.Bool.{true, false, ◌&&◌}
use Rattle.float.specs.Value.{is_finite}
use Rattle.regression.specs.Sparse.{all_finite}
use Rattle.model_fit.proofs.Finite.{sample_finite}
use Rattle.model_fit.proofs.training.Sample.is_finite.Goals as goal

pub returns-then-is_finite64 : goal.returns-then-is_finite64
returns-then-is_finite64 c =
    let s = c.args.self in
    let f : is_finite s.ion.log ≡ true = sym c.is_finite64.ensures ∙ c.if-is_finite64.true in
    let tested : is_finite s.ion.log && is_finite s.y ≡ all_finite c.args.values.now =
    sample_finite s.model c.in-Retention.is s.ion s.y c.args.places.now c.args.values.now c.requires in
    c.is_finite64-then-is_finite64.ensures ∙ rw f at tested

pub returns-else-is_finite64 : goal.returns-else-is_finite64
returns-else-is_finite64 c =
    let s = c.args.self in
    let f : is_finite s.ion.log ≡ false = sym c.is_finite64.ensures ∙ c.if-is_finite64.false in
    let tested : is_finite s.ion.log && is_finite s.y ≡ all_finite c.args.values.now =
    sample_finite s.model c.in-Retention.is s.ion s.y c.args.places.now c.args.values.now c.requires in
    c.if-is_finite64.false ∙ rw f at tested
