-- `float::convert::narrow` meets its contract: it compares x with the f64 that the f32 is.
use Rattle.std.proofs.Common.{ap, ◌∙◌}
use lib.Ieee.{Float, eq}
use Rattle.float.proofs.convert.narrow.Goals as goal

pub returns : goal.returns
returns c =
    let v = c.nearest_f32-value.ensures in
    record {
      value_value = v;
      exact_value = ap (λ (y : Float). eq y c.args.x) (c.widen-wide.ensures ∙ v);
    }
