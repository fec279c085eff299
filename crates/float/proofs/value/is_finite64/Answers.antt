-- `float::value::is_finite64` meets its contract: the library's test is this one.
use Rattle.std.proofs.Common.{◌∙◌}
use Rattle.float.proofs.Library.{finite_is}
use Rattle.float.proofs.value.is_finite64.Goals as goal

pub returns : goal.returns
returns c = c.is_finite.ensures.value ∙ finite_is c.args.x
