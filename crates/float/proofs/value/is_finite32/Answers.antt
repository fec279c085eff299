-- `float::value::is_finite32` meets its contract: the library's test is this one.
use Rattle.std.proofs.Common.{◌∙◌}
use Rattle.float.proofs.Library.{finite_is}
use Rattle.float.proofs.value.is_finite32.Goals as goal

pub returns : goal.returns
returns c = c.is_finite.ensures.value ∙ finite_is c.args.x
