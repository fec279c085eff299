-- `float::value::abs32` meets its contract: the library's size is this one.
use Rattle.std.proofs.Common.{◌∙◌}
use Rattle.float.proofs.Library.{magnitude_is}
use Rattle.float.proofs.value.abs32.Goals as goal

pub returns : goal.returns
returns c = c.canonical32.ensures ∙ c.abs.ensures.value ∙ magnitude_is c.args.x
