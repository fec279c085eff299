-- `float::value::is_normal64` meets its contract: the library's test is this one.
use Rattle.std.proofs.Common.{◌∙◌}
use Rattle.float.proofs.Library.{normal_is}
use Rattle.float.proofs.value.is_normal64.Goals as goal

pub returns : goal.returns
returns c = c.is_normal.ensures ∙ normal_is c.args.x
