-- `float::bits::canonical32` meets its contract: to the logic there is one NaN.
use Rattle.std.proofs.Common.{refl}
use lib.Ieee.{binary32}
use Rattle.float.proofs.Nan.{the_nan}
use Rattle.float.proofs.bits.canonical32.Goals as goal

pub returns-then-x : goal.returns-then-x
returns-then-x c = the_nan binary32 c.args.x c.if-x.true

pub returns : goal.returns
returns c = refl
