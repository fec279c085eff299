-- `float::hex::hex_digit` meets its contract.
use Rattle.std.proofs.Common.{le-ltb, lt-ltb}
use Rattle.float.specs.Hex.{hex_digit}
use Rattle.float.proofs.hex.hex_digit.Goals as goal

pub returns-then-d-lt10 : goal.returns-then-d-lt10
unfolding hex_digit
returns-then-d-lt10 c = simp (lt-ltb _ _ c.if-d-lt10.true)

pub returns : goal.returns
unfolding hex_digit
returns c = simp (le-ltb _ _ c.if-d-lt10.false)
