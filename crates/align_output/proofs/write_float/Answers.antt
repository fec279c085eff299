-- `align_output::write_float` meets its contract: one line, of the pattern that `bits32` gives.
use Rattle.std.proofs.Common.{rules}
use Rattle.align_output.specs.Output.{float_line}
use Rattle.align_output.proofs.write_float.Goals as goal

pub push_hex_line-requires : goal.push_hex_line-requires
unfolding float_line
push_hex_line-requires g c = search rules

pub returns : goal.returns
unfolding float_line
returns g c = search rules
