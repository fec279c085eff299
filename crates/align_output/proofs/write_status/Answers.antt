-- `align_output::write_status` meets its contract: one line.
use Rattle.std.proofs.Common.{rules}
use Rattle.align_output.specs.Output.{status_text}
use Rattle.align_output.proofs.write_status.Goals as goal

pub push_decimal_line-requires : goal.push_decimal_line-requires
unfolding status_text
push_decimal_line-requires g c = search rules

pub returns : goal.returns
unfolding status_text
returns g c = search rules
