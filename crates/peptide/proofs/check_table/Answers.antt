-- `peptide::check_table` meets its contract: the first of the two checks that fails.
use Rattle.std.proofs.Common.{rules}
use Rattle.peptide.specs.Table.{table_status}
use Rattle.peptide.proofs.check_table.Goals as goal

pub returns-in_err-require : goal.returns-in_err-require
unfolding table_status
returns-in_err-require c = search rules

pub returns : goal.returns
unfolding table_status
returns c = search rules
