-- `model_fit::Table::log_at` meets its contract.
use mathlib.Core.Path.{sym}
use lib.Ieee.{nan, div, of_bits}
use lib.ListN.{get_or-eq_default}
use Rattle.std.proofs.lemmas.Bool.{ltb-false}
use lib.ListN.{length}
use Rattle.model_fit.proofs.Table.log_at.Goals as goal

pub returns-in-None : goal.returns-in-None
unfolding div of_bits
returns-in-None c =
    sym (get_or-eq_default c.args.self.logs.now nan (ltb-false c.args.p.0 (length c.args.self.logs.now) (sym c.in-None.ensures.lookup.0)))
