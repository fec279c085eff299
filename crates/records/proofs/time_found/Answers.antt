-- `records::time_found` meets its contract: what was found decides.
use mathlib.Core.Path.{sym, ap, ◌∙◌}
use lib.Ieee.{Float}
use Rattle.std.specs.Prelude.{Ok}
use Rattle.std.proofs.lemmas.Result.{err_from_is_err_and}
use Rattle.records.specs.Record.{time_found}
use Rattle.records.proofs.time_found.Goals as goal

pub returns-in_err-a : goal.returns-in_err-a
returns-in_err-a g c =
    let p = err_from_is_err_and c.from_residual.result c.from_residual.ensures.1 in
    rw (p.1, p.2) (sym (ap (λ f. time_found f c.args.rt) c.in_err-a.was))

pub returns : goal.returns
returns g c =
    ap (λ (t : Float). Ok t) c.aligned_time.ensures
    ∙ sym (ap (λ f. time_found f c.args.rt) c.in_ok-a.was)
