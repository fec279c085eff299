-- `gauss::checks::is_product` meets its contract: len is a times b just where a divides it and the quotient is b.
use mathlib.Core.Path.{◌≡◌, sym, ◌∙◌}
use mathlib.Core.Bool.{false}
use Prim.Native.Nat.{◌*◌, ◌%◌}
use native.Mathlib.Nat.{mul-mod_right}
use lib.Dec.{eqb}
use borrow.Author.Tests.{ne_eqb}
use Rattle.gauss.proofs.checks.is_product.Goals as goal

pub returns-else-len-a-eq0 : goal.returns-else-len-a-eq0
returns-else-len-a-eq0 c =
    let apart : eqb c.args.len (c.args.a * c.args.b) ≡ false =
    ne_eqb c.args.len (c.args.a * c.args.b) (λ e. c.if-len-a-eq0.false (rw e (mul-mod_right c.args.a c.args.b))) in
    ne_eqb (c.args.len % c.args.a) 0 c.if-len-a-eq0.false ∙ sym apart
