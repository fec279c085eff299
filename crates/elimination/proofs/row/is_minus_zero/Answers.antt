-- `elimination::row::is_minus_zero` meets its contract: of the two zeros, the pattern of +0.0 is 0.
use mathlib.Core.Path.{sym, ap, ◌∙◌}
use mathlib.Core.Bool.{not}
use Prim.Native.Nat.{ℕ}
use lib.Dec.{eqb}
use lib.Ieee.{of_bits}
use Rattle.float.proofs.Zeros.{is_zero_lem, zero_bits, nonzero_plain}
use Rattle.elimination.proofs.row.is_minus_zero.Goals as goal

pub returns-then-x : goal.returns-then-x
returns-then-x c =
    let x = c.args.x in
    let z = sym (is_zero_lem x) ∙ c.if-x.true in
    ap (λ (b : ℕ). not (eqb b 0)) c.bits64.ensures ∙ ap not (sym (zero_bits x z))

pub returns-else-x : goal.returns-else-x
unfolding of_bits
returns-else-x c =
    let x = c.args.x in
    c.if-x.false ∙ ap not (sym (nonzero_plain x (sym (is_zero_lem x) ∙ c.if-x.false)))
