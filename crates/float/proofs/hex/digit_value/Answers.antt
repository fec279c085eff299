-- `float::hex::digit_value` meets its contract: the ranges part the bytes that are digits from the others.
use Rattle.std.proofs.Common.{◌∙◌, ◌-◌, ◌+◌, arith}
use Rattle.float.proofs.Digits.{value_decimal, value_letter, value_none, read_some, read_none}
use Rattle.float.proofs.hex.digit_value.Goals as goal

pub returns-in-48-to-57 : goal.returns-in-48-to-57
returns-in-48-to-57 c =
    read_some c.args.c (c.args.c - 48) (value_decimal c.args.c (omega arith) (omega arith)) (omega arith)

pub returns-in-65-to-70 : goal.returns-in-65-to-70
returns-in-65-to-70 c =
    read_some c.args.c (c.args.c - 65 + 10) (value_letter c.args.c (omega arith) (omega arith) ∙ omega arith) (omega arith)

pub returns-in_default : goal.returns-in_default
returns-in_default c = read_none c.args.c (value_none c.args.c (λ h k. omega arith) (λ h k. omega arith))

pub returns-in_default-2 : goal.returns-in_default-2
returns-in_default-2 c = read_none c.args.c (value_none c.args.c (λ h k. omega arith) (λ h k. omega arith))

pub returns-in_default-3 : goal.returns-in_default-3
returns-in_default-3 c = read_none c.args.c (value_none c.args.c (λ h k. omega arith) (λ h k. omega arith))
