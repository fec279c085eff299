-- `packed_rows::add_run` meets its contract: two values at a time, until none is left.
use native.Mathlib.Omega.{arith}
use Rattle.packed_rows.proofs.Run.{run_first, run_more, run_all}
use Rattle.packed_rows.proofs.add_run.Goals as goal

pub returns-then-values-eq4 : goal.returns-then-values-eq4
returns-then-values-eq4 c =
    let a = c.args in
    let v = a.values.now in
    let l = a.acc.now in
    let two = run_first a.at a.x v l c.add_two.new.acc (omega (arith, c.requires.0.four))
    c.add_two.ensures in
    let four =
    run_more a.at a.x v l 2 c.add_two.new.acc c.add_two-2.new.acc (omega
    (arith, c.requires.0.four, c.requires.0.even))
    c.add_two-2.ensures two in
    run_all a.at a.x v l 4 c.add_two-2.new.acc (omega (arith, c.requires.0.eight, c.requires.0.even)) four

pub returns-then-values-eq6 : goal.returns-then-values-eq6
returns-then-values-eq6 c =
    let a = c.args in
    let v = a.values.now in
    let l = a.acc.now in
    let two = run_first a.at a.x v l c.add_two.new.acc (omega (arith, c.requires.0.four))
    c.add_two.ensures in
    let four =
    run_more a.at a.x v l 2 c.add_two.new.acc c.add_two-2.new.acc (omega
    (arith, c.requires.0.four, c.requires.0.even))
    c.add_two-2.ensures two in
    let six =
    run_more a.at a.x v l 4 c.add_two-2.new.acc c.add_two-3.new.acc (omega
    (arith, c.requires.0.four, c.requires.0.even))
    c.add_two-3.ensures four in
    run_all a.at a.x v l 6 c.add_two-3.new.acc (omega (arith, c.requires.0.eight, c.requires.0.even)) six

pub returns : goal.returns
returns c =
    let a = c.args in
    let v = a.values.now in
    let l = a.acc.now in
    let two = run_first a.at a.x v l c.add_two.new.acc (omega (arith, c.requires.0.four))
    c.add_two.ensures in
    let four =
    run_more a.at a.x v l 2 c.add_two.new.acc c.add_two-2.new.acc (omega
    (arith, c.requires.0.four, c.requires.0.even))
    c.add_two-2.ensures two in
    let six =
    run_more a.at a.x v l 4 c.add_two-2.new.acc c.add_two-3.new.acc (omega
    (arith, c.requires.0.four, c.requires.0.even))
    c.add_two-3.ensures four in
    let eight =
    run_more a.at a.x v l 6 c.add_two-3.new.acc c.add_two-4.new.acc (omega
    (arith, c.requires.0.four, c.requires.0.even))
    c.add_two-4.ensures six in
    run_all a.at a.x v l 8 c.add_two-4.new.acc (omega (arith, c.requires.0.eight, c.requires.0.even)) eight
