-- `status::cells_fit` meets its contract: peptides × files is within a number where peptides is within the quotient.
use mathlib.Core.Path.{◌≡◌, sym, ap, ◌∙◌}
use Prim.Native.Nat.{ℕ, ◌*◌, ◌/◌, ◌≤◌, ◌<◌}
use native.Mathlib.Nat.{le-div_iff_mul-le, div-lt_iff_lt-mul, lt_of_not-le, mul-zero}
use native.Mathlib.Decide.{dec_le}
use native.Mathlib.Omega.{arith}
use lib.Dec.{leb}
use borrow.Author.Tests.{eq-eqb, le-leb, lt-leb}
use Rattle.status.proofs.cells_fit.Goals as goal

quotient : (max files peptides : ℕ) → 0 < files → leb peptides (max / files) ≡ leb (peptides * files) max
quotient max files peptides h = cases (dec_le peptides (max / files))
  where
    cases : Dec (peptides ≤ max / files) → leb peptides (max / files) ≡ leb (peptides * files) max
    cases (yes l) = le-leb _ _ l ∙ sym (le-leb _ _ ((le-div_iff_mul-le h).0 l))
    cases (no n) = lt-leb _ _ (lt_of_not-le n) ∙ sym (lt-leb _ _ ((div-lt_iff_lt-mul h).0 (lt_of_not-le n)))

pub returns-then-files-eq0 : goal.returns-then-files-eq0
returns-then-files-eq0 c =
    let p = c.args in
    let none : p.peptides * p.files ≡ 0 =
    ap (λ (n : ℕ). p.peptides * n) c.if-files-eq0.true ∙ mul-zero p.peptides in
    eq-eqb _ _ c.if-files-eq0.true ∙ sym (le-leb (p.peptides * p.files) p.cells (omega (arith, none)))

pub returns-else-files-eq0 : goal.returns-else-files-eq0
returns-else-files-eq0 c =
    let p = c.args in
    let h : 0 < p.files = omega (arith, c.if-files-eq0.false) in
    quotient p.cells p.files p.peptides h
