-- `model_fit::checks::lengths_agree` meets its contract, model by model.
use mathlib.Core.Path.{◌≡◌, refl, sym, ◌∙◌}
use mathlib.Core.Bool.{and-true}
use mathlib.Core.List.{[], ◌∷◌}
use Prim.Native.Nat.{ℕ}
use lib.Dec.{eqb}
use lib.ListN.{length}
use borrow.Author.Tests.{eq-eqb}
use Rattle.status.specs.Checks.{every, lengths_agree}
use Rattle.model_fit.specs.Input.{columns_agree}
use Rattle.model_fit.proofs.checks.lengths_agree.Goals as goal

-- a length that is n itself, and one length
three : (n a b c : ℕ) → lengths_agree n (a ∷ b ∷ c ∷ n ∷ []) ≡ lengths_agree n (a ∷ b ∷ c ∷ [])
unfolding every
three n a b c = rw (eq-eqb n n refl)

one : (n a : ℕ) → lengths_agree n (a ∷ []) ≡ eqb a n
unfolding every
one n a = and-true (eqb a n)

pub returns-then-same_lengths : goal.returns-then-same_lengths
unfolding columns_agree
returns-then-same_lengths c =
    let r = c.args.input.rows in
    let t = c.args.input.table in
    let e = sym (three (length r.peptide.now) (length r.label.now) (length r.q.now) (length r.observed.now))
    ∙ sym c.same_lengths.ensures ∙ c.if-same_lengths.true in
    rw (c.in-Retention.is, e, one (length t.masses.now) (length t.logs.now))

pub returns-else-same_lengths : goal.returns-else-same_lengths
unfolding columns_agree
returns-else-same_lengths c =
    let r = c.args.input.rows in
    let e = sym (three (length r.peptide.now) (length r.label.now) (length r.q.now) (length r.observed.now))
    ∙ sym c.same_lengths.ensures ∙ c.if-same_lengths.false in
    rw (c.in-Retention.is, e) c.if-same_lengths.false

pub returns-in-Mobility : goal.returns-in-Mobility
unfolding columns_agree
returns-in-Mobility c = rw c.in-Mobility.is c.same_lengths-in-Mobility.ensures
