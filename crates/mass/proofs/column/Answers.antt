-- `mass::column` meets its contract: at each arm the place's column is computed, and the place that is left is Y's.
use Rattle.std.proofs.Common.{◌≡◌, ℕ, ◌+◌, refl, sym, ap, ◌∙◌, arith}
use Rattle.mass.specs.Mass.{column_of, place_from, valid_aa}
use Rattle.mass.proofs.column.Goals as goal

-- a byte with the column of the letter at place r, where r is k, has that of the letter at place k
found : (b : ℕ) {r k m : ℕ} → r ≡ k → column_of (65 + k) ≡ m → column_of (65 + r) ≡ column_of b → m ≡ column_of b
found b h e f = sym e ∙ ap (λ (n : ℕ). column_of (65 + n)) (sym h) ∙ f

pub returns-in-0 : goal.returns-in-0
unfolding column_of place_from valid_aa
returns-in-0 c = found c.args.letter c.in-0.is refl c.alphabet_place.ensures.1

pub returns-in-1 : goal.returns-in-1
unfolding column_of place_from valid_aa
returns-in-1 c = found c.args.letter c.in-1.is refl c.alphabet_place.ensures.1

pub returns-in-2 : goal.returns-in-2
unfolding column_of place_from valid_aa
returns-in-2 c = found c.args.letter c.in-2.is refl c.alphabet_place.ensures.1

pub returns-in-3 : goal.returns-in-3
unfolding column_of place_from valid_aa
returns-in-3 c = found c.args.letter c.in-3.is refl c.alphabet_place.ensures.1

pub returns-in-4 : goal.returns-in-4
unfolding column_of place_from valid_aa
returns-in-4 c = found c.args.letter c.in-4.is refl c.alphabet_place.ensures.1

pub returns-in-5 : goal.returns-in-5
unfolding column_of place_from valid_aa
returns-in-5 c = found c.args.letter c.in-5.is refl c.alphabet_place.ensures.1

pub returns-in-6 : goal.returns-in-6
unfolding column_of place_from valid_aa
returns-in-6 c = found c.args.letter c.in-6.is refl c.alphabet_place.ensures.1

pub returns-in-7 : goal.returns-in-7
unfolding column_of place_from valid_aa
returns-in-7 c = found c.args.letter c.in-7.is refl c.alphabet_place.ensures.1

pub returns-in-8 : goal.returns-in-8
unfolding column_of place_from valid_aa
returns-in-8 c = found c.args.letter c.in-8.is refl c.alphabet_place.ensures.1

pub returns-in-9 : goal.returns-in-9
unfolding column_of place_from valid_aa
returns-in-9 c = found c.args.letter c.in-9.is refl c.alphabet_place.ensures.1

pub returns-in-10 : goal.returns-in-10
unfolding column_of place_from valid_aa
returns-in-10 c = found c.args.letter c.in-10.is refl c.alphabet_place.ensures.1

pub returns-in-11 : goal.returns-in-11
unfolding column_of place_from valid_aa
returns-in-11 c = found c.args.letter c.in-11.is refl c.alphabet_place.ensures.1

pub returns-in-12 : goal.returns-in-12
unfolding column_of place_from valid_aa
returns-in-12 c = found c.args.letter c.in-12.is refl c.alphabet_place.ensures.1

pub returns-in-13 : goal.returns-in-13
unfolding column_of place_from valid_aa
returns-in-13 c = found c.args.letter c.in-13.is refl c.alphabet_place.ensures.1

pub returns-in-14 : goal.returns-in-14
unfolding column_of place_from valid_aa
returns-in-14 c = found c.args.letter c.in-14.is refl c.alphabet_place.ensures.1

pub returns-in-15 : goal.returns-in-15
unfolding column_of place_from valid_aa
returns-in-15 c = found c.args.letter c.in-15.is refl c.alphabet_place.ensures.1

pub returns-in-16 : goal.returns-in-16
unfolding column_of place_from valid_aa
returns-in-16 c = found c.args.letter c.in-16.is refl c.alphabet_place.ensures.1

pub returns-in-17 : goal.returns-in-17
unfolding column_of place_from valid_aa
returns-in-17 c = found c.args.letter c.in-17.is refl c.alphabet_place.ensures.1

pub returns-in-18 : goal.returns-in-18
unfolding column_of place_from valid_aa
returns-in-18 c = found c.args.letter c.in-18.is refl c.alphabet_place.ensures.1

pub returns-in-19 : goal.returns-in-19
unfolding column_of place_from valid_aa
returns-in-19 c = found c.args.letter c.in-19.is refl c.alphabet_place.ensures.1

pub returns-in-20 : goal.returns-in-20
unfolding column_of place_from valid_aa
returns-in-20 c = found c.args.letter c.in-20.is refl c.alphabet_place.ensures.1

pub returns-in-21 : goal.returns-in-21
unfolding column_of place_from valid_aa
returns-in-21 c = found c.args.letter c.in-21.is refl c.alphabet_place.ensures.1

pub returns-in-22 : goal.returns-in-22
unfolding column_of place_from valid_aa
returns-in-22 c = found c.args.letter c.in-22.is refl c.alphabet_place.ensures.1

pub returns-in-23 : goal.returns-in-23
unfolding column_of place_from valid_aa
returns-in-23 c = found c.args.letter c.in-23.is refl c.alphabet_place.ensures.1

pub returns-in-25 : goal.returns-in-25
unfolding column_of place_from valid_aa
returns-in-25 c = found c.args.letter c.in-25.is refl c.alphabet_place.ensures.1

pub returns-in_default : goal.returns-in_default
unfolding column_of place_from valid_aa
returns-in_default c =
    let last : c.alphabet_place.result ≡ 24 = omega (arith, c.alphabet_place.ensures.0) in
    found c.args.letter last refl c.alphabet_place.ensures.1
