-- `text::write::Buffer::push_decimal` meets its contract. The loop's invariant: the digits of rest in front of those
-- that are stored are the digits of n, and there is room for them.
use Rattle.std.proofs.Common.{◌≡◌, ℕ, ◌+◌, ◌-◌, ◌/◌, ◌%◌, ◌<◌, List, ◌++◌, length, drop, take, set, length-set, refl, sym, ap, ◌∙◌, arith, rules}
use Rattle.text.specs.Decimal.{decimal_onto, decimal_of}
use Rattle.text.proofs.Lists.{drop_set, part_rest}
use Rattle.text.proofs.Decimals.{onto_short, onto_long, tenth_lt}
use Rattle.text.proofs.write.Buffer.push_decimal.Goals as goal

pub loop-rest-init : goal.loop-rest-init
unfolding decimal_of
loop-rest-init g c = (refl, search rules, omega arith, refl)

pub overflow_sub-first : goal.overflow_sub-first
overflow_sub-first g c = (tenth_lt c.loop-rest.first c.loop-rest.rest c.loop-rest.invariant.2 c.loop-rest-test.true).0

pub loop-rest-preserved : goal.loop-rest-preserved
loop-rest-preserved g c =
    let l = c.loop-rest in
    let t = tenth_lt l.first l.rest l.invariant.2 c.loop-rest-test.true in
    let d = 48 + l.rest % 10 in
    let e : l.first - 1 + 1 ≡ l.first = omega (arith, t.0) in (
      simp length-set l.invariant.0,
      omega arith,
      t.1,
      ap (λ (k : ℕ). decimal_onto (l.rest / 10) (l.rest / 10) (drop k (set l.digits l.first d))) e
          ∙ ap (decimal_onto (l.rest / 10) (l.rest / 10)) (drop_set l.digits l.first d (omega arith))
          ∙ sym (onto_long l.rest (drop (l.first + 1) l.digits) c.loop-rest-test.true)
          ∙ l.invariant.3,
    )

-- what is stored, once the last digit is
stored : (n i rest : ℕ) (digits : List ℕ) → length digits ≡ 10 → i < 10 → rest < 10
    → decimal_onto rest rest (drop (i + 1) digits) ≡ decimal_of n
    → take (10 - i) (drop i (set digits i (48 + rest))) ≡ decimal_of n
stored n i rest digits len h r e =
    let ds = set digits i (48 + rest) in
    ap (λ (k : ℕ). take (k - i) (drop i ds)) (sym (length-set digits i (48 + rest) ∙ len))
    ∙ part_rest ds i
    ∙ drop_set digits i (48 + rest) (omega arith)
    ∙ sym (onto_short rest rest (drop (i + 1) digits) r)
    ∙ e

pub push_bytes-requires : goal.push_bytes-requires
push_bytes-requires g c =
    let l = c.loop-rest in
    let e = ap length (stored c.args.n l.first l.rest l.digits l.invariant.0 l.invariant.1 c.loop-rest-test.false l.invariant.3) in
    (search rules, omega (arith, e, c.requires))

pub returns : goal.returns
returns g c =
    let l = c.loop-rest in
    c.push_bytes.ensures
    ∙ ap (λ (d : List ℕ). c.args.self.now ++ d)
    (stored c.args.n l.first l.rest l.digits l.invariant.0 l.invariant.1 c.loop-rest-test.false l.invariant.3)
