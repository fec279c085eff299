-- `text::decimal::digits_up_to` meets its contract. The loop's invariant: reading what is left from v gives what
-- reading the whole gives.
use Rattle.std.proofs.Common.{◌≡◌, ℕ, ◌+◌, ◌-◌, ◌*◌, ◌<◌, Bool, true, List, ◌∷◌, length, drop, get_or, sym, ap, ◌∙◌}
use Rattle.std.specs.Char.{is_ascii_digit}
use lib.ListN.{drop_of_length-le}
use Rattle.text.specs.Decimal.{is_digit, read_from}
use Rattle.text.proofs.Lists.{drop_next}
use Rattle.text.proofs.Decimals.{from_end, from_other, from_next, from_over}
use Rattle.text.proofs.decimal.digits_up_to.Goals as goal

digit_test : (c : ℕ) (b : Bool) → b ≡ is_ascii_digit c → is_digit c ≡ b
unfolding is_digit
digit_test c b h = sym h

-- at a turn of the loop
module _ (s : List ℕ) (max v i : ℕ) (lt : i < length s) (kept : read_from max v (drop i s) ≡ read_from max 0 s) where
  turn : read_from max v (get_or s i 0 ∷ drop (i + 1) s) ≡ read_from max 0 s
  turn = ap (read_from max v) (sym (drop_next 0 s i lt)) ∙ kept

  more : is_digit (get_or s i 0) ≡ true
      → read_from max (v * 10 + (get_or s i 0 - 48)) (drop (i + 1) s) ≡ read_from max 0 s
  more h = sym (from_next max v (get_or s i 0) (drop (i + 1) s) h) ∙ turn

pub returns-then-not-is_ascii_digit : goal.returns-then-not-is_ascii_digit
returns-then-not-is_ascii_digit c =
    let l = c.loop-c in
    sym (from_other c.args.max l.v _ _ (digit_test _ _ c.if-not-is_ascii_digit.ensures.value))
    ∙ turn c.args.s.now c.args.max l.v l.c-index c.loop-c-test.true l.invariant.1

pub returns-then-v-max : goal.returns-then-v-max
returns-then-v-max c =
    let l = c.loop-c in
    sym (from_over c.args.max _ (drop (l.c-index + 1) c.args.s.now) c.if-v-max.true)
    ∙ more c.args.s.now c.args.max l.v l.c-index c.loop-c-test.true l.invariant.1 (digit_test _ _ c.if-not-is_ascii_digit.ensures.value)

pub loop-c-preserved : goal.loop-c-preserved
loop-c-preserved c =
    let l = c.loop-c in
    (c.if-v-max.false, more c.args.s.now c.args.max l.v l.c-index c.loop-c-test.true l.invariant.1 (digit_test _ _ c.if-not-is_ascii_digit.ensures.value))

pub returns : goal.returns
returns c =
    let l = c.loop-c in
    sym (from_end c.args.max l.v l.invariant.0)
    ∙ ap (read_from c.args.max l.v) (sym (drop_of_length-le c.args.s.now c.loop-c-test.false))
    ∙ l.invariant.1
