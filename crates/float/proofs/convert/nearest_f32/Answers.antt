-- `float::convert::nearest_f32` meets its contract: x is its bits' three fields, and what is rounded here has the bits
-- of `narrowed x`.
use Rattle.std.proofs.Common.{◌≡◌, ℕ, ◌+◌, ◌-◌, ◌*◌, ◌/◌, ◌%◌, ◌^◌, ◌≤◌, min, Bool, true, false, cond, T, leb, sym, refl, ap, ◌∙◌, subst, zero-add, arith, le→leb}
use lib.Arith.{lt→nleb}
use lib.Ieee.{Float, binary32, binary64, fits, of_fields, of_bits, to_bits}
use lib.Ieee.Bits.{is_true, is_false, of_bits-to_bits}
use Rattle.float.specs.Convert.{narrowed}
use Rattle.float.proofs.Nan.{not_above}
use Rattle.float.proofs.Laws.{narrowed_fits}
use Rattle.float.proofs.Library.{narrowed_is}
use Rattle.float.proofs.Round.{kept_top, bits_normal}
use Rattle.float.proofs.convert.nearest_f32.Goals as goal
use Rattle.float.proofs.convert.nearest_f32.Goals.{After-shift_right_nearest}

of_bits_is : (b : ℕ)
    → of_bits binary64 b
    ≡ of_fields binary64 (leb 0x8000_0000_0000_0000 b) (b % 0x8000_0000_0000_0000 / 0x10_0000_0000_0000)
    (b % 0x10_0000_0000_0000)
unfolding of_bits
of_bits_is b = refl

read_back : (x : Float) (s : Bool) (b p : ℕ) → T (fits binary64 x) → b ≡ to_bits binary64 x
    → leb 0x8000_0000_0000_0000 b ≡ s
    → to_bits binary32 (narrowed (of_fields binary64 s (b % 0x8000_0000_0000_0000 / 0x10_0000_0000_0000) (b % 0x10_0000_0000_0000)))
    ≡ p
    → of_bits binary32 p ≡ narrowed x
read_back x s b p f i e q =
    let is : of_fields binary64 s (b % 0x8000_0000_0000_0000 / 0x10_0000_0000_0000) (b % 0x10_0000_0000_0000) ≡ x =
    ap
    (λ (t : Bool). of_fields binary64 t (b % 0x8000_0000_0000_0000 / 0x10_0000_0000_0000) (b % 0x10_0000_0000_0000))
    (sym e)
    ∙ sym (of_bits_is b)
    ∙ ap (of_bits binary64) i
    ∙ of_bits-to_bits binary64 x f in
    ap (of_bits binary32) (sym q ∙ ap (λ (y : Float). to_bits binary32 (narrowed y)) is)
    ∙ of_bits-to_bits binary32 (narrowed x) (narrowed_fits x)

-- the pattern of what is rounded here, its sign left out
module _ (c : After-shift_right_nearest) where
  abbrev b : ℕ
  b = c.bits64-b.result

  abbrev e : ℕ
  e = b % 0x8000_0000_0000_0000 / 0x10_0000_0000_0000

  abbrev t : ℕ
  t = b % 0x10_0000_0000_0000

  abbrev p : ℕ
  p = (e - 897) * 0x80_0000 + c.shift_right_nearest.result

  held : T (fits binary64 c.args.x)
  held = subst T (sym c.well_formed.0.1) tt

  under : p ≤ 0x7f80_0000
  under = omega (arith, c.shift_right_nearest.ensures, kept_top (2 ^ 52 + t) 29 (omega arith) (omega arith))

  bits_are : (s : Bool) → to_bits binary32 (narrowed (of_fields binary64 s e t)) ≡ cond s 0x8000_0000 0 + p
  bits_are s =
      bits_normal s e t (omega (arith, c.if-e-lt897.false)) (omega arith) (λ n. absurd (omega (arith, c.if-e-gt1150.false))) (omega arith)
      ∙ ap (λ (y : ℕ). cond s 0x8000_0000 0 + min ((e - 897) * 0x80_0000 + y) 0x7f80_0000) (sym c.shift_right_nearest.ensures)
      ∙ ap (λ (y : ℕ). cond s 0x8000_0000 0 + y) (omega (arith, under))

pub returns-then-e-lt897 : goal.returns-then-e-lt897
returns-then-e-lt897 c = c.nearest_f64_to_f32_with_nan.ensures ∙ narrowed_is c.args.x

pub float_from_bits-result : goal.float_from_bits-result
float_from_bits-result c = not_above binary32 (p c.before) (omega (arith, under c.before))

pub returns-then-b-lt9223372036854775808 : goal.returns-then-b-lt9223372036854775808
returns-then-b-lt9223372036854775808 c =
    let a = c.before in
    read_back c.args.x false (b a) (p a) (held a) c.bits64-b.ensures
    (is_false (leb 0x8000_0000_0000_0000 (b a)) (lt→nleb 0x8000_0000_0000_0000 (b a) c.if-b-lt9223372036854775808.true))
    (bits_are a false ∙ zero-add (p a))

pub float_from_bits-result-2 : goal.float_from_bits-result-2
float_from_bits-result-2 c = not_above binary32 (0x8000_0000 + p c.before) (omega (arith, under c.before))

pub returns : goal.returns
returns c =
    let a = c.before in
    read_back c.args.x true (b a) (0x8000_0000 + p a) (held a) c.bits64-b.ensures
    (is_true (leb 0x8000_0000_0000_0000 (b a)) (le→leb 0x8000_0000_0000_0000 (b a) c.if-b-lt9223372036854775808.false))
    (bits_are a true)
