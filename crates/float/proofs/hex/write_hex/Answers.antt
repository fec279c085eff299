-- `float::hex::write_hex` meets its contract. The loop's invariant: from i on stand v's last digits, and rest is v
-- without them.
use Rattle.std.proofs.Common.{◌≡◌, ℕ, suc, ◌-◌, ◌/◌, ◌%◌, ◌^◌, length, drop, set, sym, refl, ap, ◌∙◌, div-one, arith, length-set}
use lib.Seq.{drop-length}
use Rattle.float.specs.Hex.{hex_digit, hex_of}
use Rattle.float.proofs.Digits.{hex_of_front, div_pow}
use Rattle.float.proofs.hex.write_hex.Goals as goal

pub loop-i-init : goal.loop-i-init
unfolding hex_of
loop-i-init c =
    let out = c.args.out.now in
    let z : length out - length out ≡ 0 = omega arith in
    (omega arith, refl, drop-length out ∙ ap (λ (k : ℕ). hex_of k c.args.v) (sym z), sym (div-one c.args.v) ∙ ap (λ (k : ℕ). c.args.v / 16 ^ k) (sym z))

pub loop-i-preserved : goal.loop-i-preserved
loop-i-preserved c =
    let i = c.loop-i.i in
    let n = length c.args.out.now in
    let v = c.args.v in
    let k : suc (n - i) ≡ n - (i - 1) = omega arith in
    let d : c.hex_digit.result ≡ hex_digit (v / 16 ^ (n - i) % 16) = c.hex_digit.ensures ∙ ap (λ (x : ℕ). hex_digit (x % 16)) c.loop-i.invariant.3 in (
      omega arith,
      simp length-set c.loop-i.invariant.1,
      ap (λ (x : ℕ). drop (i - 1) (set c.loop-i.out (i - 1) x)) d ∙ hex_of_front c.loop-i.out i n v (omega arith) c.loop-i.invariant.0 c.loop-i.invariant.1 c.loop-i.invariant.2,
      ap (λ (x : ℕ). x / 16) c.loop-i.invariant.3 ∙ div_pow v (n - i) ∙ ap (λ (x : ℕ). v / 16 ^ x) k,
    )

pub returns : goal.returns
returns c =
    let z : c.loop-i.i ≡ 0 = omega arith in
    let n = length c.args.out.now in
    let m : n - c.loop-i.i ≡ n = omega arith in
    sym (ap (λ (x : ℕ). drop x c.loop-i.out) z)
    ∙ c.loop-i.invariant.2
    ∙ ap (λ (x : ℕ). hex_of x c.args.v) m
