-- No f32 equals the mark of an absent time, so a cell after one time more holds what the definition says.
use mathlib.Core.Path.{◌≡◌, refl, ap}
use Prim.Native.Nat.{ℕ, zero, suc, ◌*◌, ◌%◌, ◌^◌, ◌≤◌, ◌<◌}
use native.Mathlib.Nat.{mul-le-mul_right}
use native.Mathlib.Omega.{arith}
use mathlib.Core.Bool.{Bool, true, false, ◌&&◌, ◌||◌, cond, beq}
use mathlib.Core.Option.{none, some}
use lib.Dec.{T, leb, ltb, eqb, lit≤, ltb→lt}
use lib.Ieee.{Float, nan, inf, fin, binary32, up, down, eq, lt, is_nan, fits, of_bits}
use lib.Ieee.Fits.{and_r, down_pos}
use borrow.Author.Tests.{ne_eqb}
use Rattle.float.specs.Value.{minimum}
use Rattle.rt_matrix.specs.Cells.{absent, decode}
use Rattle.rt_matrix.proofs.Row.{decode_present}

-- a magnitude below k is not one of k or more
apart : (n d k a : ℕ) → 0 < d → n < k * d → k ≤ a → n * 1 ≡ a * d → ⊥
apart n d k a D h l e = omega (arith, mul-le-mul_right {m = k} {n = a} d l)

unequal : (s : Bool) (n d k a : ℕ) → 0 < d → n < k * d → k ≤ a
    → (eqb (n * 1) (a * d) && (beq s false || eqb (n * 1) 0)) ≡ false
unequal s n d k a D h l =
    ap (λ (b : Bool). b && (beq s false || eqb (n * 1) 0)) (ne_eqb (n * 1) (a * d) (apart n d k a D h l))

pub not_absent : (t : Float) → T (fits binary32 t) → eq t absent ≡ false
unfolding eq of_bits fits
not_absent nan h = refl
not_absent (inf s) h = refl
not_absent (fin s zero e) h = unequal s (0 * up e) (down e) 1 _ (down_pos e) (omega (arith, down_pos e)) (lit≤ tt)
not_absent (fin s (suc m) e) h =
    unequal s (suc m * up e) (down e) (2 ^ 128) _ (down_pos e)
    (ltb→lt (suc m * up e) (2 ^ 128 * down e) (and_r (eqb (suc m % 2) 1 && ltb (suc m) (2 ^ 24) && leb (down e) (2 ^ 149)) (ltb (suc m * up e) (2 ^ 128 * down e)) h))
    (lit≤ tt)

-- the mark itself
pub decode_mark : decode absent ≡ none
unfolding decode eq of_bits
decode_mark = refl

-- a time, and the smaller of a time and a cell that holds one
pub decode_time : (t : Float) → T (fits binary32 t) → decode t ≡ some t
decode_time t h = decode_present t (not_absent t h)

pub decode_smaller : (s t : Float) → eq s absent ≡ false → T (fits binary32 t)
    → decode (minimum s t) ≡ some (minimum s t)
unfolding minimum
decode_smaller s t e h = decode_present (minimum s t) (go (is_nan s) (lt t s))
  where
    go : (a b : Bool) → eq (cond a t (cond b t s)) absent ≡ false
    go true b = not_absent t h
    go false true = not_absent t h
    go false false = e
