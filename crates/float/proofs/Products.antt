-- Products of two floats, in any format.
use Rattle.std.proofs.Common.{◌≡◌, ◌*◌, Bool, true, false, refl, ap, mul_comm}
use lib.Ieee.{Float, nan, inf, fin, Format, up, down, unlike, mul}

unlike_comm : (s t : Bool) → unlike s t ≡ unlike t s
unlike_comm true true = refl
unlike_comm true false = refl
unlike_comm false true = refl
unlike_comm false false = refl

-- they commute, NaNs and both zeros among them
pub mul_commutes : (f : Format) (x y : Float) → mul f x y ≡ mul f y x
unfolding mul
mul_commutes f nan nan = refl
mul_commutes f nan (inf t) = refl
mul_commutes f nan (fin t n d) = refl
mul_commutes f (inf s) nan = refl
mul_commutes f (inf s) (inf t) = ap inf (unlike_comm s t)
mul_commutes f (inf s) (fin t n d) = rw (unlike_comm s t)
mul_commutes f (fin s m e) nan = refl
mul_commutes f (fin s m e) (inf t) = rw (unlike_comm s t)
mul_commutes f (fin s m e) (fin t n d) =
    rw (unlike_comm s t, mul_comm (m * up e) (n * up d), mul_comm (down e) (down d))
