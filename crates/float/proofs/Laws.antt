-- Bit patterns both ways, over the format; and narrowing what an f32 holds already changes nothing.
use Rattle.std.proofs.Common.{◌≡◌, ℕ, zero, suc, ◌+◌, ◌-◌, ◌*◌, ◌/◌, ◌%◌, ◌^◌, ◌<◌, ◌≤◌, Bool, true, false, cond, not, ◌&&◌, T, eqb, ltb, leb, ℤ, pos, negsuc, sym, refl, ap, ◌∙◌, subst, le_trans, mul-le-mul_right, mul_assoc, mul_comm, lt_of_mul-lt-mul_right, mul-lt-mul_of_pos_right, mul-pos, one-mul, lt_of_not-le, zero-mul, mul-one, mul_right_comm, not-le_of_lt, arith, eqb→eq, ltb→lt, leb→le, pow_pos, pow-add}
use lib.Pow.{pow-lt}
use lib.Ieee.{
  Float,
  nan,
  inf,
  fin,
  Format,
  binary32,
  prec,
  emax,
  low,
  up,
  down,
  size,
  round,
  fits,
  hid,
  top,
  of_bits,
  to_bits,
  nan_bits,
}
use lib.Ieee.Fits.{up_pos, down_pos, round-fits, nan-fits, inf-fits, and_l, and_r}
use lib.Ieee.Bits.{of_bits-to_bits, to_bits-of_bits, nan_bits_is}
use lib.Ieee.Exact.{HasValue, round_exact}
use lib.Ieee.Nearest.{div_same}
use Rattle.float.specs.Convert.{narrowed}
use Rattle.float.proofs.Nan.{pattern_nan}

-- ---- a value's pattern, and a pattern's value: every pattern comes back, a NaN's as the one NaN's
pub value_back : (f : Format) (x : Float) → T (fits f x) → of_bits f (to_bits f x) ≡ x
value_back = of_bits-to_bits

pub pattern_back : (f : Format) (b : ℕ) → b < 2 * top f
    → to_bits f (of_bits f b) ≡ cond (nan_bits f b) (to_bits f nan) b
pattern_back f b h =
    go (nan_bits f b) (λ t. pattern_nan f b t)
    (λ t. to_bits-of_bits f b h (subst (λ (u : Bool). T (not u)) (nan_bits_is f b) t))
  where
    go : (t : Bool) → (T t → of_bits f b ≡ nan) → (T (not t) → to_bits f (of_bits f b) ≡ b)
        → to_bits f (of_bits f b) ≡ cond t (to_bits f nan) b
    go true n m = ap (to_bits f) (n tt)
    go false n m = m tt

-- ---- two values of one format and one sign that are one number
same_bits : (f : Format) (s : Bool) (m : ℕ) (e : ℤ) (n : ℕ) (d : ℤ) → m * up e * down d ≡ n * up d * down e
    → to_bits f (fin s m e) ≡ to_bits f (fin s n d)
unfolding to_bits
same_bits f s m e n d h =
    let l = 2 ^ low f in
    ap (λ (y : ℕ). cond s (top f) 0 + (size y - prec f) * hid f + y / 2 ^ (size y - prec f))
    (div_same (m * up e * l) (down e) (n * up d * l) (down d) (down_pos e) (down_pos d) (mul_right_comm (m * up e) l (down d) ∙ ap (λ (y : ℕ). y * l) h ∙ mul_right_comm (n * up d) (down e) l))

pub same_value : (f : Format) (s : Bool) (m : ℕ) (e : ℤ) (n : ℕ) (d : ℤ) → T (fits f (fin s m e))
    → T (fits f (fin s n d)) → m * up e * down d ≡ n * up d * down e → fin s m e ≡ fin s n d
same_value f s m e n d p q h =
    sym (of_bits-to_bits f (fin s m e) p) ∙ ap (of_bits f) (same_bits f s m e n d h) ∙ of_bits-to_bits f (fin s n d) q

of_value : (f : Format) (x : Float) (s : Bool) (m : ℕ) (e : ℤ) → T (fits f x) → T (fits f (fin s m e))
    → HasValue x s (m * up e) (down e) → x ≡ fin s m e
of_value f nan s m e p q v = absurd v
of_value f (inf t) s m e p q v = absurd v
of_value f (fin t n d) s m e p q v =
    let k : fin t n d ≡ fin s n d = ap (λ (b : Bool). fin b n d) v.0 in
    k ∙ same_value f s n d m e (subst (λ (x : Float). T (fits f x)) k p) q v.1

-- ---- a value that a format holds is what `round` gives for its number
-- 2 ^ e is 2 ^ grid times the value 2 ^ -l
abbrev grid : ℕ → ℤ → ℕ
grid l (pos k) = k + l
grid l (negsuc k) = l - suc k

grid_is : (l : ℕ) (e : ℤ) → down e ≤ 2 ^ l → up e * 2 ^ l ≡ 2 ^ grid l e * down e
grid_is l (pos k) h = sym (pow-add 2 k l) ∙ sym (mul-one (2 ^ (k + l)))
grid_is l (negsuc k) h =
    let r : k < l = lt_of_not-le (λ (g : l ≤ k). not-le_of_lt (pow-lt {i = l} {j = suc k} (omega arith)) h) in
    one-mul (2 ^ l) ∙ ap (λ (x : ℕ). 2 ^ x) (omega arith) ∙ pow-add 2 (l - suc k) (suc k)

-- where u times d is 1, d is 1
flat : (u d : ℕ) → 0 < u → u * d ≡ 1 → {p : ℕ} → 0 < p → d ≤ p
flat u d U h {p} P =
    le_trans (subst (λ (x : ℕ). d ≤ x) h (subst (λ (x : ℕ). x ≤ u * d) (one-mul d) (mul-le-mul_right d U))) P

module _ (f : Format) (s : Bool) (m : ℕ) (e : ℤ) (low_enough : down e ≤ 2 ^ low f) (short : m < 2 ^ prec f)
    (below : m * up e < 2 ^ suc (emax f) * down e) where
  on_grid : m * up e * 2 ^ low f ≡ m * 2 ^ grid (low f) e * down e
  on_grid =
      mul_assoc m (up e) (2 ^ low f)
      ∙ ap (λ (x : ℕ). m * x) (grid_is (low f) e low_enough)
      ∙ sym (mul_assoc m (2 ^ grid (low f) e) (down e))

  in_range : m * 2 ^ grid (low f) e < 2 ^ (low f + suc (emax f))
  in_range =
      lt_of_mul-lt-mul_right (down e)
      (subst (λ (x : ℕ). x < 2 ^ (low f + suc (emax f)) * down e) on_grid
      (subst (λ (x : ℕ). m * up e * 2 ^ low f < x)
      (mul_right_comm (2 ^ suc (emax f)) (down e) (2 ^ low f) ∙ ap (λ (x : ℕ). x * down e) (mul_comm (2 ^ suc (emax f)) (2 ^ low f) ∙ sym (pow-add 2 (low f) (suc (emax f)))))
      (mul-lt-mul_of_pos_right below (pow_pos (low f)))))

  exact : HasValue (round f s (m * up e) (down e)) s (m * up e) (down e)
  exact = round_exact f s (m * up e) (down e) m (grid (low f) e) (down_pos e) short in_range on_grid

fits_exact : (f : Format) (s : Bool) (m : ℕ) (e : ℤ) → T (fits f (fin s m e))
    → HasValue (round f s (m * up e) (down e)) s (m * up e) (down e)
unfolding fits
fits_exact f s zero e h =
    exact f s 0 e (flat (up e) (down e) (up_pos e) (eqb→eq (up e * down e) 1 h) (pow_pos (low f)))
    (pow_pos (prec f))
    (subst (λ (x : ℕ). x < 2 ^ suc (emax f) * down e) (sym (zero-mul (up e))) (mul-pos (pow_pos (suc (emax f))) (down_pos e)))
fits_exact f s (suc m) e h =
    let a : Bool = eqb (suc m % 2) 1 in
    let b : Bool = ltb (suc m) (2 ^ prec f) in
    let c : Bool = leb (down e) (2 ^ low f) in
    let d : Bool = ltb (suc m * up e) (2 ^ suc (emax f) * down e) in
    exact f s (suc m) e
    (leb→le (down e) (2 ^ low f) (and_r (a && b) c (and_l (a && b && c) d h)))
    (ltb→lt (suc m) (2 ^ prec f) (and_r a b (and_l (a && b) c (and_l (a && b && c) d h))))
    (ltb→lt (suc m * up e) (2 ^ suc (emax f) * down e) (and_r (a && b && c) d h))

pub round_fitting : (f : Format) (s : Bool) (m : ℕ) (e : ℤ) → T (fits f (fin s m e))
    → round f s (m * up e) (down e) ≡ fin s m e
round_fitting f s m e h =
    of_value f (round f s (m * up e) (down e)) s m e (round-fits f s (m * up e) (down e)) h (fits_exact f s m e h)

-- ---- narrowing
pub narrowed_fits : (x : Float) → T (fits binary32 (narrowed x))
unfolding narrowed
narrowed_fits nan = nan-fits binary32
narrowed_fits (inf s) = inf-fits binary32 s
narrowed_fits (fin s m e) = round-fits binary32 s (m * up e) (down e)

-- what an f32 holds stays as it is
pub narrowed_same : (x : Float) → T (fits binary32 x) → narrowed x ≡ x
unfolding narrowed
narrowed_same nan h = refl
narrowed_same (inf s) h = refl
narrowed_same (fin s m e) h = round_fitting binary32 s m e h
