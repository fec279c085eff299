-- A total order of floats, NaN above all numbers and the two zeros level. `minimum` gives the greatest that is at most
-- both, and what is at most one another is alike. A number is a fraction (p - n) / d of whole numbers, so that one
-- formula serves all signs, and no format needs to hold it.
use mathlib.Core.Path.{◌≡◌, refl}
use mathlib.Core.Bool.{Bool, true, false, not, ◌||◌, beq, cond, false≢true, true≢false}
use Prim.Native.Nat.{ℕ, ◌+◌, ◌*◌, ◌≤◌, ◌<◌}
use native.Mathlib.Nat.{mul-le-mul_right, le_of_mul-le-mul_right}
use native.Mathlib.Omega.{arith}
use lib.Dec.{T}
use lib.Ieee.{Float, nan, inf, fin, up, down, below, level, lt, eq, is_nan}
use lib.Ieee.Fits.{down_pos}
use borrow.Author.Tests.{ltb-true, ltb-false, eq-eqb}
use Rattle.float.specs.Value.{minimum}
use Rattle.row_order.specs.Alike.{alike}

-- ---- the order

-- the positive and the negative part of a number of size a with the sign s
abbrev pub plus : Bool → ℕ → ℕ
plus false a = a
plus true a = 0

abbrev pub less : Bool → ℕ → ℕ
less false a = 0
less true a = a

-- ±x / d is at most ±y / c, in whole numbers and in one formula for all signs
abbrev pub AtMost : Bool → ℕ → ℕ → Bool → ℕ → ℕ → Type 0
AtMost s x d t y c = plus s x * c + less t y * d ≤ plus t y * d + less s x * c

-- x is at most y, where a NaN is above all
abbrev pub UpTo : Float → Float → Type 0
UpTo x nan = Unit
UpTo nan (inf t) = ⊥
UpTo (inf s) (inf t) = T (s || not t)
UpTo (fin s m e) (inf t) = T (not t)
UpTo nan (fin t n d) = ⊥
UpTo (inf s) (fin t n d) = T s
UpTo (fin s m e) (fin t n d) = AtMost s (m * up e) (down e) t (n * up d) (down d)

-- `<` and its contrary by that formula
below_is : (s : Bool) (x d : ℕ) (t : Bool) (y c : ℕ) → below s (x * c) t (y * d) ≡ true → AtMost s x d t y c
below_is false x d false y c h = omega (arith, ltb-true (x * c) (y * d) h)
below_is false x d true y c h = absurd (false≢true h)
below_is true x d false y c h = omega arith
below_is true x d true y c h = omega (arith, ltb-true (y * d) (x * c) h)

not_below_is : (s : Bool) (x d : ℕ) (t : Bool) (y c : ℕ) → below t (y * d) s (x * c) ≡ false → AtMost s x d t y c
not_below_is false x d false y c h = omega (arith, ltb-false (y * d) (x * c) h)
not_below_is false x d true y c h = omega (arith, ltb-false 0 (y * d + x * c) h)
not_below_is true x d false y c h = omega arith
not_below_is true x d true y c h = omega (arith, ltb-false (x * c) (y * d) h)

-- ---- it holds of a value and itself, goes through a third, and is what the test that `minimum` makes decides

or_not : (s : Bool) → T (s || not s)
or_not true = tt
or_not false = tt

pub up_to_itself : (x : Float) → UpTo x x
up_to_itself nan = tt
up_to_itself (inf s) = or_not s
up_to_itself (fin s m e) = omega arith

-- three fractions (p - n) / d
through : (px nx dx py ny dy pz nz dz : ℕ) → 0 < dy → px * dy + ny * dx ≤ py * dx + nx * dy
    → py * dz + nz * dy ≤ pz * dy + ny * dz → px * dz + nz * dx ≤ pz * dx + nx * dz
through px nx dx py ny dy pz nz dz l h k =
    let a : (px * dy + ny * dx) * dz ≤ (py * dx + nx * dy) * dz = mul-le-mul_right dz h in
    let b : (py * dz + nz * dy) * dx ≤ (pz * dy + ny * dz) * dx = mul-le-mul_right dx k in
    let c : (px * dz + nz * dx) * dy ≤ (pz * dx + nx * dz) * dy = omega arith in
    le_of_mul-le-mul_right c l

infinities : (s t u : Bool) → T (s || not t) → T (t || not u) → T (s || not u)
infinities true t u h k = tt
infinities false true u h k = absurd h
infinities false false true h k = k
infinities false false false h k = tt

pub up_to_through : (x y z : Float) → UpTo x y → UpTo y z → UpTo x z
up_to_through x y nan h k = tt
up_to_through x nan (inf u) h k = absurd k
up_to_through x nan (fin u o c) h k = absurd k
up_to_through nan (inf t) (inf u) h k = absurd h
up_to_through nan (inf t) (fin u o c) h k = absurd h
up_to_through nan (fin t n d) (inf u) h k = absurd h
up_to_through nan (fin t n d) (fin u o c) h k = absurd h
up_to_through (inf s) (inf t) (inf u) h k = infinities s t u h k
up_to_through (inf true) (inf t) (fin u o c) h k = tt
up_to_through (inf false) (inf true) (fin u o c) h k = absurd h
up_to_through (inf false) (inf false) (fin u o c) h k = absurd k
up_to_through (inf true) (fin t n d) (inf u) h k = tt
up_to_through (inf false) (fin t n d) (inf u) h k = absurd h
up_to_through (inf s) (fin t n d) (fin u o c) h k = h
up_to_through (fin s m e) (inf true) (inf u) h k = absurd h
up_to_through (fin s m e) (inf false) (inf u) h k = k
up_to_through (fin s m e) (inf true) (fin u o c) h k = absurd h
up_to_through (fin s m e) (inf false) (fin u o c) h k = absurd k
up_to_through (fin s m e) (fin t n d) (inf u) h k = k
up_to_through (fin s m e) (fin t n d) (fin u o c) h k =
    through
    (plus s (m * up e)) (less s (m * up e)) (down e)
    (plus t (n * up d)) (less t (n * up d)) (down d)
    (plus u (o * up c)) (less u (o * up c)) (down c)
    (down_pos d) h k

lt_up_to : (x y : Float) → lt x y ≡ true → UpTo x y
unfolding lt
lt_up_to x nan h = tt
lt_up_to nan (inf t) h = absurd (false≢true h)
lt_up_to (inf true) (inf t) h = tt
lt_up_to (inf false) (inf t) h = absurd (false≢true h)
lt_up_to (fin s m e) (inf true) h = absurd (false≢true h)
lt_up_to (fin s m e) (inf false) h = tt
lt_up_to nan (fin t n d) h = absurd (false≢true h)
lt_up_to (inf true) (fin t n d) h = tt
lt_up_to (inf false) (fin t n d) h = absurd (false≢true h)
lt_up_to (fin s m e) (fin t n d) h = below_is s (m * up e) (down e) t (n * up d) (down d) h

not_lt_up_to : (x y : Float) → is_nan x ≡ false → lt y x ≡ false → UpTo x y
unfolding lt is_nan
not_lt_up_to x nan i h = tt
not_lt_up_to nan (inf t) i h = absurd (true≢false i)
not_lt_up_to (inf true) (inf t) i h = tt
not_lt_up_to (inf false) (inf true) i h = absurd (true≢false h)
not_lt_up_to (inf false) (inf false) i h = tt
not_lt_up_to (fin s m e) (inf true) i h = absurd (true≢false h)
not_lt_up_to (fin s m e) (inf false) i h = tt
not_lt_up_to nan (fin t n d) i h = absurd (true≢false i)
not_lt_up_to (inf true) (fin t n d) i h = tt
not_lt_up_to (inf false) (fin t n d) i h = absurd (true≢false h)
not_lt_up_to (fin s m e) (fin t n d) i h = not_below_is s (m * up e) (down e) t (n * up d) (down d) h

nan_is : (x : Float) → is_nan x ≡ true → x ≡ nan
unfolding is_nan
nan_is nan h = refl
nan_is (inf s) h = absurd (false≢true h)
nan_is (fin s m e) h = absurd (false≢true h)

-- ---- the smaller of two is the greatest that is at most both

pub record Smaller (a b r : Float) : Type 0 where
  pub left : UpTo r a
  pub right : UpTo r b
  pub greatest : (z : Float) → UpTo z a → UpTo z b → UpTo z r

pub minimum_is : (a b : Float) → Smaller a b (minimum a b)
unfolding minimum
minimum_is a b = go (is_nan a) (lt b a) (nan_is a) (λ i. not_lt_up_to a b i) (lt_up_to b a)
  where
    go : (i l : Bool) → (i ≡ true → a ≡ nan) → (i ≡ false → l ≡ false → UpTo a b) → (l ≡ true → UpTo b a)
        → Smaller a b (cond i b (cond l b a))
    go true l n f g = record { left = rw (n refl) tt; right = up_to_itself b; greatest = λ z h k. k }
    go false true n f g = record { left = g refl; right = up_to_itself b; greatest = λ z h k. k }
    go false false n f g = record { left = up_to_itself a; right = f refl refl; greatest = λ z h k. h }

-- ---- what is at most one another is alike

equal : (s : Bool) (x d : ℕ) (t : Bool) (y c : ℕ) → AtMost s x d t y c → AtMost t y c s x d
    → level s (x * c) t (y * d) ≡ true
equal false x d false y c h k = rw (eq-eqb (x * c) (y * d) (omega arith))
equal true x d true y c h k = rw (eq-eqb (x * c) (y * d) (omega arith))
equal false x d true y c h k = rw (eq-eqb (x * c) (y * d) (omega arith), eq-eqb (x * c) 0 (omega arith))
equal true x d false y c h k = rw (eq-eqb (x * c) (y * d) (omega arith), eq-eqb (x * c) 0 (omega arith))

infinite : (s t : Bool) → T (s || not t) → T (t || not s) → beq s t ≡ true
infinite true true h k = refl
infinite true false h k = absurd k
infinite false true h k = absurd h
infinite false false h k = refl

no_number : (s : Bool) → T s → T (not s) → ⊥
no_number true h k = k
no_number false h k = h

pub both_ways : (x y : Float) → UpTo x y → UpTo y x → alike x y ≡ true
unfolding is_nan eq
both_ways nan nan h k = refl
both_ways nan (inf t) h k = absurd h
both_ways nan (fin t n d) h k = absurd h
both_ways (inf s) nan h k = absurd k
both_ways (inf s) (inf t) h k = infinite s t h k
both_ways (inf s) (fin t n d) h k = absurd (no_number s h k)
both_ways (fin s m e) nan h k = absurd k
both_ways (fin s m e) (inf t) h k = absurd (no_number t k h)
both_ways (fin s m e) (fin t n d) h k = equal s (m * up e) (down e) t (n * up d) (down d) h k
