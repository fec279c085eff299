-- `regression::predict_listed` meets its contract. The loop's invariant: whatever the row, the sum so far with the
-- products of the columns from u on, which are not the head's, is the whole sum, and the places that are left are those
-- from u on.
use mathlib.Core.Path.{◌≡◌, sym, ap, ◌∙◌, subst}
use mathlib.Core.List.{List, zip_with}
use Prim.Native.Nat.{ℕ, suc, ◌+◌, ◌-◌, ◌≤◌, ◌<◌}
use native.Mathlib.Omega.{arith}
use lib.ListN.{length, get_or, drop, drop_of_length-le}
use lib.Seq.{get_or-drop, drop-drop}
use lib.Ieee.{Float, nan, binary64, add, mul, of_bits}
use lib.Ieee.Fits.{mul-fits}
use Rattle.float.specs.Number.{zero64, sum_from}
use Rattle.float.specs.Value.{Sum}
use Rattle.float.proofs.Zeros.{sum_starts, sum_next}
use Rattle.matrix.specs.Nonzero.{nonzeros}
use Rattle.regression.specs.Regression.{dot}
use Rattle.regression.specs.Sparse.{SplitRow}
use Rattle.packed_rows.proofs.Places.{Next, none_left}
use Rattle.packed_rows.proofs.Places.{Left, left_none, next_left, left_next, values_long, value_at_lem}
use Rattle.regression.proofs.Dot.{products_sum, products_split, summed, summed_next, summed_zeros}
use Rattle.regression.proofs.predict_listed.Goals as goal

-- the places that are left, as those of the cells behind the first h
left_behind : (row : List Float) (places : List ℕ) (p u h : ℕ) → Left 0 row places p u → h ≤ u
    → Left h (drop h row) places p (u - h)
left_behind row places p u h l k =
    let e : u ≡ h + (u - h) = omega arith in
    l
    ∙ ap (λ (i : ℕ). nonzeros i (drop u row)) {x = 0 + u} {y = h + (u - h)} (omega arith)
    ∙ ap (nonzeros (h + (u - h))) (ap (λ (i : ℕ). drop i row) e ∙ sym (drop-drop (u - h) h row))

-- a turn, for a row that is listed
module _ (head : List Float) (places : List ℕ) (values beta row : List Float)
    (g : SplitRow (length beta) head places values row) where
  module _ (p u : ℕ) (left : Left 0 row places p u) (h : p < length places) where
    turn : Next 0 u row (get_or places p 0) (drop (suc p) places)
    turn = next_left 0 row places p u left h

    value : length head ≤ u → get_or values p nan ≡ get_or row (get_or places p 0) nan
    value past =
        let n : ℕ = length head in
        let q : ℕ = get_or places p 0 in
        value_at_lem n (drop n row) places values g.rest p (u - n) (left_behind row places p u n left past) h
        ∙ get_or-drop n row (q - n) nan
        ∙ ap (λ (k : ℕ). get_or row k nan) {x = n + (q - n)} {y = q} (omega (arith, turn.from))

    -- a place is a coefficient's, and there are as many values as places
    within : (get_or places p 0 < length beta) × (length values ≡ length places)
    within = (
      omega (arith, turn.within, g.wide),
      values_long (length head) (drop (length head) row) places values g.rest,
    )

pub loop-p-init : goal.loop-p-init
unfolding of_bits dot
loop-p-init c =
    let a = c.args in
    let head = a.head.now in
    let beta = a.beta.now in
    let n = length head in
    let e = c.sum_products-sum.ensures in (
      subst Sum (sym e) (products_sum head beta zero64 sum_starts),
      λ row g. (
        n,
        g.rest.places_are ∙ ap (λ (k : ℕ). nonzeros k (drop n row)) {x = n} {y = 0 + n} (omega arith),
        omega arith,
        omega (arith, g.short, g.wide),
        ap (λ (x : Float). sum_from x (zip_with (mul binary64) (drop n row) (drop n beta)))
            (e ∙ ap (λ (t : List Float). dot t beta) (sym g.first))
            ∙ products_split n row beta zero64,
      ),
    )

pub offset_bounds-values-p : goal.offset_bounds-values-p
offset_bounds-values-p c =
    let a = c.args in
    let l = c.loop-p in
    let g = c.requires.split_row in
    let m = l.invariant.1 g.0 g.1 in
    let n = within a.head.now a.places.now a.values.now a.beta.now g.0 g.1 l.p m.0 m.1 (omega arith) in
    omega (arith, n.0, n.1)

pub bounds-values-p : goal.bounds-values-p
bounds-values-p c =
    let a = c.args in
    let l = c.loop-p in
    let g = c.requires.split_row in
    let m = l.invariant.1 g.0 g.1 in
    let n = within a.head.now a.places.now a.values.now a.beta.now g.0 g.1 l.p m.0 m.1 (omega arith) in
    omega (arith, n.0, n.1)

pub offset_bounds-beta-place : goal.offset_bounds-beta-place
offset_bounds-beta-place c =
    let a = c.args in
    let l = c.loop-p in
    let g = c.requires.split_row in
    let m = l.invariant.1 g.0 g.1 in
    let n = within a.head.now a.places.now a.values.now a.beta.now g.0 g.1 l.p m.0 m.1 (omega arith) in
    omega (arith, n.0, n.1)

pub bounds-beta-place : goal.bounds-beta-place
bounds-beta-place c =
    let a = c.args in
    let l = c.loop-p in
    let g = c.requires.split_row in
    let m = l.invariant.1 g.0 g.1 in
    let n = within a.head.now a.places.now a.values.now a.beta.now g.0 g.1 l.p m.0 m.1 (omega arith) in
    omega (arith, n.0, n.1)

pub loop-p-preserved : goal.loop-p-preserved
loop-p-preserved c =
    let a = c.args in
    let l = c.loop-p in
    let head = a.head.now in
    let places = a.places.now in
    let values = a.values.now in
    let beta = a.beta.now in
    let finite = c.requires.beta_value in
    let q : ℕ = get_or places l.p 0 in
    let x : Float = mul binary64 (get_or values l.p nan) (get_or beta q nan) in (
      sum_next l.sum x l.invariant.0 (mul-fits binary64 (get_or values l.p nan) (get_or beta q nan)),
      λ row g.
          let m = l.invariant.1 row g in
          let u : ℕ = m.0 in
          let n = turn head places values beta row g l.p u m.1 (omega arith) in
          let same : q - 0 ≡ q = omega arith in
          let e : u + (q - u) ≡ q = omega (arith, n.from) in
          let wide : length row ≡ length beta = g.wide in (
            suc (q - 0),
            left_next 0 row places l.p u m.1 (omega arith),
            omega (arith, n.from, m.2),
            omega (arith, n.within),
            ap
                (λ (v : Float).
                summed row beta finite wide (add binary64 l.sum (mul binary64 v (get_or beta q nan))) (suc (q - 0)))
                (value head places values beta row g l.p u m.1 (omega arith) m.2)
                ∙ ap
                (λ (k : ℕ).
                summed row beta finite wide
                (add binary64 l.sum (mul binary64 (get_or row q nan) (get_or beta q nan))) (suc k))
                same
                ∙ sym
                (summed_zeros row beta finite wide (q - u) u l.sum l.invariant.0
                (omega (arith, n.from, n.within)) (λ i a b. n.zeros i a (omega (arith, n.from)))
                ∙ ap (summed row beta finite wide l.sum) e
                ∙ summed_next row beta finite wide l.sum q (omega (arith, n.within)))
                ∙ m.4,
          ),
    )

pub returns : goal.returns
unfolding zip_with
returns c =
    let l = c.loop-p in
    let ps = c.args.places.now in
    let bs = c.args.beta.now in
    λ row g.
    let m = l.invariant.1 row g in
    let u : ℕ = m.0 in
    let n : ℕ = length row in
    let wide : length row ≡ length bs = g.wide in
    let none = left_none 0 row ps l.p u m.1 (omega arith) in
    let end : summed row bs c.requires.beta_value wide l.sum n ≡ l.sum =
    rw (drop_of_length-le row {i = n} (omega arith)) in
    c.canonical64.ensures
    ∙ sym
    (summed_zeros row bs c.requires.beta_value wide (n - u) u l.sum l.invariant.0 (omega (arith, m.3))
    (λ i a b. none_left 0 u row none i a (omega (arith, m.3)))
    ∙ ap (summed row bs c.requires.beta_value wide l.sum) {x = u + (n - u)} {y = n} (omega (arith, m.3))
    ∙ end)
    ∙ m.4
