-- Law A: the files' records are the same for smallest times that are alike. A peptide's mean is a quotient of a sum
-- that began at +0.0, so it is the same to the bit, and with it which peptides are kept; each sum of a file's line is
-- the same for the same reason.
use mathlib.Core.Path.{◌≡◌, ap, ap₂}
use mathlib.Core.Bool.{Bool, true, false, cond}
use mathlib.Core.List.{List, [], ◌∷◌, zip_with, Forall₂}
use mathlib.Core.Option.{Option, none, some}
use Prim.Native.Nat.{ℕ}
use lib.ListN.{length, get_or}
use lib.Ieee.{Float, binary64, mul, div}
use Rattle.float.specs.Number.{zero64, number, sum_from}
use Rattle.float.specs.Value.{is_normal}
use Rattle.matrix.proofs.Lists.{tabulate_same}
use Rattle.rt_matrix.specs.Line.{share, present, mean, kept_rows, Point, point_of, points}
use Rattle.rt_matrix.specs.Line.{sum_x, sum_y, dot, squared, sx2, sx2_start, line, lines}
use Rattle.float.proofs.Zeros.{sum_starts}
use Rattle.row_order.specs.Alike.{AlikeCell, AlikeRow, AlikeRows}
use Rattle.row_order.proofs.Cells.{each_append, each_length, each_at, each_map, each_equal}
use Rattle.row_order.proofs.Signs.{Near, div_near, near_sum, mul_near, square_same}

-- ---- a peptide's row of shares

abbrev NearCell : Option Float → Option Float → Type 0
NearCell none none = Unit
NearCell none (some y) = ⊥
NearCell (some x) none = ⊥
NearCell (some x) (some y) = Near x y

share_near : (m : ℕ) (c d : Option Float) → AlikeCell c d → NearCell (share m c) (share m d)
unfolding share
share_near m none none h = tt
share_near m none (some y) h = h
share_near m (some x) none h = h
share_near m (some x) (some y) h = div_near x y (number m) h

shares_near : (ms : List ℕ) {row other : List (Option Float)} → Forall₂ AlikeCell row other
    → Forall₂ NearCell (zip_with share ms row) (zip_with share ms other)
unfolding zip_with
shares_near [] r = Forall₂.nil
shares_near (m ∷ ms) Forall₂.nil = Forall₂.nil
shares_near (m ∷ ms) (Forall₂.cons {a = c} {b = d} h r) = Forall₂.cons (share_near m c d h) (shares_near ms r)

present_near : {row other : List (Option Float)} → Forall₂ NearCell row other
    → Forall₂ Near (present row) (present other)
unfolding present
present_near Forall₂.nil = Forall₂.nil
present_near (Forall₂.cons {a = none} {b = none} h r) = present_near r
present_near (Forall₂.cons {a = none} {b = some y} h r) = absurd h
present_near (Forall₂.cons {a = some x} {b = none} h r) = absurd h
present_near (Forall₂.cons {a = some x} {b = some y} h r) = Forall₂.cons h (present_near r)

mean_same : {row other : List (Option Float)} → Forall₂ NearCell row other → mean row ≡ mean other
unfolding mean
mean_same r =
    let p = present_near r in
    ap₂ (λ (s : Float) (n : ℕ). div binary64 s (number n)) (near_sum p zero64 sum_starts) (each_length p)

abbrev NearRow : List (Option Float) → List (Option Float) → Type 0
NearRow row other = Forall₂ NearCell row other

kept_near : {rows others : List (List (Option Float))} → Forall₂ NearRow rows others
    → Forall₂ NearRow (kept_rows rows) (kept_rows others)
unfolding kept_rows
kept_near Forall₂.nil = Forall₂.nil
kept_near (Forall₂.cons {a = row} {b = other} {l₁ = rows} {l₂ = others} h r) =
    rw (mean_same h) (go (is_normal binary64 (mean other)) (kept_near r))
  where
    go : (b : Bool) → Forall₂ NearRow (kept_rows rows) (kept_rows others)
        → Forall₂ NearRow
        (cond b (row ∷ kept_rows rows) (kept_rows rows))
        (cond b (other ∷ kept_rows others) (kept_rows others))
    go true k = Forall₂.cons h k
    go false k = k

-- ---- a file's points and its line

record NearPoint (p q : Point) : Type 0 where
  x_near : Near p.x q.x
  y_same : p.y ≡ q.y

point_near : (c d : Option Float) (y z : Float) → NearCell c d → y ≡ z → Forall₂ NearPoint (point_of c y) (point_of d z)
unfolding point_of
point_near none none y z h e = Forall₂.nil
point_near none (some b) y z h e = absurd h
point_near (some a) none y z h e = absurd h
point_near (some a) (some b) y z h e = Forall₂.cons (record { x_near = h; y_same = e }) Forall₂.nil

points_near : (f : ℕ) {rows others : List (List (Option Float))} → Forall₂ NearRow rows others
    → Forall₂ NearPoint (points f rows) (points f others)
unfolding points
points_near f Forall₂.nil = Forall₂.nil
points_near f (Forall₂.cons {a = row} {b = other} h r) =
    each_append
    (point_near (get_or row f none) (get_or other f none) (mean row) (mean other) (each_at h f none tt) (mean_same h))
    (points_near f r)

module _ {ps qs : List Point} (r : Forall₂ NearPoint ps qs) where
  x_sums : sum_x ps ≡ sum_x qs
  x_sums = near_sum (each_map NearPoint Near (λ p. p.x) (λ p q n. n.x_near) r) zero64 sum_starts

  y_sums : sum_y ps ≡ sum_y qs
  y_sums = ap (sum_from zero64) (each_equal (each_map NearPoint ◌≡◌ (λ p. p.y) (λ p q n. n.y_same) r))

  dots : dot ps ≡ dot qs
  dots =
      near_sum
      (each_map NearPoint Near (λ p. mul binary64 p.x p.y)
      (λ p q n. rw (← n.y_same) (mul_near n.x_near p.y))
      r)
      zero64 sum_starts

  squares : (m : Float) → sx2 m ps ≡ sx2 m qs
  squares m =
      ap (sum_from sx2_start)
      (each_equal (each_map NearPoint ◌≡◌ (λ p. squared m p.x) (λ p q n. square_same n.x_near m) r))

  line_same : (m : ℕ) → line m ps ≡ line m qs
  unfolding line
  line_same m =
      let n : length ps ≡ length qs = each_length r in
      let k : div binary64 (sum_x ps) (number (length ps)) ≡ div binary64 (sum_x qs) (number (length qs)) =
      ap₂ (λ (s : Float) (n : ℕ). div binary64 s (number n)) x_sums n in
      rw (squares (div binary64 (sum_x ps) (number (length ps))), k, n, dots, x_sums, y_sums)

-- ---- the law

pub lines_same : (ms : List ℕ) {rows others : List (List (Option Float))} → AlikeRows rows others
    → lines ms rows ≡ lines ms others
unfolding lines
lines_same ms r =
    let near = kept_near (each_map AlikeRow NearRow (zip_with share ms) (λ row other n. shares_near ms n) r) in
    tabulate_same (length ms) _ _ (λ f l. line_same (points_near f near) (get_or ms f 0))
