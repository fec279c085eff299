-- Law B: the smallest time of a peptide in a file is the same for every order of the observations, but for the sign of
-- a zero. With NaN above all numbers times are in a total order, and z is at most the smallest of a list exactly where
-- it is at most each of its elements, which says nothing of their order. So two orders' smallest are at most one
-- another. The longest times are maxima of whole numbers.
use mathlib.Core.Path.{◌≡◌, refl, sym, ◌∙◌, subst}
use mathlib.Core.Bool.{Bool, ◌&&◌}
use mathlib.Core.List.Permᴰ
use mathlib.Core.List.{List, [], ◌∷◌, foldl, filter_map}
use mathlib.Core.Logic.{◌↔◌}
use mathlib.Core.Option.{Option, none, some}
use Prim.Native.Nat.{ℕ}
use native.Mathlib.Omega.{arith}
use lib.Dec.{eqb}
use lib.Ieee.{Float}
use Rattle.float.specs.Value.{minimum}
use Rattle.matrix.proofs.Lists.{tabulate_same}
use Rattle.retention_alignment.specs.Observation.{Obs, max_rt, max_rts, times, smaller, min_rt, min_rts}
use Rattle.row_order.specs.Order.{Reordered}
use Rattle.row_order.specs.Alike.{AlikeCell, AlikeRows}
use Rattle.row_order.proofs.Reordering.{pick, one_more, picked_reordered}
use Rattle.row_order.proofs.Cells.{each_tabulate}
use Rattle.row_order.proofs.Order.{UpTo, up_to_itself, up_to_through, minimum_is, both_ways}

-- ---- cells: one without a time is above all

abbrev CellUpTo : Option Float → Option Float → Type 0
CellUpTo z none = Unit
CellUpTo none (some y) = ⊥
CellUpTo (some x) (some y) = UpTo x y

cell_itself : (z : Option Float) → CellUpTo z z
cell_itself none = tt
cell_itself (some x) = up_to_itself x

smaller_is : (z c : Option Float) (t : Float) → CellUpTo z (smaller c t) ↔ (CellUpTo z c × CellUpTo z (some t))
unfolding smaller
smaller_is z none t = (λ h. (tt, h), λ h. h.1)
smaller_is none (some s) t = (λ h. absurd h, λ h. h.0)
smaller_is (some x) (some s) t =
    let m = minimum_is s t in (
      λ h. (up_to_through x (minimum s t) s h m.left, up_to_through x (minimum s t) t h m.right),
      λ h. m.greatest x h.0 h.1,
    )

-- ---- a list of times

abbrev UpToAll : Option Float → List Float → Type 0
UpToAll z [] = Unit
UpToAll z (t ∷ ts) = CellUpTo z (some t) × UpToAll z ts

smallest_is : (z c : Option Float) (ts : List Float) → CellUpTo z (foldl smaller c ts) ↔ (CellUpTo z c × UpToAll z ts)
smallest_is z c [] = (λ h. (h, tt), λ h. h.0)
smallest_is z c (t ∷ ts) =
    let one = smaller_is z c t in
    let all = smallest_is z (smaller c t) ts in (
      λ h. let k = all.0 h in let j = one.0 k.0 in (j.0, (j.1, k.1)),
      λ h. all.1 (one.1 (h.0, h.1.0), h.1.1),
    )

abbrev AtMost : Option Float → Float → Type 0
AtMost z t = CellUpTo z (some t)

all_reordered : (z : Option Float) {ts us : List Float} → Reordered ts us → UpToAll z ts → UpToAll z us
all_reordered z Permᴰ.nil h = tt
all_reordered z (Permᴰ.cons e r) h = (subst (AtMost z) e h.0, all_reordered z r h.1)
all_reordered z (Permᴰ.swap e f) h = (subst (AtMost z) f h.1.0, (subst (AtMost z) e h.0, h.1.1))
all_reordered z (Permᴰ.trans r s) h = all_reordered z s (all_reordered z r h)

up_to_reordered : {ts us : List Float} → Reordered ts us → CellUpTo (foldl smaller none ts) (foldl smaller none us)
up_to_reordered {ts} {us} r =
    let z = foldl smaller none ts in
    (smallest_is z none us).1 (tt, all_reordered z r ((smallest_is z none ts).0 (cell_itself z)).1)

-- ---- two orders' smallest are at most one another

cell_both_ways : (c d : Option Float) → CellUpTo c d → CellUpTo d c → AlikeCell c d
cell_both_ways none none h k = tt
cell_both_ways none (some y) h k = h
cell_both_ways (some x) none h k = k
cell_both_ways (some x) (some y) h k = both_ways x y h k

-- ---- the law

fold_alike : {ts us : List Float} → Reordered ts us → AlikeCell (foldl smaller none ts) (foldl smaller none us)
fold_alike {ts} {us} r =
    cell_both_ways (foldl smaller none ts) (foldl smaller none us) (up_to_reordered r) (up_to_reordered (Permᴰ.symm r))

-- the times of a reordering are a reordering
abbrev is_at : ℕ → ℕ → Obs → Bool
is_at p f o = eqb o.peptide p && eqb o.file f

abbrev rt_of : Obs → Float
rt_of o = o.rt

times_are : (p f : ℕ) (os : List Obs) → times p f os ≡ filter_map (pick (is_at p f) rt_of) os
unfolding times filter_map
times_are p f [] = refl
times_are p f (o ∷ os) = one_more (is_at p f) rt_of o os (times p f os) (sym (times_are p f os))

pub min_alike : (p f : ℕ) {os qs : List Obs} → Reordered os qs → AlikeCell (min_rt p f os) (min_rt p f qs)
unfolding min_rt
min_alike p f {os} {qs} r =
    rw (times_are p f os, times_are p f qs) (fold_alike (picked_reordered (is_at p f) rt_of r))

pub smallest_alike : (files peptides : ℕ) {os qs : List Obs} → Reordered os qs
    → AlikeRows (min_rts files peptides os) (min_rts files peptides qs)
unfolding min_rts
smallest_alike files peptides r = each_tabulate peptides _ _ (λ p. each_tabulate files _ _ (λ f. min_alike p f r))

-- ---- the longest times

max_same : (f : ℕ) {os qs : List Obs} → Reordered os qs → max_rt f os ≡ max_rt f qs
unfolding max_rt
max_same f Permᴰ.nil = refl
max_same f (Permᴰ.cons e r) = rw (e, max_same f r)
max_same f (Permᴰ.swap e g) = rw (e, g) (omega arith)
max_same f (Permᴰ.trans r s) = max_same f r ∙ max_same f s

pub longest_same : (files : ℕ) {os qs : List Obs} → Reordered os qs → max_rts files os ≡ max_rts files qs
unfolding max_rts
longest_same files r = tabulate_same files _ _ (λ f l. max_same f r)
