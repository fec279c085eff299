-- The longest times, row by row.
use mathlib.Core.Path.{◌≡◌, refl, sym, ap, ◌∙◌}
use mathlib.Core.Bool.{Bool, true, false, cond}
use mathlib.Core.List.{List, [], ◌∷◌}
use Prim.Native.Nat.{ℕ, max, ◌<◌}
use native.Mathlib.Omega.{arith}
use lib.Dec.{eqb}
use lib.ListN.{length, get_or, set}
use lib.Seq.{get_or-set_same, get_or-set_other, ext_get_or}
use borrow.Author.Tests.{eqb-true, eqb-false}
use Rattle.float.specs.Convert.{ceiling}
use Rattle.matrix.proofs.Lists.{length_tabulate, get_d_tabulate}
use Rattle.retention_alignment.specs.Observation.{Obs, max_rt, max_rts}

-- a row more: its file's longest time is made anew, and what is left gives what the whole gives
pub max_step : (maxes : List ℕ) (o : Obs) (os : List Obs) (f : ℕ) → o.file < length maxes
    → max (get_or (set maxes o.file (max (get_or maxes o.file 0) (ceiling 32 o.rt))) f 0) (max_rt f os)
    ≡ max (get_or maxes f 0) (max_rt f (o ∷ os))
unfolding max_rt
max_step maxes o os f h = go (eqb o.file f) (eqb-true o.file f) (eqb-false o.file f)
  where
    go : (b : Bool) → (b ≡ true → o.file ≡ f) → (b ≡ false → o.file ≡ f → ⊥)
        → max (get_or (set maxes o.file (max (get_or maxes o.file 0) (ceiling 32 o.rt))) f 0) (max_rt f os)
        ≡ max (get_or maxes f 0) (max (cond b (ceiling 32 o.rt) 0) (max_rt f os))
    go true e n =
        let v = max (get_or maxes o.file 0) (ceiling 32 o.rt) in
        let new =
        ap (λ (k : ℕ). get_or (set maxes o.file v) k 0) (sym (e refl)) ∙ get_or-set_same maxes o.file v 0 h in
        let old = ap (λ (k : ℕ). get_or maxes k 0) (e refl) in
        omega (arith, new, old)
    go false e n =
        omega
        (arith, get_or-set_other maxes o.file f (max (get_or maxes o.file 0) (ceiling 32 o.rt)) 0 (λ k. n refl (sym k)))

-- no rows are left
pub max_done : (maxes : List ℕ) (n : ℕ) (os : List Obs) → length maxes ≡ n
    → ((f : ℕ) → f < n → max (get_or maxes f 0) (max_rt f []) ≡ max_rt f os) → maxes ≡ max_rts n os
unfolding max_rt max_rts
max_done maxes n os e h =
    ext_get_or 0 maxes (max_rts n os) (e ∙ sym (length_tabulate n (λ f. max_rt f os)))
    (λ f l. let k : f < n = omega arith in omega (arith, h f k, get_d_tabulate n (λ f. max_rt f os) f 0 k))
