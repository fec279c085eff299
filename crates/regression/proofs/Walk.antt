-- The walk over the stored rows that are places of nonzero columns, block after block: the rows between the blocks are
-- zero columns' and would stay as they are.
use mathlib.Core.Path.{◌≡◌, refl, sym, ap, ◌∙◌, subst}
use mathlib.Core.Bool.{Bool, true, false, cond}
use mathlib.Core.List.{List, [], ◌∷◌, ◌++◌}
use Prim.Native.Nat.{ℕ, suc, ◌+◌, ◌-◌, ◌≤◌, ◌<◌}
use native.Mathlib.Omega.{arith}
use lib.ListN.{length, get_or, take, drop, length-append, get_or-append}
use lib.Seq.{length-take-le, take_all, take-suc, drop_at}
use lib.Ieee.{Float, nan}
use Rattle.float.specs.Value.{is_zero}
use Rattle.matrix.specs.Rows.{flat}
use Rattle.matrix.specs.Nonzero.{nonzeros}
use Rattle.packed_rows.specs.Falling.{falling_rows}
use Rattle.regression.specs.Triangle.{add_triangle_by}
use Rattle.packed_rows.specs.Added.{plus_nonzero, Addable, Gained}
use Rattle.regression.specs.Sparse.{nonzero_columns}
use Rattle.packed_rows.proofs.Places.{nonzeros_snoc, nonzeros_below, Next, next, none_left}
use Rattle.packed_rows.proofs.Places.{Left, left_all, next_left}
use Rattle.packed_rows.proofs.Begun.{left_at, left_suc, rising}
use Rattle.regression.proofs.Gained.{gained_none, gained_on, gained_all}

module _ (ext : List Float) (some : 0 < length ext) where
  -- the order, and the target
  abbrev pub order : ℕ
  order = length ext - 1

  abbrev pub target : Float
  target = get_or ext order nan

  -- the target's place, where it is not zero
  abbrev target_place : List ℕ
  target_place = cond (is_zero target) [] (order ∷ [])

  split : ext ≡ take order ext ++ target ∷ []
  split = sym (take_all (suc order) ext (omega arith)) ∙ take-suc ext order nan (omega arith)

  -- the places are the columns' and then the target's
  two_kinds : nonzeros 0 ext ≡ nonzero_columns ext ++ target_place
  two_kinds =
      let n : 0 + length (take order ext) ≡ order = omega (arith, length-take-le order ext (omega arith)) in
      ap (nonzeros 0) split
      ∙ nonzeros_snoc 0 (take order ext) target
      ∙ ap (λ (k : ℕ). nonzero_columns ext ++ cond (is_zero target) [] (k ∷ [])) n

  target_counts : (b : Bool) → length (cond b [] (order ∷ [])) ≡ cond b 0 1
  target_counts true = refl
  target_counts false = refl

  pub count_kinds : length (nonzeros 0 ext) ≡ length (nonzero_columns ext) + cond (is_zero target) 0 1
  count_kinds =
      ap length two_kinds
      ∙ length-append (nonzero_columns ext) target_place
      ∙ ap (λ (k : ℕ). length (nonzero_columns ext) + k) (target_counts (is_zero target))

-- Where the walk stands at place m of k columns': the rows before row c have gained the sample, and the places that are
-- left are those from column c on.
abbrev pub Walked : (ext acc₀ : List Float) (places : List ℕ) (k : ℕ) (acc : List Float) (m : ℕ) → Type 0
Walked ext acc₀ places k acc m =
    (m ≤ k) × ((c : ℕ) × Left 0 ext places m c × (c ≤ length ext - 1) × Gained ext 0 c acc₀ acc)

module _ (ext acc₀ : List Float) (places : List ℕ) (values : List Float) (starts : List ℕ)
    (a : Addable ext acc₀ places values starts) (some : 0 < length ext) (k : ℕ)
    (columns : k ≡ length places - cond (is_zero (target ext some)) 0 1)
  where
    abbrev d : ℕ
    d = length ext - 1

    pub columns_are : k ≡ length (nonzero_columns ext)
    columns_are = omega (arith, columns, ap length a.listed.places_are, count_kinds ext some)

    pub few : k ≤ length places
    few = omega (arith, columns)

    -- a column's place is a row
    pub in_rows : (m : ℕ) → m < k → get_or places m 0 + 1 < length ext
    in_rows m h =
        let l : m < length (nonzero_columns ext) = omega (arith, columns_are) in
        let e : get_or places m 0 ≡ get_or (nonzero_columns ext) m 0 =
        ap (λ (t : List ℕ). get_or t m 0) (a.listed.places_are ∙ two_kinds ext some)
        ∙ get_or-append (nonzero_columns ext) _ 0 m l in
        omega (arith, e, nonzeros_below 0 (take d ext) m l, length-take-le d ext (omega arith))

    pub walk_begins : Walked ext acc₀ places k acc₀ 0
    walk_begins = (omega arith, (0, left_all 0 ext places a.listed.places_are, omega arith, gained_none ext 0 acc₀))

    -- the rows at n + 1 places more
    pub block_walked : (acc acc₁ : List Float) (m n : ℕ) → Walked ext acc₀ places k acc m → m + n < k
        → Gained ext (get_or places m 0) (get_or places (m + n) 0 + 1) acc acc₁
        → Walked ext acc₀ places k acc₁ (m + n + 1)
    block_walked acc acc₁ m n v h g =
        let c : ℕ = v.1.0 in
        let l : Left 0 ext places m c = v.1.1 in
        let q : ℕ = get_or places (m + n) 0 in
        let t : Next 0 c ext (get_or places m 0) (drop (suc m) places) =
        next_left 0 ext places m c l (omega (arith, few)) in
        let up = rising ext acc₀ a.whole places values a.listed n m c l (omega (arith, few)) in
        let b = left_at ext acc₀ a.whole places values a.listed (m + n) (omega (arith, few)) in
        let more : Left 0 ext places (suc (m + n)) (suc q) =
        left_suc ext acc₀ a.whole places values a.listed (m + n) b.0 b.1 (omega (arith, few)) in (
          omega arith,
          (
            q + 1,
            subst (λ (i : ℕ). Left 0 ext places (m + n + 1) i) {x = suc q} {y = q + 1} (omega arith)
                (subst (λ (i : ℕ). Left 0 ext places i (suc q)) {x = suc (m + n)} {y = m + n + 1} (omega arith) more),
            omega (arith, in_rows (m + n) h),
            gained_on ext 0 c (get_or places m 0) (q + 1) acc₀ acc acc₁ (omega arith) (omega (arith, t.from))
                (omega (arith, up)) v.1.3 g (λ j e f. t.zeros j e (omega arith)),
          ),
        )

    -- at the end zero columns alone are left
    no_column : (acc : List Float) (v : Walked ext acc₀ places k acc k) → (i : ℕ) → v.1.0 ≤ i → i < d
        → is_zero (get_or ext i nan) ≡ true
    no_column acc v i l b =
        let c : ℕ = v.1.0 in
        let left : target_place ext some ≡ nonzeros (0 + c) (drop c ext) =
        sym (drop_at (nonzero_columns ext) (target_place ext some) k (sym columns_are))
        ∙ ap (drop k) (sym (a.listed.places_are ∙ two_kinds ext some))
        ∙ v.1.1 in
        by (is_zero (target ext some)) left
      where
        by : (z : Bool) → cond z [] (d ∷ []) ≡ nonzeros (0 + v.1.0) (drop v.1.0 ext)
            → is_zero (get_or ext i nan) ≡ true
        by true e = none_left 0 v.1.0 ext e i l (omega arith)
        by false e = (next 0 v.1.0 ext d [] e).zeros i l (omega arith)

    pub all_walked : (acc : List Float) (m : ℕ) → Walked ext acc₀ places k acc m → k ≤ m
        → acc ≡ flat (add_triangle_by plus_nonzero (falling_rows (length ext) (length ext - 1) acc₀) ext)
    all_walked acc m inv h =
        let v : Walked ext acc₀ places k acc k =
        subst (Walked ext acc₀ places k acc) {x = m} {y = k} (omega (arith, inv.0)) inv in
        gained_all ext acc₀ acc some a.whole
        (gained_on ext 0 v.1.0 d d acc₀ acc acc (omega arith) v.1.2 (omega arith) v.1.3
        (gained_none ext d acc) (no_column acc v))
