-- The places that lie side by side up to the last column: the cells of a row from there on gain one after the other,
-- and row after row.
use mathlib.Core.Path.{◌≡◌, refl, sym, ap, ◌∙◌, subst}
use mathlib.Core.Bool.{false}
use mathlib.Core.List.{List, [], ◌∷◌}
use Prim.Native.Nat.{ℕ, zero, suc, ◌+◌, ◌-◌, ◌≤◌, ◌<◌}
use native.Mathlib.Nat.{lt_of_not-le}
use native.Mathlib.Decide.{dec_le}
use native.Mathlib.Omega.{arith}
use lib.ListN.{length, get_or, take, drop, length-set, drop_of_length-le}
use lib.Seq.{drop-cons, get_or-set_same, get_or-set_other}
use lib.Ieee.{Float, nan}
use Rattle.float.specs.Value.{is_zero}
use Rattle.matrix.specs.Nonzero.{Nonzeros}
use Rattle.packed_rows.specs.Added.{plus_scaled, cell_added, columns_added, run_added, runs_added, rows_at}
use Rattle.packed_rows.specs.Added.{RunFrom, Gained}
use Rattle.packed_rows.specs.Falling.{falling_start, RowStarts, Stored, cell_at}
use Rattle.packed_rows.specs.declared.Row.{Row}
use Rattle.packed_rows.proofs.Places.{next_left, value_at_lem, values_long}
use Rattle.packed_rows.proofs.Begun.{cell_within, cells_apart, cell, gains, zero_row, Begun, RowAt, Rows}
use Rattle.packed_rows.proofs.Begun.{left_at, rising, within_row, Reached, turns, reach}
use Rattle.packed_rows.proofs.Begun.{cornered, held_rows, held_corner}

-- two values more
run_two : (at : ℕ) (x : Float) (values : List Float) (i : ℕ) (acc : List Float) → i + 1 < length values
    → run_added at x (drop i values) acc
    ≡ run_added (at + 2) x (drop (i + 2) values)
    (cell_added (at + 1) x (get_or values (i + 1) nan) (cell_added at x (get_or values i nan) acc))
run_two at x values i acc h =
    let one : i + 1 ≡ suc i = omega arith in
    let two : i + 2 ≡ suc (suc i) = omega arith in
    let next : at + 1 ≡ suc at = omega arith in
    let past : at + 2 ≡ suc (suc at) = omega arith in
    ap (λ (vs : List Float). run_added at x vs acc) (drop-cons values i nan (omega arith))
    ∙ ap (λ (vs : List Float). run_added (suc at) x vs (cell_added at x (get_or values i nan) acc))
    (drop-cons values (suc i) nan (omega arith))
    ∙ rw (one, two, next, past)

run_none : (at : ℕ) (x : Float) (values : List Float) (i : ℕ) (acc : List Float) → length values ≤ i
    → run_added at x (drop i values) acc ≡ acc
run_none at x values i acc h =
    ap (λ (vs : List Float). run_added at x vs acc) (drop_of_length-le values {i = i} h)

-- a run that is added two values at a time
module _ (at : ℕ) (x : Float) (values acc : List Float) where
  pub run_first : (acc₁ : List Float) → 1 < length values
      → acc₁ ≡ cell_added (at + 1) x (get_or values 1 nan) (cell_added at x (get_or values 0 nan) acc)
      → run_added (at + 2) x (drop 2 values) acc₁ ≡ run_added at x values acc
  run_first acc₁ h e = ap (run_added (at + 2) x (drop 2 values)) e ∙ sym (run_two at x values 0 acc h)

  pub run_more : (i : ℕ) (acc₁ acc₂ : List Float) → i + 1 < length values
      → acc₂ ≡ cell_added (at + i + 1) x (get_or values (i + 1) nan) (cell_added (at + i) x (get_or values i nan) acc₁)
      → run_added (at + i) x (drop i values) acc₁ ≡ run_added at x values acc
      → run_added (at + (i + 2)) x (drop (i + 2) values) acc₂ ≡ run_added at x values acc
  run_more i acc₁ acc₂ h e r =
      ap (λ (k : ℕ). run_added k x (drop (i + 2) values) acc₂) {x = at + (i + 2)} {y = at + i + 2} (omega arith)
      ∙ ap (run_added (at + i + 2) x (drop (i + 2) values)) e
      ∙ sym (run_two (at + i) x values i acc₁ h)
      ∙ r

  pub run_all : (i : ℕ) (acc₁ : List Float) → length values ≤ i
      → run_added (at + i) x (drop i values) acc₁ ≡ run_added at x values acc
      → acc₁ ≡ run_added at x values acc
  run_all i acc₁ h r = sym (run_none (at + i) x values i acc₁ h) ∙ r

module _ (ext acc₀ : List Float) (whole : length acc₀ ≡ falling_start (length ext) (length ext - 1))
    (places : List ℕ) (values : List Float) (g : Nonzeros 0 ext places values) (h : ℕ)
    (r : RunFrom (length ext) places h) (some : h < length places)
  where
    abbrev w : ℕ
    w = length ext

    -- the places from h on
    pub run_place : (p : ℕ) → h ≤ p → p < length places → get_or places p 0 + (length places - p) ≡ w
    run_place p l m =
        let b = left_at ext acc₀ whole places values g h (omega arith) in
        let c = left_at ext acc₀ whole places values g p (omega arith) in
        let before = rising ext acc₀ whole places values g (p - h) h b.0 b.1 (omega arith) in
        let to_p = ap (λ (i : ℕ). get_or places i 0) {x = h + (p - h)} {y = p} (omega arith) in
        let n : ℕ = length places - 1 - p in
        let after = rising ext acc₀ whole places values g n p c.0 c.1 (omega arith) in
        let end = within_row ext acc₀ whole places values g (p + n) (omega arith) in
        omega (arith, r.last some, before, to_p, after, end)

    -- their values, and that these are not zero
    run_value : (p : ℕ) → p < length places
        → (get_or values p nan ≡ get_or ext (get_or places p 0) nan)
        × (is_zero (get_or ext (get_or places p 0) nan) ≡ false)
    run_value p m =
        let c = left_at ext acc₀ whole places values g p (omega arith) in
        let q : ℕ = get_or places p 0 in
        let same : q - 0 ≡ q = omega arith in (
          value_at_lem 0 ext places values g p c.0 c.1 m ∙ ap (λ (i : ℕ). get_or ext i nan) same,
          ap (λ (i : ℕ). is_zero (get_or ext i nan)) (sym same) ∙ (next_left 0 ext places p c.0 c.1 m).here,
        )

    -- ---- one row

    module _ (J F K C : ℕ) (acc₁ : List Float) (b : Begun ext acc₀ J F K C F acc₁) (B : ℕ) (j : ℕ) (e : Row)
        (at : RowAt ext acc₀ whole F K j e) (past : K ≤ suc C)
      where
        -- row j has gained the columns before D, and the other rows are as they were
        record Along (D : ℕ) (acc : List Float) : Type 0 where
          long : length acc ≡ length acc₀
          others : (i c : ℕ) → Stored w i c → (i ≡ j → ⊥) → cell ext acc₀ acc i c ≡ cell ext acc₀ acc₁ i c
          behind : (c : ℕ) → Stored w j c → c < D → cell ext acc₀ acc j c ≡ gains ext acc₀ j c
          ahead : (c : ℕ) → Stored w j c → D ≤ c → cell ext acc₀ acc j c ≡ cell ext acc₀ acc₀ j c

        along_begins : Along C acc₁
        along_begins =
            record {
              long = b.long;
              others = λ i c s f. refl;
              behind = λ c s l. b.left j c s at.from at.below l;
              ahead = λ c s l. by c s l (dec_le c C);
            }
          where
            by : (c : ℕ) → Stored w j c → C ≤ c → Dec (c ≤ C) → cell ext acc₀ acc₁ j c ≡ cell ext acc₀ acc₀ j c
            by c s l (yes m) = b.lower j c s at.from at.from at.below (omega arith)
            by c s l (no m) = b.right j c s at.from at.below (lt_of_not-le m)

        -- the row's cell of column D
        module _ (D : ℕ) (acc : List Float) (a : Along D acc) (d : D < w) (low : C ≤ D) (v : Float)
            (value : v ≡ get_or ext D nan) (nonzero : is_zero (get_or ext D nan) ≡ false)
          where
            here : Stored w j D
            here = record { row = at.row; from = omega (arith, at.below); within = d }

            abbrev added : List Float
            added = cell_added (cell_at w j D) e.factor v acc

            other : (i c : ℕ) → Stored w i c → ((i ≡ j) × (c ≡ D) → ⊥)
                → cell ext acc₀ added i c ≡ cell ext acc₀ acc i c
            other i c t f =
                get_or-set_other acc (cell_at w j D) (cell_at w i c) _ nan (λ k. f (cells_apart w i c j D t here k))

            this : cell ext acc₀ added j D ≡ gains ext acc₀ j D
            this =
                let in_list : cell_at w j D < length acc = omega (arith, cell_within w j D here, a.long) in
                get_or-set_same acc (cell_at w j D) _ nan in_list
                ∙ ap (λ (y : Float). plus_scaled e.factor y v) (a.ahead D here (omega arith))
                ∙ rw (at.factor, value, at.nonzero, nonzero)

            behind_of : (c : ℕ) → Stored w j c → c < suc D → Dec (D ≤ c) → cell ext acc₀ added j c ≡ gains ext acc₀ j c
            behind_of c t l (yes m) = let same : c ≡ D = omega arith in rw same this
            behind_of c t l (no m) =
                other j c t (λ f. absurd (omega (arith, f.1, lt_of_not-le m))) ∙ a.behind c t (lt_of_not-le m)

            along_step : Along (suc D) added
            along_step =
                record {
                  long = length-set acc (cell_at w j D) _ ∙ a.long;
                  others = λ i c t f. other i c t (λ k. f k.0) ∙ a.others i c t f;
                  behind = λ c t l. behind_of c t l (dec_le D c);
                  ahead = λ c t l.
                      other j c t (λ f. absurd (omega (arith, f.1))) ∙ a.ahead c t (omega arith);
                }

        along : (n p D : ℕ) (acc : List Float) → h ≤ p → p + n ≡ length places → D + n ≡ w → C ≤ D → Along D acc
            → Along w (run_added (cell_at w j D) e.factor (drop p values) acc)
        along zero p D acc l m d low a =
            let all : length values ≤ p = omega (arith, values_long 0 ext places values g) in
            subst (Along w) (sym (run_none (cell_at w j D) e.factor values p acc all))
            (subst (λ (k : ℕ). Along k acc) {x = D} {y = w} (omega arith) a)
        along (suc n) p D acc l m d low a =
            let place : get_or places p 0 ≡ D = omega (arith, run_place p l (omega arith)) in
            let v = rw place at (run_value p (omega arith)) in
            let more : Along (suc D) (cell_added (cell_at w j D) e.factor (get_or values p nan) acc) =
            along_step D acc a (omega arith) low (get_or values p nan) v.0 v.1 in
            let next : cell_at w j (suc D) ≡ suc (cell_at w j D) = omega (arith, at.below) in
            let rest = along n (suc p) (suc D) _ (omega arith) (omega arith) (omega arith) (omega arith) more in
            subst (Along w)
            (ap
            (λ (k : ℕ).
            run_added k e.factor (drop (suc p) values) (cell_added (cell_at w j D) e.factor (get_or values p nan) acc)) next
            ∙ sym
            (ap (λ (vs : List Float). run_added (cell_at w j D) e.factor vs acc)
            (drop-cons values p nan (omega (arith, values_long 0 ext places values g))))) rest

        -- the whole row has
        row_run : (acc : List Float) → Along w acc → Begun ext acc₀ J (suc j) K C (suc j) acc
        row_run acc a =
            record {
              long = a.long;
              ordered = (omega (arith, b.ordered.0, at.from), omega (arith, at.below));
              above = λ i c s l.
                  a.others i c s (λ k. absurd (omega (arith, k, b.ordered.0, at.from))) ∙ b.above i c s l;
              done = λ i c s l m. by i c s l m (dec_le F i) (dec_le j i) (dec_le C c) (dec_le c C);
              left = λ i c s l m n.
                  a.others i c s (λ k. absurd (omega (arith, k))) ∙ b.left i c s (omega (arith, at.from)) m n;
              upper = λ i c s l m n. absurd (omega arith);
              lower = λ i c s l m n o.
                  a.others i c s (λ k. absurd (omega (arith, k)))
                  ∙ b.lower i c s (omega (arith, at.from)) (omega (arith, at.from)) n o;
              right = λ i c s l m n.
                  a.others i c s (λ k. absurd (omega (arith, k))) ∙ b.right i c s (omega (arith, at.from)) m n;
              below = λ i c s l m.
                  a.others i c s (λ k. absurd (omega (arith, k))) ∙ b.below i c s (omega (arith, at.from)) m;
            }
          where
            by : (i c : ℕ) → Stored w i c → J ≤ i → i < suc j → Dec (F ≤ i) → Dec (j ≤ i) → Dec (C ≤ c) → Dec (c ≤ C)
                → cell ext acc₀ acc i c ≡ gains ext acc₀ i c
            by i c s l m (no p) q t u =
                a.others i c s (λ k. absurd (omega (arith, k, lt_of_not-le p, at.from)))
                ∙ b.done i c s l (lt_of_not-le p)
            by i c s l m (yes p) (yes q) t u =
                let same : i ≡ j = omega arith in
                let s₁ : Stored w j c = rw same at s in
                rw same (a.behind c s₁ s.within)
            by i c s l m (yes p) (no q) (no t) u =
                a.others i c s (λ k. absurd (omega (arith, k, lt_of_not-le q)))
                ∙ b.left i c s p (omega (arith, lt_of_not-le q, at.below)) (lt_of_not-le t)
            by i c s l m (yes p) (no q) (yes t) (yes u) =
                a.others i c s (λ k. absurd (omega (arith, k, lt_of_not-le q)))
                ∙ b.lower i c s p p (omega (arith, lt_of_not-le q, at.below)) (omega arith)
                ∙ sym (zero_row ext acc₀ i c (at.zeros i p (lt_of_not-le q)))
            by i c s l m (yes p) (no q) (yes t) (no u) =
                a.others i c s (λ k. absurd (omega (arith, k, lt_of_not-le q)))
                ∙ b.right i c s p (omega (arith, lt_of_not-le q, at.below)) (lt_of_not-le u)
                ∙ sym (zero_row ext acc₀ i c (at.zeros i p (lt_of_not-le q)))

    -- ---- row after row

    pub runs_gained : (J B K : ℕ) (rows : List Row) (acc : List Float) → Rows ext acc₀ whole B K rows
        → K ≤ suc (get_or places h 0) → Begun ext acc₀ J B K (get_or places h 0) B acc
        → Gained ext J K acc₀ (runs_added rows (get_or places h 0) (drop h values) acc)
    runs_gained J B K [] acc none l b =
        let C : ℕ = get_or places h 0 in
        record {
          long = b.long;
          above = b.above;
          gained = λ j c s m n. by j c s m n (dec_le B j) (dec_le C c) (dec_le c C);
          below = λ j c s m. b.below j c s (omega (arith, b.ordered.1)) m;
        }
      where
        by : (j c : ℕ) → Stored w j c → J ≤ j → j < K → Dec (B ≤ j) → Dec (get_or places h 0 ≤ c)
            → Dec (c ≤ get_or places h 0) → cell ext acc₀ acc j c ≡ gains ext acc₀ j c
        by j c s m n (no p) t u = b.done j c s m (lt_of_not-le p)
        by j c s m n (yes p) (no t) u = b.left j c s p n (lt_of_not-le t)
        by j c s m n (yes p) (yes t) (yes u) =
            b.lower j c s p p n (omega arith) ∙ sym (zero_row ext acc₀ j c (none j p n))
        by j c s m n (yes p) (yes t) (no u) =
            b.right j c s p n (lt_of_not-le u) ∙ sym (zero_row ext acc₀ j c (none j p n))
    runs_gained J B K (e ∷ rows) acc (j, at, more) l b =
        let C : ℕ = get_or places h 0 in
        let n : ℕ = length places - h in
        let place : e.base + C ≡ cell_at w j C = omega (arith, at.base, at.below) in
        let a =
        along J B K C acc b B j e at l n h C acc (omega arith) (omega arith) (r.last some) (omega arith)
        (along_begins J B K C acc b B j e at l) in
        let one : Begun ext acc₀ J (suc j) K C (suc j) (run_added (e.base + C) e.factor (drop h values) acc) =
        subst (λ (k : ℕ). Begun ext acc₀ J (suc j) K C (suc j) (run_added k e.factor (drop h values) acc)) (sym place)
        (row_run J B K C acc b B j e at l _ a) in
        runs_gained J (suc j) K rows _ more l one

    -- ---- four rows with a run

    module _ (starts : List ℕ) (firsts : RowStarts (w - 1) starts) (m : ℕ) (three : m + 3 < length places)
        (last : get_or places (m + 3) 0 + 1 < w) (four : List Row)
        (held : four ≡ rows_at places values starts 4 m) (past : m + 3 < h)
      where
        -- what the code leaves before the runs
        abbrev pub to_run : List Float
        to_run =
            columns_added four (take (h - (m + 3)) (drop (m + 3) places))
            (take (h - (m + 3)) (drop (m + 3) values))
            (cornered ext acc₀ whole places values g starts firsts m three last four (get_or places m 0)
            (get_or values m nan))

        pub four_run : Gained ext (get_or places m 0) (get_or places (m + 3) 0 + 1) acc₀
            (runs_added four (get_or places h 0) (drop h values) to_run)
        four_run =
            let F : ℕ = get_or places m 0 in
            let K : ℕ = get_or places (m + 3) 0 + 1 in
            let rs = held_rows ext acc₀ whole places values g starts firsts m three last four held in
            let corner = held_corner ext acc₀ whole places values g starts firsts m three last four held in
            let n : ℕ = h - (m + 3) in
            let all : Reached ext acc₀ whole places values g F F K (m + 3 + n) (get_or places (m + 3) 0) to_run =
            turns ext acc₀ whole places values g n F F K (m + 3) (get_or places (m + 3) 0) four _
            (omega arith) rs
            (omega arith) corner in
            let at_h : Reached ext acc₀ whole places values g F F K h (get_or places (m + 3) 0) to_run =
            subst (λ (p : ℕ). Reached ext acc₀ whole places values g F F K p (get_or places (m + 3) 0) to_run)
            {x = m + 3 + n} {y = h} (omega arith) all in
            let there : Reached ext acc₀ whole places values g F F K h (get_or places h 0) to_run =
            reach ext acc₀ whole places values g starts firsts F F K h (get_or places (m + 3) 0) to_run some at_h in
            let t = next_left 0 ext places h there.at there.left some in
            let same : there.at ≡ get_or places h 0 = omega (arith, there.from, t.from) in
            let b = left_at ext acc₀ whole places values g (m + 3) (omega arith) in
            let up = rising ext acc₀ whole places values g (h - (m + 3)) (m + 3) b.0 b.1 (omega arith) in
            let to_h = ap (λ (i : ℕ). get_or places i 0) {x = m + 3 + (h - (m + 3))} {y = h} (omega arith) in
            runs_gained F F K four to_run rs (omega (arith, up, to_h))
            (subst (λ (c : ℕ). Begun ext acc₀ F F K c F to_run) same there.begun)
