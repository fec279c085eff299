-- The places of the cells that are not zero, one after the other; and a loop over them: what is left of them and of
-- their values at a turn.
use mathlib.Core.Path.{◌≡◌, refl, sym, ap, ◌∙◌, subst}
use mathlib.Core.Bool.{Bool, true, false, cond}
use mathlib.Core.List.{List, [], ◌∷◌, ◌++◌}
use Prim.Native.Nat.{ℕ, zero, suc, ◌+◌, ◌-◌, ◌≤◌, ◌<◌}
use native.Mathlib.Nat.{le_of_suc-le-suc, not-suc-le-zero, lt_of_not-le}
use native.Mathlib.Decide.{dec_le}
use native.Mathlib.Numerals.{add-one}
use native.Mathlib.Omega.{arith}
use lib.ListN.{length, get_or, take, drop, length-append, length-drop, take-append-drop}
use lib.ListN.{drop_of_length-le}
use lib.Seq.{drop-cons, drop_at, drop-drop, get_or-drop, get_or-take, length-take-le}
use lib.Ieee.{Float, nan}
use Rattle.std.specs.List.{All}
use Rattle.std.proofs.lemmas.List.Elements.{All-from_get_or}
use Rattle.float.specs.Value.{is_zero}
use Rattle.matrix.specs.Nonzero.{nonzeros, nonzero_cells, Nonzeros}
use Rattle.matrix.proofs.Nonzero.{cells_append, as_many}

-- ---- the places

pub nonzeros_snoc : (j : ℕ) (xs : List Float) (x : Float)
    → nonzeros j (xs ++ x ∷ []) ≡ nonzeros j xs ++ cond (is_zero x) [] ((j + length xs) ∷ [])
unfolding nonzeros
nonzeros_snoc j [] x = last (is_zero x)
  where
    last : (b : Bool) → ◌≡◌ {A = List ℕ} (cond b [] (j ∷ [])) (cond b [] ((j + 0) ∷ []))
    last true = refl
    last false = ap (λ (k : ℕ). k ∷ []) {x = j} {y = j + 0} (omega arith)
nonzeros_snoc j (a ∷ xs) x =
    let later : suc j + length xs ≡ j + suc (length xs) = omega arith in
    first (is_zero a)
    (nonzeros_snoc (suc j) xs x ∙ ap (λ (k : ℕ). nonzeros (suc j) xs ++ cond (is_zero x) [] (k ∷ [])) later)
  where
    first : (b : Bool)
        → nonzeros (suc j) (xs ++ x ∷ []) ≡ nonzeros (suc j) xs ++ cond (is_zero x) [] ((j + suc (length xs)) ∷ [])
        → cond b (nonzeros (suc j) (xs ++ x ∷ [])) (j ∷ nonzeros (suc j) (xs ++ x ∷ []))
        ≡ cond b (nonzeros (suc j) xs) (j ∷ nonzeros (suc j) xs) ++ cond (is_zero x) [] ((j + suc (length xs)) ∷ [])
    first true far = far
    first false far = ap (λ (t : List ℕ). j ∷ t) far

-- from a nonzero cell on they begin with its own
pub nonzeros_here : (k l : ℕ) (xs : List Float) → l < length xs → is_zero (get_or xs l nan) ≡ false
    → nonzeros k (drop l xs) ≡ k ∷ nonzeros (suc k) (drop (suc l) xs)
unfolding nonzeros
nonzeros_here k l xs h z = rw (drop-cons xs l nan h, z)

-- The next of the places that are left from cell c on: zeros lie before it, and the places after it are those from the
-- next cell on.
pub record Next (j c : ℕ) (xs : List Float) (q : ℕ) (ps : List ℕ) : Type 0 where
  pub from : j + c ≤ q
  pub within : q < j + length xs
  pub zeros : (i : ℕ) → c ≤ i → i < q - j → is_zero (get_or xs i nan) ≡ true
  pub here : is_zero (get_or xs (q - j) nan) ≡ false
  pub rest : ps ≡ nonzeros (j + suc (q - j)) (drop (suc (q - j)) xs)

-- of a list from its first cell on
next_first : (j : ℕ) (xs : List Float) (q : ℕ) (ps : List ℕ) → q ∷ ps ≡ nonzeros j xs → Next j 0 xs q ps
unfolding nonzeros
next_first j [] q ps e = let n : suc (length ps) ≡ 0 = ap length e in absurd (omega arith)
next_first j (x ∷ xs) q ps e = by (is_zero x) refl e (next_first (suc j) xs q ps)
  where
    by : (b : Bool) → is_zero x ≡ b → q ∷ ps ≡ cond b (nonzeros (suc j) xs) (j ∷ nonzeros (suc j) xs)
        → (q ∷ ps ≡ nonzeros (suc j) xs → Next (suc j) 0 xs q ps) → Next j 0 (x ∷ xs) q ps
    by true z f more =
        let n = more f in
        let far : q - j ≡ suc (q - suc j) = omega (arith, n.from) in
        record {
          from = omega (arith, n.from);
          within = omega (arith, n.within);
          zeros = λ i l m. zeros_from i m;
          here = rw far n.here;
          rest = rw far (n.rest ∙ ap (λ (k : ℕ). nonzeros k (drop (suc (q - suc j)) xs)) (omega arith));
        }
      where
        zeros_from : (i : ℕ) → i < q - j → is_zero (get_or (x ∷ xs) i nan) ≡ true
        zeros_from zero m = z
        zeros_from (suc i) m = (more f).zeros i (omega arith) (omega arith)
    by false z f more =
        let first : q ≡ j = cc (f) in
        let near : q - j ≡ 0 = omega arith in
        record {
          from = omega arith;
          within = omega arith;
          zeros = λ i l m. absurd (omega arith);
          here = rw near z;
          rest = rw near (cc (f) ∙ ap (λ (k : ℕ). nonzeros k xs) {x = suc j} {y = j + 1} (omega arith));
        }

pub next : (j c : ℕ) (xs : List Float) (q : ℕ) (ps : List ℕ) → q ∷ ps ≡ nonzeros (j + c) (drop c xs)
    → Next j c xs q ps
next j c xs q ps e =
    let n = next_first (j + c) (drop c xs) q ps e in
    let far : c + (q - (j + c)) ≡ q - j = omega (arith, n.from) in
    let past : c + suc (q - (j + c)) ≡ suc (q - j) = omega (arith, n.from) in
    let k = length-drop c xs in
    record {
      from = omega (arith, n.from);
      within = omega (arith, n.from, n.within, k);
      zeros = λ i l m.
          ap (λ (z : ℕ). is_zero (get_or xs z nan)) {x = i} {y = c + (i - c)} (omega arith)
          ∙ ap is_zero (sym (get_or-drop c xs (i - c) nan))
          ∙ n.zeros (i - c) (omega arith) (omega arith);
      here =
          ap (λ (z : ℕ). is_zero (get_or xs z nan)) (sym far)
          ∙ ap is_zero (sym (get_or-drop c xs (q - (j + c)) nan))
          ∙ n.here;
      rest =
          n.rest
          ∙ ap (nonzeros (j + c + suc (q - (j + c)))) (drop-drop (suc (q - (j + c))) c xs)
          ∙ ap (λ (z : ℕ). nonzeros (j + c + suc (q - (j + c))) (drop z xs)) past
          ∙ ap (λ (z : ℕ). nonzeros z (drop (suc (q - j)) xs)) (omega (arith, n.from));
    }

-- where none is left, the cells from c on are zero
none_first : (j : ℕ) (xs : List Float) → [] ≡ nonzeros j xs → (i : ℕ) → i < length xs → is_zero (get_or xs i nan) ≡ true
unfolding nonzeros
none_first j [] e i h = absurd (not-suc-le-zero h)
none_first j (x ∷ xs) e i h = by (is_zero x) refl e i h (none_first (suc j) xs)
  where
    by : (b : Bool) → is_zero x ≡ b → [] ≡ cond b (nonzeros (suc j) xs) (j ∷ nonzeros (suc j) xs)
        → (i : ℕ) → i < suc (length xs)
        → ([] ≡ nonzeros (suc j) xs → (k : ℕ) → k < length xs → is_zero (get_or xs k nan) ≡ true)
        → is_zero (get_or (x ∷ xs) i nan) ≡ true
    by true z f zero h more = z
    by true z f (suc i) h more = more f i (le_of_suc-le-suc h)
    by false z f i h more = let n : 0 ≡ suc (length (nonzeros (suc j) xs)) = ap length f in absurd (omega arith)

pub none_left : (j c : ℕ) (xs : List Float) → [] ≡ nonzeros (j + c) (drop c xs) → (i : ℕ) → c ≤ i → i < length xs
    → is_zero (get_or xs i nan) ≡ true
none_left j c xs e i l h =
    ap (λ (z : ℕ). is_zero (get_or xs z nan)) {x = i} {y = c + (i - c)} (omega arith)
    ∙ ap is_zero (sym (get_or-drop c xs (i - c) nan))
    ∙ none_first (j + c) (drop c xs) e (i - c) (omega (arith, length-drop c xs))

-- a place is a cell's
pub nonzeros_below : (j : ℕ) (xs : List Float) (p : ℕ) → p < length (nonzeros j xs)
    → get_or (nonzeros j xs) p 0 < j + length xs
unfolding nonzeros
nonzeros_below j [] p h = absurd (not-suc-le-zero h)
nonzeros_below j (x ∷ xs) p h = by (is_zero x) p h (nonzeros_below (suc j) xs)
  where
    by : (b : Bool) (p : ℕ) → p < length (cond b (nonzeros (suc j) xs) (j ∷ nonzeros (suc j) xs))
        → ((k : ℕ) → k < length (nonzeros (suc j) xs) → get_or (nonzeros (suc j) xs) k 0 < suc j + length xs)
        → get_or (cond b (nonzeros (suc j) xs) (j ∷ nonzeros (suc j) xs)) p 0 < j + suc (length xs)
    by true p h more = omega (arith, more p h)
    by false zero h more = omega arith
    by false (suc p) h more = omega (arith, more p (le_of_suc-le-suc h))

-- ---- the places that are left

module _ (j : ℕ) (rest : List Float) (places : List ℕ) where
  -- from place p on they are those of the cells from u on
  abbrev pub Left : (p u : ℕ) → Type 0
  Left p u = drop p places ≡ nonzeros (j + u) (drop u rest)

  pub left_all : places ≡ nonzeros j rest → Left 0 0
  left_all e = e ∙ ap (λ (k : ℕ). nonzeros k rest) {x = j} {y = j + 0} (omega arith)

  pub left_none : (p u : ℕ) → Left p u → length places ≤ p → [] ≡ nonzeros (j + u) (drop u rest)
  left_none p u l h = sym (drop_of_length-le places {i = p} h) ∙ l

  module _ (p u : ℕ) (l : Left p u) (h : p < length places) where
    pub next_left : Next j u rest (get_or places p 0) (drop (suc p) places)
    next_left = next j u rest (get_or places p 0) (drop (suc p) places) (sym (drop-cons places p 0 h) ∙ l)

    pub left_next : Left (p + 1) (suc (get_or places p 0 - j))
    left_next = rw (add-one p) next_left.rest

    -- the zeros before the next place passed over
    pub left_here : Left p (get_or places p 0 - j)
    left_here =
        let n = next_left in
        let k : ℕ = get_or places p 0 - j in
        drop-cons places p 0 h
        ∙ ap (λ (q : ℕ). q ∷ drop (suc p) places) {x = get_or places p 0} {y = j + k} (omega (arith, n.from))
        ∙ ap (λ (ps : List ℕ). (j + k) ∷ ps)
        (n.rest ∙ ap (λ (i : ℕ). nonzeros i (drop (suc k) rest)) {x = j + suc k} {y = suc (j + k)} (omega arith))
        ∙ sym (nonzeros_here (j + k) k rest (omega (arith, n.from, n.within)) n.here)

-- ---- a part of a list, n cells of it from cell k on

pub length_part : {A : Type 0} (k n : ℕ) (xs : List A) → k + n ≤ length xs → length (take n (drop k xs)) ≡ n
length_part k n xs h = length-take-le n (drop k xs) (rw length-drop (omega arith))

pub all_part : (P : ℕ → Type 0) (k n : ℕ) (xs : List ℕ) → k + n ≤ length xs
    → ((r : ℕ) → k ≤ r → r < k + n → P (get_or xs r 0))
    → All P (take n (drop k xs))
all_part P k n xs h f =
    let long = length_part k n xs h in
    All-from_get_or P (take n (drop k xs)) 0
    (λ p l.
    let m : p < n = omega arith in
    subst P (sym (get_or-take n (drop k xs) p 0 m ∙ get_or-drop k xs p 0)) (f (k + p) (omega arith) (omega arith)))

-- ---- the values that are left

nil_of_none : {A : Type 0} (xs : List A) → length xs ≡ 0 → xs ≡ []
nil_of_none [] e = refl
nil_of_none (x ∷ xs) e = absurd (omega arith)

module _ (j : ℕ) (rest : List Float) (places : List ℕ) (values : List Float) (g : Nonzeros j rest places values) where
  pub values_long : length values ≡ length places
  values_long = ap length g.values_are ∙ sym (as_many j rest) ∙ sym (ap length g.places_are)

  -- where the places that are left are those of the cells from u on, the values are those cells'
  pub values_left : (p u : ℕ) → Left j rest places p u → drop p values ≡ nonzero_cells (drop u rest)
  values_left p u l =
      let a : List Float = nonzero_cells (take u rest) in
      let b : List Float = nonzero_cells (drop u rest) in
      let two : values ≡ a ++ b =
      g.values_are ∙ ap nonzero_cells (sym (take-append-drop u rest)) ∙ cells_append (take u rest) (drop u rest) in
      let all : length values ≡ length a + length b = ap length two ∙ length-append a b in
      let left : length places - p ≡ length b =
      sym (length-drop p places) ∙ ap length l ∙ as_many (j + u) (drop u rest) in
      by a b two all left (dec_le (length places) p)
    where
      by : (a b : List Float) → values ≡ a ++ b → length values ≡ length a + length b → length places - p ≡ length b
          → Dec (length places ≤ p) → drop p values ≡ b
      by a b two all left (yes h) =
          drop_of_length-le values {i = p} (omega (arith, values_long)) ∙ sym (nil_of_none b (omega arith))
      by a b two all left (no h) =
          let at : length a ≡ p = omega (arith, values_long, lt_of_not-le h) in
          ap (drop p) two ∙ drop_at a b p at

  pub value_at_lem : (p u : ℕ) → Left j rest places p u → p < length places
      → get_or values p nan ≡ get_or rest (get_or places p 0 - j) nan
  unfolding nonzero_cells
  value_at_lem p u l h =
      let n = next_left j rest places p u l h in
      let k : ℕ = get_or places p 0 - j in
      let here : drop p values ≡ nonzero_cells (drop k rest) = values_left p k (left_here j rest places p u l h) in
      let first : get_or (nonzero_cells (drop k rest)) 0 nan ≡ get_or rest k nan =
      rw (drop-cons rest k nan (omega (arith, n.from, n.within)), n.here) in
      ap (λ (i : ℕ). get_or values i nan) {x = p} {y = p + 0} (omega arith)
      ∙ sym (get_or-drop p values 0 nan)
      ∙ ap (λ (t : List Float). get_or t 0 nan) here
      ∙ first
