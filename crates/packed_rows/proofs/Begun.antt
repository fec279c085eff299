-- A block of stored rows that gains a sample column after column, and down each column. A stored cell lies at a place
-- of its own, so that what is added to one leaves the others as they are.
use mathlib.Core.Path.{◌≡◌, refl, sym, ap, ap₂, ◌∙◌, subst}
use mathlib.Core.Bool.{Bool, true, false, ◌||◌, cond}
use mathlib.Core.List.{List, [], ◌∷◌}
use Prim.Native.Nat.{ℕ, zero, suc, ◌+◌, ◌-◌, ◌≤◌, ◌<◌}
use native.Mathlib.Nat.{lt_of_not-le}
use native.Mathlib.Decide.{dec_le}
use native.Mathlib.Omega.{arith}
use lib.ListN.{length, get_or, take, drop, length-set, length-drop}
use lib.Seq.{take_all, drop-cons, get_or-set_same, get_or-set_other}
use lib.Ieee.{Float, nan}
use Rattle.std.specs.List.{All}
use Rattle.std.proofs.lemmas.List.Elements.{All-nil, All-cons}
use Rattle.float.specs.Value.{is_zero}
use Rattle.matrix.specs.Nonzero.{nonzeros, Nonzeros}
use Rattle.packed_rows.specs.Added.{plus_scaled, plus_nonzero, cell_added, column_added, columns_added}
use Rattle.packed_rows.specs.Added.{row_at, rows_at, Gained}
use Rattle.packed_rows.specs.Falling.{falling_start, RowStarts, Stored, cell_at}
use Rattle.packed_rows.specs.declared.Row.{Row}
use Rattle.packed_rows.proofs.Falling.{row_ends, start_next}
use Rattle.packed_rows.proofs.Places.{Next, none_left}
use Rattle.packed_rows.proofs.Places.{Left, left_all, left_none, left_here, next_left, values_long, value_at_lem}

-- ---- where a stored cell lies

-- no row is empty
start_far : (w j : ℕ) → j ≤ w → j ≤ falling_start w j
unfolding falling_start
start_far w zero h = omega arith
start_far w (suc j) h = omega (arith, start_far w j (omega arith), start_next w j)

pub cell_within : (w j c : ℕ) → Stored w j c → cell_at w j c < falling_start w (w - 1)
cell_within w j c s = omega (arith, s.row, s.from, s.within, row_ends w (w - 1) j (omega (arith, s.row)))

row_before : (w j c b k : ℕ) → Stored w j c → Stored w b k → j < b → cell_at w j c < cell_at w b k
row_before w j c b k s t h = omega (arith, s.from, s.within, t.from, row_ends w b j h)

-- no two at one place
pub cells_apart : (w j c b k : ℕ) → Stored w j c → Stored w b k → cell_at w j c ≡ cell_at w b k → (j ≡ b) × (c ≡ k)
cells_apart w j c b k s t e = by (dec_le j b) (dec_le b j)
  where
    by : Dec (j ≤ b) → Dec (b ≤ j) → (j ≡ b) × (c ≡ k)
    by (yes l) (yes m) =
        let same : j ≡ b = omega arith in
        let first : falling_start w j ≡ falling_start w b = ap (falling_start w) same in
        (same, omega (arith, s.from, t.from))
    by (no l) m = absurd (omega (arith, row_before w b k j c t s (lt_of_not-le l)))
    by (yes l) (no m) = absurd (omega (arith, row_before w j c b k s t (lt_of_not-le m)))

-- ---- a block

module _ (ext acc₀ : List Float) where
  abbrev pub w : ℕ
  w = length ext

  abbrev pub cell : List Float → (j c : ℕ) → Float
  cell acc j c = get_or acc (cell_at w j c) nan

  -- the cell with its product
  abbrev pub gains : (j c : ℕ) → Float
  gains j c = plus_nonzero (get_or ext j nan) (cell acc₀ j c) (get_or ext c nan)

  pub zero_row : (j c : ℕ) → is_zero (get_or ext j nan) ≡ true → gains j c ≡ cell acc₀ j c
  zero_row j c z = rw z

  zero_column : (j c : ℕ) → is_zero (get_or ext c nan) ≡ true → gains j c ≡ cell acc₀ j c
  zero_column j c z = by (is_zero (get_or ext j nan))
    where
      by : (b : Bool)
          → cond (b || is_zero (get_or ext c nan)) (cell acc₀ j c) (plus_scaled (get_or ext j nan) (cell acc₀ j c)
          (get_or ext c nan))
          ≡ cell acc₀ j c
      by true = refl
      by false = rw z

  -- The rows from J on and below F have gained all, those from there on and below K the columns before C and, above row
  -- B, column C. The other cells are as they were.
  pub record Begun (J F K C B : ℕ) (acc : List Float) : Type 0 where
    pub long : length acc ≡ length acc₀
    pub ordered : (J ≤ F) × (F ≤ K)
    pub above : (j c : ℕ) → Stored w j c → j < J → cell acc j c ≡ cell acc₀ j c
    pub done : (j c : ℕ) → Stored w j c → J ≤ j → j < F → cell acc j c ≡ gains j c
    pub left : (j c : ℕ) → Stored w j c → F ≤ j → j < K → c < C → cell acc j c ≡ gains j c
    pub upper : (j c : ℕ) → Stored w j c → F ≤ j → j < B → c ≡ C → cell acc j c ≡ gains j c
    pub lower : (j c : ℕ) → Stored w j c → F ≤ j → B ≤ j → j < K → c ≡ C → cell acc j c ≡ cell acc₀ j c
    pub right : (j c : ℕ) → Stored w j c → F ≤ j → j < K → C < c → cell acc j c ≡ cell acc₀ j c
    pub below : (j c : ℕ) → Stored w j c → F ≤ j → K ≤ j → cell acc j c ≡ cell acc₀ j c

  -- at the beginning; a row has no cell before its own column
  pub begin : (J K C : ℕ) → C ≤ J → J ≤ K → Begun J J K C J acc₀
  begin J K C h b =
      record {
        long = refl;
        ordered = (omega arith, b);
        above = λ j c s l. refl;
        done = λ j c s l m. absurd (omega arith);
        left = λ j c s l m n. absurd (omega (arith, s.from));
        upper = λ j c s l m n. absurd (omega arith);
        lower = λ j c s l m n o. refl;
        right = λ j c s l m n. refl;
        below = λ j c s l m. refl;
      }

  -- columns of zeros passed over
  pub skip : (J F K C k : ℕ) (acc : List Float) → Begun J F K C F acc → C ≤ k
      → ((i : ℕ) → C ≤ i → i < k → is_zero (get_or ext i nan) ≡ true)
      → Begun J F K k F acc
  skip J F K C k acc b h zeros =
      record {
        long = b.long;
        ordered = b.ordered;
        above = b.above;
        done = b.done;
        left = λ j c s l m n. left_of j c s l m n (dec_le C c) (dec_le c C);
        upper = λ j c s l m n. absurd (omega arith);
        lower = λ j c s l m n o. still j c s l n (omega arith) (dec_le c C);
        right = λ j c s l m n. b.right j c s l m (omega arith);
        below = b.below;
      }
    where
      still : (j c : ℕ) → Stored w j c → F ≤ j → j < K → C ≤ c → Dec (c ≤ C) → cell acc j c ≡ cell acc₀ j c
      still j c s l n o (yes p) = b.lower j c s l l n (omega arith)
      still j c s l n o (no p) = b.right j c s l n (lt_of_not-le p)

      left_of : (j c : ℕ) → Stored w j c → F ≤ j → j < K → c < k → Dec (C ≤ c) → Dec (c ≤ C)
          → cell acc j c ≡ gains j c
      left_of j c s l m n (no p) q = b.left j c s l m (lt_of_not-le p)
      left_of j c s l m n (yes p) q = still j c s l m p q ∙ sym (zero_column j c (zeros c p n))

  -- the column is done where zero rows alone are left in it
  pub next_column : (J F K C B : ℕ) (acc : List Float) → Begun J F K C B acc
      → ((j : ℕ) → F ≤ j → B ≤ j → j < K → j ≤ C → is_zero (get_or ext j nan) ≡ true)
      → Begun J F K (suc C) F acc
  next_column J F K C B acc b zeros =
      record {
        long = b.long;
        ordered = b.ordered;
        above = b.above;
        done = b.done;
        left = λ j c s l m n. left_of j c s l m n (dec_le C c) (dec_le B j);
        upper = λ j c s l m n. absurd (omega arith);
        lower = λ j c s l m n o. b.right j c s l n (omega arith);
        right = λ j c s l m n. b.right j c s l m (omega arith);
        below = b.below;
      }
    where
      left_of : (j c : ℕ) → Stored w j c → F ≤ j → j < K → c < suc C → Dec (C ≤ c) → Dec (B ≤ j)
          → cell acc j c ≡ gains j c
      left_of j c s l m n (no p) q = b.left j c s l m (lt_of_not-le p)
      left_of j c s l m n (yes p) (no q) = b.upper j c s l (lt_of_not-le q) (omega arith)
      left_of j c s l m n (yes p) (yes q) =
          b.lower j c s l q m (omega arith) ∙ sym (zero_row j c (zeros j l q m (omega (arith, s.from))))

  -- ---- one cell more

  module _ (whole : length acc₀ ≡ falling_start w (w - 1)) where
    module _ (J F K C B j : ℕ) (acc : List Float) (b : Begun J F K C B acc) (s : Stored w j C) (x v : Float)
        (from : F ≤ j) (past : B ≤ j) (in_block : j < K)
        (zeros : (i : ℕ) → B ≤ i → i < j → is_zero (get_or ext i nan) ≡ true)
        (factor : x ≡ get_or ext j nan) (value : v ≡ get_or ext C nan)
        (nonzero : is_zero (get_or ext j nan) ≡ false) (nonzero_column : is_zero (get_or ext C nan) ≡ false)
      where
        abbrev added : List Float
        added = cell_added (cell_at w j C) x v acc

        -- another cell is as it was
        other : (i c : ℕ) → Stored w i c → ((i ≡ j) × (c ≡ C) → ⊥) → cell added i c ≡ cell acc i c
        other i c t f =
            get_or-set_other acc (cell_at w j C) (cell_at w i c) _ nan (λ e. f (cells_apart w i c j C t s e))

        this : cell added j C ≡ gains j C
        this =
            let here : cell_at w j C < length acc = omega (arith, cell_within w j C s, b.long) in
            get_or-set_same acc (cell_at w j C) _ nan here
            ∙ ap (λ (d : Float). plus_scaled x d v) (b.lower j C s from past in_block refl)
            ∙ rw (factor, value, nonzero, nonzero_column)

        upper_of : (i c : ℕ) → Stored w i c → F ≤ i → i < suc j → c ≡ C → Dec (j ≤ i) → Dec (B ≤ i)
            → cell added i c ≡ gains i c
        upper_of i c t l m e (yes p) q =
            let same : i ≡ j = omega arith in rw (same, e) this
        upper_of i c t l m e (no p) (yes q) =
            other i c t (λ f. absurd (omega (arith, f.0, lt_of_not-le p)))
            ∙ b.lower i c t l q (omega (arith, lt_of_not-le p)) e
            ∙ sym (zero_row i c (zeros i q (lt_of_not-le p)))
        upper_of i c t l m e (no p) (no q) =
            other i c t (λ f. absurd (omega (arith, f.0, lt_of_not-le p))) ∙ b.upper i c t l (lt_of_not-le q) e

        pub step : Begun J F K C (suc j) added
        step =
            record {
              long = length-set acc (cell_at w j C) _ ∙ b.long;
              ordered = b.ordered;
              above = λ i c t l. other i c t (λ f. absurd (omega (arith, f.0, b.ordered.0))) ∙ b.above i c t l;
              done = λ i c t l m. other i c t (λ f. absurd (omega (arith, f.0))) ∙ b.done i c t l m;
              left = λ i c t l m n. other i c t (λ f. absurd (omega (arith, f.1))) ∙ b.left i c t l m n;
              upper = λ i c t l m e. upper_of i c t l m e (dec_le j i) (dec_le B i);
              lower = λ i c t l m n e.
                  other i c t (λ f. absurd (omega (arith, f.0))) ∙ b.lower i c t l (omega arith) n e;
              right = λ i c t l m n. other i c t (λ f. absurd (omega (arith, f.1))) ∙ b.right i c t l m n;
              below = λ i c t l m. other i c t (λ f. absurd (omega (arith, f.0))) ∙ b.below i c t l m;
            }

    -- ---- a column, and the columns that are listed

    -- row j, the first from B on and below L that is not zero: where its column 0 would be, and its factor
    pub record RowAt (B L j : ℕ) (r : Row) : Type 0 where
      pub from : B ≤ j
      pub below : j < L
      pub row : suc j < w
      pub zeros : (i : ℕ) → B ≤ i → i < j → is_zero (get_or ext i nan) ≡ true
      pub base : r.base + j ≡ falling_start w j
      pub factor : r.factor ≡ get_or ext j nan
      pub nonzero : is_zero (get_or ext j nan) ≡ false

    -- the rows from B on and below L that are not zero
    abbrev pub Rows : (B L : ℕ) → List Row → Type 0
    Rows B L [] = (j : ℕ) → B ≤ j → j < L → is_zero (get_or ext j nan) ≡ true
    Rows B L (r ∷ rows) = (j : ℕ) × RowAt B L j r × Rows (suc j) L rows

    -- column C of the rows below L; the later rows of the block have none there
    pub column : (J F K L C B : ℕ) (v : Float) (rows : List Row) (acc : List Float)
        → Rows B L rows → Begun J F K C B acc → F ≤ B → L ≤ K → L ≤ suc C
        → ((j : ℕ) → L ≤ j → j < K → C < j)
        → C < w → v ≡ get_or ext C nan → is_zero (get_or ext C nan) ≡ false
        → Begun J F K (suc C) F (column_added rows C v acc)
    column J F K L C B v [] acc none b f l m later h e z =
        next_column J F K C B acc b (λ j n o p q. by j o p q (dec_le L j))
      where
        by : (j : ℕ) → B ≤ j → j < K → j ≤ C → Dec (L ≤ j) → is_zero (get_or ext j nan) ≡ true
        by j o p q (yes y) = absurd (omega (arith, later j y p))
        by j o p q (no y) = none j o (lt_of_not-le y)
    column J F K L C B v (r ∷ rows) acc (j, at, more) b f l m later h e z =
        let s : Stored w j C =
        record { row = at.row; from = omega (arith, at.below); within = h } in
        let place : r.base + C ≡ cell_at w j C = omega (arith, at.base, at.below) in
        let one : Begun J F K C (suc j) (cell_added (r.base + C) r.factor v acc) =
        rw place
        (step J F K C B j acc b s r.factor v (omega (arith, at.from)) at.from (omega (arith, at.below)) at.zeros
        at.factor e at.nonzero z) in
        column J F K L C (suc j) v rows (cell_added (r.base + C) r.factor v acc) more one (omega (arith, at.from)) l m later
        h e z

    -- ---- the columns at the places of a sample

    module _ (places : List ℕ) (values : List Float) (g : Nonzeros 0 ext places values) where
      -- What is left from place p on is from a column on, which is not before c; the columns before it are done.
      pub record Reached (J F K p c : ℕ) (acc : List Float) : Type 0 where
        pub at : ℕ
        pub from : c ≤ at
        pub within : at ≤ w
        pub left : Left 0 ext places p at
        pub begun : Begun J F K at F acc

      -- one place more: its column is added to the rows below L
      pub turn : (J F K L p c : ℕ) (rows : List Row) (acc : List Float) → p < length places
          → Rows F L rows → L ≤ K → L ≤ suc (get_or places p 0)
          → ((j : ℕ) → L ≤ j → j < K → get_or places p 0 < j)
          → Reached J F K p c acc
          → Reached J F K (suc p) (suc (get_or places p 0))
          (column_added rows (get_or places p 0) (get_or values p nan) acc)
      turn J F K L p c rows acc h rs l m later r =
          let q : ℕ = get_or places p 0 in
          let t : Next 0 r.at ext q (drop (suc p) places) = next_left 0 ext places p r.at r.left h in
          let same : q - 0 ≡ q = omega arith in
          let passed : Begun J F K q F acc =
          skip J F K r.at q acc r.begun (omega (arith, t.from)) (λ i a b. t.zeros i a (omega arith)) in
          let value : get_or values p nan ≡ get_or ext q nan =
          value_at_lem 0 ext places values g p r.at r.left h ∙ ap (λ (i : ℕ). get_or ext i nan) same in
          let nonzero : is_zero (get_or ext q nan) ≡ false =
          ap (λ (i : ℕ). is_zero (get_or ext i nan)) (sym same) ∙ t.here in
          record {
            at = suc q;
            from = omega arith;
            within = omega (arith, t.within);
            left = t.rest ∙ ap (λ (i : ℕ). nonzeros (0 + suc i) (drop (suc i) ext)) same;
            begun =
                column J F K L q F (get_or values p nan) rows acc rs passed (omega arith) l m later
                (omega (arith, t.within)) value nonzero;
          }

      -- n places more, all past the block's rows
      pub turns : (n J F K p c : ℕ) (rows : List Row) (acc : List Float) → p + n ≤ length places
          → Rows F K rows → K ≤ suc c
          → Reached J F K p c acc
          → Reached J F K (p + n) c (columns_added rows (take n (drop p places)) (take n (drop p values)) acc)
      turns zero J F K p c rows acc h rs l r =
          subst (λ (q : ℕ). Reached J F K q c acc) {x = p} {y = p + 0} (omega arith) r
      turns (suc n) J F K p c rows acc h rs l r =
          let q : ℕ = get_or places p 0 in
          let v : Float = get_or values p nan in
          let h₁ : p < length places = omega arith in
          let h₂ : p < length values = omega (arith, values_long 0 ext places values g) in
          let t : Next 0 r.at ext q (drop (suc p) places) = next_left 0 ext places p r.at r.left h₁ in
          let one : Reached J F K (suc p) (suc q) (column_added rows q v acc) =
          turn J F K K p c rows acc h₁ rs (omega arith) (omega (arith, r.from, t.from))
          (λ j a b. absurd (omega arith)) r in
          let low : Reached J F K (suc p) c (column_added rows q v acc) =
          record {
            at = one.at;
            from = omega (arith, one.from, r.from, t.from);
            within = one.within;
            left = one.left;
            begun = one.begun;
          } in
          let all : Reached J F K (suc p + n) c
          (columns_added rows (take n (drop (suc p) places)) (take n (drop (suc p) values))
          (column_added rows q v acc)) =
          turns n J F K (suc p) c rows (column_added rows q v acc) (omega arith) rs l low in
          let first : columns_added rows (take (suc n) (drop p places)) (take (suc n) (drop p values)) acc
          ≡ columns_added rows (take n (drop (suc p) places)) (take n (drop (suc p) values))
          (column_added rows q v acc) =
          ap₂ (λ (ps : List ℕ) (vs : List Float). columns_added rows (take (suc n) ps) (take (suc n) vs) acc)
          (drop-cons places p 0 h₁) (drop-cons values p nan h₂) in
          subst (λ (i : ℕ). Reached J F K i c (columns_added rows (take (suc n) (drop p places))
          (take (suc n) (drop p values)) acc)) {x = suc p + n} {y = p + suc n} (omega arith)
          (subst (Reached J F K (suc p + n) c) (sym first) all)

      -- no place is left: the block's rows have gained the sample
      pub gained_block : (J F K p c : ℕ) (acc : List Float) → length places ≤ p → Reached J F K p c acc
          → Gained ext J K acc₀ acc
      gained_block J F K p c acc h r =
          let b : Begun J F K w F acc =
          skip J F K r.at w acc r.begun r.within
          (λ i a m. none_left 0 r.at ext (left_none 0 ext places p r.at r.left h) i a m) in
          record {
            long = b.long;
            above = b.above;
            gained = λ j c s l m. by b j c s l m (dec_le F j);
            below = λ j c s l. b.below j c s (omega (arith, b.ordered.1)) l;
          }
        where
          by : Begun J F K w F acc → (j c : ℕ) → Stored w j c → J ≤ j → j < K → Dec (F ≤ j)
              → cell acc j c ≡ gains j c
          by b j c s l m (yes f) = b.left j c s f m s.within
          by b j c s l m (no f) = b.done j c s l (lt_of_not-le f)

      -- past a place, what is left is from the column after it on
      pub left_suc : (p B : ℕ) → Left 0 ext places p B → p < length places
          → Left 0 ext places (suc p) (suc (get_or places p 0))
      left_suc p B l h =
          let q : ℕ = get_or places p 0 in
          (next_left 0 ext places p B l h).rest
          ∙ ap (λ (i : ℕ). nonzeros (0 + suc i) (drop (suc i) ext)) {x = q - 0} {y = q} (omega arith)

      pub left_at : (p : ℕ) → p ≤ length places → (B : ℕ) × Left 0 ext places p B
      left_at zero h = (0, left_all 0 ext places g.places_are)
      left_at (suc p) h =
          let l = left_at p (omega arith) in (suc (get_or places p 0), left_suc p l.0 l.1 (omega arith))

      pub within_row : (r : ℕ) → r < length places → get_or places r 0 < w
      within_row r h =
          let l = left_at r (omega arith) in omega (arith, (next_left 0 ext places r l.0 l.1 h).within)

      -- the places rise
      pub rising : (n p B : ℕ) → Left 0 ext places p B → p + n < length places
          → get_or places p 0 + n ≤ get_or places (p + n) 0
      rising zero p B l h =
          omega (arith, ap (λ (i : ℕ). get_or places i 0) {x = p} {y = p + 0} (omega arith))
      rising (suc n) p B l h =
          let q : ℕ = get_or places p 0 in
          let more : Left 0 ext places (suc p) (suc q) = left_suc p B l (omega arith) in
          let t : Next 0 (suc q) ext (get_or places (suc p) 0) (drop (suc (suc p)) places) =
          next_left 0 ext places (suc p) (suc q) more (omega arith) in
          let far : get_or places (suc p) 0 + n ≤ get_or places (suc p + n) 0 =
          rising n (suc p) (suc q) more (omega arith) in
          omega (arith, t.from, far, ap (λ (i : ℕ). get_or places i 0) {x = suc p + n} {y = p + suc n} (omega arith))

      -- ---- the rows at n places

      module _ (starts : List ℕ) (firsts : RowStarts (w - 1) starts) where
        row_at_lem : (B L p : ℕ) → p < length places → Left 0 ext places p B → get_or places p 0 < L
            → get_or places p 0 + 1 < w
            → RowAt B L (get_or places p 0)
            (row_at places values starts p)
        row_at_lem B L p h l b r =
            let q : ℕ = get_or places p 0 in
            let t : Next 0 B ext q (drop (suc p) places) = next_left 0 ext places p B l h in
            let same : q - 0 ≡ q = omega arith in
            let width : w - 1 + 1 ≡ w = omega arith in
            let start : get_or starts q 0 ≡ falling_start w q =
            firsts.at q (omega arith) ∙ ap (λ (v : ℕ). falling_start v q) width in
            record {
              from = omega (arith, t.from);
              below = b;
              row = omega arith;
              zeros = λ i a m. t.zeros i a (omega arith);
              base = omega (arith, start, start_far w q (omega arith));
              factor =
                  value_at_lem 0 ext places values g p B l h ∙ ap (λ (i : ℕ). get_or ext i nan) same;
              nonzero = ap (λ (i : ℕ). is_zero (get_or ext i nan)) (sym same) ∙ t.here;
            }

        pub rows_at_lem : (n p B L : ℕ) → p + n < length places → Left 0 ext places p B
            → L ≡ suc (get_or places (p + n) 0) → L < w
            → Rows B L (rows_at places values starts (suc n) p)
        rows_at_lem zero p B L h l e b =
            let last : get_or places (p + 0) 0 ≡ get_or places p 0 =
            ap (λ (i : ℕ). get_or places i 0) {x = p + 0} {y = p} (omega arith) in (
              get_or places p 0,
              row_at_lem B L p (omega arith) l (omega arith) (omega arith),
              λ j m k. absurd (omega arith),
            )
        rows_at_lem (suc n) p B L h l e b =
            let q : ℕ = get_or places p 0 in
            let up = rising (suc n) p B l h in
            let last : get_or places (p + suc n) 0 ≡ get_or places (suc p + n) 0 =
            ap (λ (i : ℕ). get_or places i 0) {x = p + suc n} {y = suc p + n} (omega arith) in (
              q,
              row_at_lem B L p (omega arith) l (omega arith) (omega arith),
              rows_at_lem n (suc p) (suc q) L (omega arith) (left_suc p B l (omega arith)) (e ∙ ap suc last) b,
            )

        -- ---- one row, and four

        here : (p : ℕ) → p < length places → Left 0 ext places p (get_or places p 0)
        here p h =
            let q : ℕ = get_or places p 0 in
            let l = left_at p (omega arith) in
            left_here 0 ext places p l.0 l.1 h
            ∙ ap (λ (i : ℕ). nonzeros (0 + i) (drop i ext)) {x = q - 0} {y = q} (omega arith)

        -- what the code reads lies within what it was passed
        module _ (p : ℕ) (h : p < length places) (row : get_or places p 0 + 1 < w) where
          pub start_is : get_or starts (get_or places p 0) 0 ≡ falling_start w (get_or places p 0)
          start_is =
              firsts.at (get_or places p 0) (omega arith)
              ∙ ap (λ (v : ℕ). falling_start v (get_or places p 0)) {x = w - 1 + 1} {y = w} (omega arith)

          pub in_starts : (get_or places p 0 < length starts)
              × (get_or places p 0 ≤ get_or starts (get_or places p 0) 0)
          in_starts = (
            omega (arith, firsts.enough),
            omega (arith, start_is, start_far w (get_or places p 0) (omega arith)),
          )

          pub cell_fits : (r : ℕ) → p ≤ r → r < length places
              → get_or starts (get_or places p 0) 0 - get_or places p 0 + get_or places r 0 < length acc₀
          cell_fits r l m =
              let q : ℕ = get_or places p 0 in
              let b = left_at p (omega arith) in
              let up : q ≤ get_or places r 0 =
              omega (
                arith,
                rising (r - p) p b.0 b.1 (omega arith),
                ap (λ (i : ℕ). get_or places i 0) {x = p + (r - p)} {y = r} (omega arith),
              ) in
              let s : Stored w q (get_or places r 0) =
              record { row = omega arith; from = up; within = within_row r m } in
              omega (arith, cell_within w q (get_or places r 0) s, start_is, in_starts.1, up)

        -- the same of the rows at n places, up to place r's column
        pub rows_fit : (n p r : ℕ) → p + n ≤ suc r → r < length places
            → ((i : ℕ) → p ≤ i → i < p + n → get_or places i 0 + 1 < w)
            → All (λ (x : Row). x.base + get_or places r 0 < length acc₀) (rows_at places values starts n p)
        rows_fit zero p r l m b = All-nil (λ (x : Row). x.base + get_or places r 0 < length acc₀)
        rows_fit (suc n) p r l m b =
            All-cons (λ (x : Row). x.base + get_or places r 0 < length acc₀) (row_at places values starts p) (rows_at places values starts n (suc p))
            (cell_fits p (omega arith) (b p (omega arith) (omega arith)) r (omega arith) m)
            (rows_fit n (suc p) r (omega arith) m (λ i c d. b i (omega arith) (omega arith)))

        -- at a place, with the zero columns before it passed over
        pub reach : (J F K p c : ℕ) (acc : List Float) → p < length places → Reached J F K p c acc
            → Reached J F K p (get_or places p 0) acc
        reach J F K p c acc h r =
            let q : ℕ = get_or places p 0 in
            let t : Next 0 r.at ext q (drop (suc p) places) = next_left 0 ext places p r.at r.left h in
            record {
              at = q;
              from = omega arith;
              within = omega (arith, t.within);
              left = here p h;
              begun =
                  skip J F K r.at q acc r.begun (omega (arith, t.from)) (λ i a b. t.zeros i a (omega arith));
            }

        -- a block from the row at place m on
        start_block : (K m : ℕ) → m < length places → get_or places m 0 ≤ K
            → Reached (get_or places m 0) (get_or places m 0) K m (get_or places m 0) acc₀
        start_block K m h b =
            let q : ℕ = get_or places m 0 in
            record {
              at = q;
              from = omega arith;
              within = omega (arith, within_row m h);
              left = here m h;
              begun = begin q K q (omega arith) b;
            }

        -- the rest of the places, for a block whose last row is at place p
        rest_gained : (J F K p : ℕ) (rows : List Row) (acc : List Float) → p < length places
            → Rows F K rows → K ≡ suc (get_or places p 0)
            → Reached J F K p (get_or places p 0) acc
            → Gained ext J K acc₀ (columns_added rows (drop p places) (drop p values) acc)
        rest_gained J F K p rows acc h rs e r =
            let n : ℕ = length places - p in
            let all = turns n J F K p (get_or places p 0) rows acc (omega arith) rs (omega arith) r in
            let places_all : take n (drop p places) ≡ drop p places =
            take_all n (drop p places) (rw length-drop (omega arith)) in
            let values_all : take n (drop p values) ≡ drop p values =
            take_all n (drop p values) (rw length-drop (omega (arith, values_long 0 ext places values g))) in
            subst (Gained ext J K acc₀)
            (ap₂ (λ (ps : List ℕ) (vs : List Float). columns_added rows ps vs acc) places_all values_all)
            (gained_block J F K (p + n) (get_or places p 0) _ (omega arith) all)

        pub one_gained : (m : ℕ) → m < length places → get_or places m 0 + 1 < w
            → Gained ext (get_or places m 0) (get_or places m 0 + 1) acc₀
            (columns_added (rows_at places values starts 1 m) (drop m places) (drop m values) acc₀)
        one_gained m h b =
            let j : ℕ = get_or places m 0 in
            let r = start_block (j + 1) m h (omega arith) in
            let last : j + 1 ≡ suc (get_or places (m + 0) 0) =
            ap (λ (i : ℕ). get_or places i 0 + 1) {x = m} {y = m + 0} (omega arith) ∙ omega arith in
            rest_gained j j (j + 1) m (rows_at places values starts 1 m) acc₀ h
            (rows_at_lem 0 m j (j + 1) (omega arith) (here m h) last b) (omega arith) r

        module _ (m : ℕ) (h : m + 3 < length places) (b : get_or places (m + 3) 0 + 1 < w) where
          -- the place i past the first, and its value
          abbrev pub place : ℕ → ℕ
          place i = get_or places (m + i) 0

          abbrev pub value : ℕ → Float
          value i = get_or values (m + i) nan

          abbrev pub rows : ℕ → List Row
          rows n = rows_at places values starts n m

          first : get_or places m 0 ≡ place 0
          first = ap (λ (i : ℕ). get_or places i 0) {x = m} {y = m + 0} (omega arith)

          -- the places up to the fourth rise
          up : (i : ℕ) → i < 3 → place i < place (suc i)
          up i l =
              let t = rising 1 (m + i) (get_or places (m + i) 0) (here (m + i) (omega arith)) (omega arith) in
              omega (arith, t, ap (λ (k : ℕ). get_or places k 0) {x = m + i + 1} {y = m + suc i} (omega arith))

          pub below_last : (i : ℕ) → i ≤ 3 → place i ≤ place 3
          below_last i l =
              omega (
                arith,
                rising (3 - i) (m + i) (place i) (here (m + i) (omega arith)) (omega arith),
                ap (λ (k : ℕ). get_or places k 0) {x = m + i + (3 - i)} {y = m + 3} (omega arith),
              )

          -- what the four rows' starts are read of lies within them
          pub in_four : (p : ℕ) → m ≤ p → p < m + 4
              → (get_or places p 0 < length starts) × (get_or places p 0 ≤ get_or starts (get_or places p 0) 0)
          in_four p l u =
              in_starts p (omega arith)
              (omega (
                arith,
                below_last (p - m) (omega arith),
                ap (λ (k : ℕ). get_or places k 0) {x = p} {y = m + (p - m)} (omega arith),
              ))

          rows_are : (i : ℕ) → i < 4 → place i < place 3 + 1 → Rows (get_or places m 0) (suc (place i)) (rows (suc i))
          rows_are i l k =
              rows_at_lem i m (get_or places m 0) (suc (place i)) (omega arith) (here m (omega arith))
              refl (omega arith)

          -- column i of the corner
          corner : (i : ℕ) (acc : List Float) → i < 3 → place i < place 3 + 1
              → Reached (get_or places m 0) (get_or places m 0) (place 3 + 1) (m + i) (place i) acc
              → Reached (get_or places m 0) (get_or places m 0) (place 3 + 1) (m + suc i) (place (suc i))
              (column_added (rows (suc i)) (place i) (value i) acc)
          corner i acc l k r =
              let F : ℕ = get_or places m 0 in
              let more = column_added (rows (suc i)) (place i) (value i) acc in
              let one : Reached F F (place 3 + 1) (suc (m + i)) (suc (place i)) more =
              turn F F (place 3 + 1) (suc (place i)) (m + i) (place i) (rows (suc i)) acc (omega arith)
              (rows_are i (omega arith) k) (omega arith) (omega arith) (λ j n o. omega arith) r in
              reach F F (place 3 + 1) (m + suc i) (suc (place i)) more (omega arith)
              (subst (λ (p : ℕ). Reached F F (place 3 + 1) p (suc (place i)) more) {x = suc (m + i)} {y = m + suc i}
              (omega arith) one)

          -- what the columns of the first three rows leave
          abbrev pub cornered : (rs : List Row) (j : ℕ) (x : Float) → List Float
          cornered rs j x =
              column_added (take 3 rs) (place 2) (value 2)
              (column_added (take 2 rs) (place 1) (value 1) (column_added (take 1 rs) j x acc₀))

          corners : Reached (get_or places m 0) (get_or places m 0) (place 3 + 1) (m + 3) (place 3)
              (cornered (rows 4) (place 0) (value 0))
          corners =
              let F : ℕ = get_or places m 0 in
              let a = up 0 (omega arith) in
              let c = up 1 (omega arith) in
              let d = up 2 (omega arith) in
              let r₀ : Reached F F (place 3 + 1) (m + 0) (place 0) acc₀ =
              subst (λ (p : ℕ). Reached F F (place 3 + 1) p (get_or places p 0) acc₀) {x = m} {y = m + 0} (omega arith)
              (start_block (place 3 + 1) m (omega arith) (omega (arith, first))) in
              let r₁ = corner 0 acc₀ (omega arith) (omega arith) r₀ in
              let r₂ = corner 1 _ (omega arith) (omega arith) r₁ in
              corner 2 _ (omega arith) (omega arith) r₂

          all_rows : Rows (get_or places m 0) (place 3 + 1) (rows 4)
          all_rows =
              subst (λ (L : ℕ). Rows (get_or places m 0) L (rows 4)) {x = suc (place 3)} {y = place 3 + 1} (omega arith)
              (rows_are 3 (omega arith) (omega arith))

          -- the cells of the first n rows that are written lie within the list
          pub fits_at : (n r : ℕ) → n ≤ 4 → m + n ≤ suc r → r < length places
              → All (λ (x : Row). x.base + get_or places r 0 < length acc₀) (rows n)
          fits_at n r l a o =
              rows_fit n m r a o (λ i c d. omega (
                arith,
                below_last (i - m) (omega arith),
                ap (λ (k : ℕ). get_or places k 0) {x = i} {y = m + (i - m)} (omega arith),
              ))

          -- the same of four rows as the code holds them
          module _ (four : List Row) (e : four ≡ rows 4) where
            -- the rows and the corner as they are held
            pub held_rows : Rows (get_or places m 0) (place 3 + 1) four
            held_rows = subst (Rows (get_or places m 0) (place 3 + 1)) (sym e) all_rows

            pub held_corner : Reached (get_or places m 0) (get_or places m 0) (place 3 + 1) (m + 3) (place 3)
                (cornered four (get_or places m 0) (get_or values m nan))
            held_corner =
                let by : List Float → Type 0 =
                Reached (get_or places m 0) (get_or places m 0) (place 3 + 1) (m + 3) (place 3) in
                subst (λ (rs : List Row). by (cornered rs (get_or places m 0) (get_or values m nan))) (sym e)
                (subst (λ (i : ℕ). by (cornered (rows 4) (get_or places i 0) (get_or values i nan)))
                {x = m + 0} {y = m} (omega arith) corners)

            pub four_done : Gained ext (get_or places m 0) (place 3 + 1) acc₀
                (columns_added four (drop (m + 3) places) (drop (m + 3) values)
                (cornered four (get_or places m 0) (get_or values m nan)))
            four_done =
                rest_gained (get_or places m 0) (get_or places m 0) (place 3 + 1) (m + 3) four _ h held_rows
                (omega arith) held_corner
