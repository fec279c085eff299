-- Laws of the rows that a test selects and of those that train: by rows and by columns, and the columns of rows.
use mathlib.Core.Path.{◌≡◌, refl, sym, ap, ◌∙◌}
use mathlib.Core.Bool.{Bool, true, false, cond}
use mathlib.Core.List.{List, [], ◌∷◌, map, head_d, tail}
use Prim.Native.Nat.{ℕ, zero, suc, ◌≤◌, ◌<◌}
use native.Mathlib.Nat.{le_of_suc-le-suc, not-suc-le-zero, suc_inj, suc-ne-zero}
use native.Mathlib.Omega.{arith}
use lib.IntN.{ℤ, pos}
use lib.Ieee.{Float, nan}
use lib.ListN.{length, get_or}
use Rattle.feature.specs.Feature.{Row, trains, row_trains, selected, mask, kept, rows_from}

module _ {A : Type 0} where
  -- no more are kept than there are
  pub length_kept : (marks : List Bool) (xs : List A) → length (kept marks xs) ≤ length xs
  unfolding kept
  length_kept [] xs = omega arith
  length_kept (b ∷ marks) [] = omega arith
  length_kept (true ∷ marks) (x ∷ xs) = omega (arith, length_kept marks xs)
  length_kept (false ∷ marks) (x ∷ xs) = omega (arith, length_kept marks xs)

module _ {A B : Type 0} (f : A → B) where
  -- what is kept of a column that is worked out from another
  pub map_kept : (marks : List Bool) (xs : List A) → map f (kept marks xs) ≡ kept marks (map f xs)
  unfolding kept
  map_kept [] xs = refl
  map_kept (b ∷ marks) [] = refl
  map_kept (true ∷ marks) (x ∷ xs) = ap (λ (t : List B). f x ∷ t) (map_kept marks xs)
  map_kept (false ∷ marks) (x ∷ xs) = map_kept marks xs

module _ (sel : Row → Bool) where
  -- the selected rows are those whose mark is true
  selected_kept : (rows : List Row) → selected sel rows ≡ kept (map sel rows) rows
  unfolding selected kept
  selected_kept [] = refl
  selected_kept (r ∷ rows) = ap (λ (t : List Row). cond (sel r) (r ∷ t) t) (selected_kept rows)

  -- a column of the selected rows is what is kept of the column
  pub map_selected : {A : Type 0} (f : Row → A) (rows : List Row)
      → map f (selected sel rows) ≡ kept (map sel rows) (map f rows)
  map_selected f rows = ap (map f) (selected_kept rows) ∙ map_kept f (map sel rows) rows

-- the marks, column by column
pub mask_rows : (rows : List Row)
    → mask (map (λ (r : Row). r.label) rows) (map (λ (r : Row). r.q) rows) ≡ map row_trains rows
unfolding mask
mask_rows [] = refl
mask_rows (r ∷ rows) = ap (λ (t : List Bool). row_trains r ∷ t) (mask_rows rows)

pub length_mask : (labels : List ℤ) (qs : List Float) → length qs ≡ length labels
    → length (mask labels qs) ≡ length labels
unfolding mask
length_mask [] qs e = refl
length_mask (l ∷ labels) [] e = e
length_mask (l ∷ labels) (q ∷ qs) e = ap suc (length_mask labels qs (suc_inj e))

pub mask_at : (labels : List ℤ) (qs : List Float) (i : ℕ) → i < length labels → i < length qs
    → get_or (mask labels qs) i false ≡ trains (get_or labels i (pos 0)) (get_or qs i nan)
unfolding mask
mask_at [] qs i h l = absurd (not-suc-le-zero h)
mask_at (l ∷ labels) [] i h m = absurd (not-suc-le-zero m)
mask_at (l ∷ labels) (q ∷ qs) zero h m = refl
mask_at (l ∷ labels) (q ∷ qs) (suc i) h m = mask_at labels qs i (le_of_suc-le-suc h) (le_of_suc-le-suc m)

-- ---- the columns of rows that were made from columns

-- seven columns, each as long as the first
pub record Columns (n : ℕ) (files peptides : List ℕ) (labels : List ℤ) (qs rts : List Float) (charges : List ℕ)
    (mobilities : List Float) : Type 0 where
  pub files_long : length files ≡ n
  pub peptides_long : length peptides ≡ n
  pub labels_long : length labels ≡ n
  pub qs_long : length qs ≡ n
  pub rts_long : length rts ≡ n
  pub charges_long : length charges ≡ n
  pub mobilities_long : length mobilities ≡ n

-- the fields of the rows are these columns
pub record Fields (rows : List Row) (files peptides : List ℕ) (labels : List ℤ) (qs rts : List Float)
    (charges : List ℕ) (mobilities : List Float) : Type 0 where
  pub files_are : map (λ (r : Row). r.file) rows ≡ files
  pub peptides_are : map (λ (r : Row). r.peptide) rows ≡ peptides
  pub labels_are : map (λ (r : Row). r.label) rows ≡ labels
  pub qs_are : map (λ (r : Row). r.q) rows ≡ qs
  pub rts_are : map (λ (r : Row). r.rt) rows ≡ rts
  pub charges_are : map (λ (r : Row). r.charge) rows ≡ charges
  pub mobilities_are : map (λ (r : Row). r.mobility) rows ≡ mobilities

module _ {A : Type 0} where
  none_left : (xs : List A) → length xs ≡ 0 → [] ≡ xs
  none_left [] e = refl
  none_left (x ∷ xs) e = absurd (suc-ne-zero (length xs) e)

  length_tail : (n : ℕ) (xs : List A) → length xs ≡ suc n → length (tail xs) ≡ n
  length_tail n [] e = absurd (suc-ne-zero n (sym e))
  length_tail n (x ∷ xs) e = suc_inj e

  head_and_tail : (n : ℕ) (d : A) (xs t : List A) → length xs ≡ suc n → t ≡ tail xs
      → head_d xs d ∷ t ≡ xs
  unfolding head_d
  head_and_tail n d [] t e r = absurd (suc-ne-zero n (sym e))
  head_and_tail n d (x ∷ xs) t e r = ap (λ (u : List A). x ∷ u) r

pub fields_rows_from : (n : ℕ) (fs ps : List ℕ) (ls : List ℤ) (qs ts : List Float) (cs : List ℕ) (ms : List Float)
    → Columns n fs ps ls qs ts cs ms → Fields (rows_from fs ps ls qs ts cs ms) fs ps ls qs ts cs ms
unfolding rows_from
fields_rows_from n [] ps ls qs ts cs ms k =
    let z : 0 ≡ n = k.files_long in
    record {
      files_are = refl;
      peptides_are = none_left ps (k.peptides_long ∙ sym z);
      labels_are = none_left ls (k.labels_long ∙ sym z);
      qs_are = none_left qs (k.qs_long ∙ sym z);
      rts_are = none_left ts (k.rts_long ∙ sym z);
      charges_are = none_left cs (k.charges_long ∙ sym z);
      mobilities_are = none_left ms (k.mobilities_long ∙ sym z);
    }
fields_rows_from n (f ∷ fs) ps ls qs ts cs ms k =
    let m : ℕ = length fs in
    let e : n ≡ suc m = sym k.files_long in
    let l : Columns m fs (tail ps) (tail ls) (tail qs) (tail ts) (tail cs) (tail ms) =
    record {
      files_long = refl;
      peptides_long = length_tail m ps (k.peptides_long ∙ e);
      labels_long = length_tail m ls (k.labels_long ∙ e);
      qs_long = length_tail m qs (k.qs_long ∙ e);
      rts_long = length_tail m ts (k.rts_long ∙ e);
      charges_long = length_tail m cs (k.charges_long ∙ e);
      mobilities_long = length_tail m ms (k.mobilities_long ∙ e);
    } in
    let r = fields_rows_from m fs (tail ps) (tail ls) (tail qs) (tail ts) (tail cs) (tail ms) l in
    record {
      files_are = ap (λ (t : List ℕ). f ∷ t) r.files_are;
      peptides_are = head_and_tail m 0 ps _ (k.peptides_long ∙ e) r.peptides_are;
      labels_are = head_and_tail m (pos 0) ls _ (k.labels_long ∙ e) r.labels_are;
      qs_are = head_and_tail m nan qs _ (k.qs_long ∙ e) r.qs_are;
      rts_are = head_and_tail m nan ts _ (k.rts_long ∙ e) r.rts_are;
      charges_are = head_and_tail m 0 cs _ (k.charges_long ∙ e) r.charges_are;
      mobilities_are = head_and_tail m nan ms _ (k.mobilities_long ∙ e) r.mobilities_are;
    }

-- and their marks are the columns' marks
pub mask_rows_from : (n : ℕ) (fs ps : List ℕ) (ls : List ℤ) (qs ts : List Float) (cs : List ℕ) (ms : List Float)
    → Columns n fs ps ls qs ts cs ms
    → mask ls qs ≡ map row_trains (rows_from fs ps ls qs ts cs ms)
mask_rows_from n fs ps ls qs ts cs ms k =
    let r = fields_rows_from n fs ps ls qs ts cs ms k in
    rw (r.labels_are, r.qs_are) at (mask_rows (rows_from fs ps ls qs ts cs ms))
