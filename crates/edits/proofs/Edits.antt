-- Where no row that may be touched is selected, a list of edits that touch only such rows leaves the selected rows as
-- they were, in their order: the touched row drops out of the selection, and what is before and after it stays.
use mathlib.Core.Path.{◌≡◌, refl, sym, ap, ◌∙◌}
use mathlib.Core.Bool.{Bool, true, false, cond}
use mathlib.Core.List.{List, [], ◌∷◌, ◌++◌}
use Prim.Native.Nat.{ℕ, suc}
use lib.Dec.{ltb}
use lib.ListN.{length, take, drop, take-append-drop}
use lib.Seq.{drop-cons}
use borrow.Author.Tests.{ltb-true, not-true}
use Rattle.feature.specs.Feature.{Row, row_trains, outside, selected, training}
use Rattle.status.proofs.Laws.{and_true}
use Rattle.edits.specs.Edits.{Edit, rewrite_row, add_row, remove_row, move_row, no_row, row_at, with_row, without_row}
use Rattle.edits.specs.Edits.{edited, may_at, touches, edited_by, touch_only}

-- ---- what is selected of two lists

selected_append : (sel : Row → Bool) (xs ys : List Row)
    → selected sel (xs ++ ys) ≡ selected sel xs ++ selected sel ys
unfolding selected
selected_append sel [] ys = refl
selected_append sel (r ∷ xs) ys =
    ap (λ (t : List Row). cond (sel r) (r ∷ t) t) (selected_append sel xs ys)
    ∙ seam (sel r) (selected sel xs) (selected sel ys)
  where
    seam : (b : Bool) (s t : List Row) → cond b (r ∷ s ++ t) (s ++ t) ≡ cond b (r ∷ s) s ++ t
    seam true s t = refl
    seam false s t = refl

-- ---- what may be touched is not selected

module _ (may sel : Row → Bool) (apart : (r : Row) → may r ≡ true → sel r ≡ false) where
  skip : (r : Row) (rows : List Row) → may r ≡ true → selected sel (r ∷ rows) ≡ selected sel rows
  unfolding selected
  skip r rows h = rw (apart r h)

  -- one edit
  kept_with : (k : ℕ) (r : Row) (rows : List Row) → may r ≡ true
      → selected sel (with_row k r rows) ≡ selected sel rows
  kept_with k r rows h =
      selected_append sel (take k rows) (r ∷ drop k rows)
      ∙ ap (λ (t : List Row). selected sel (take k rows) ++ t) (skip r (drop k rows) h)
      ∙ sym (selected_append sel (take k rows) (drop k rows))
      ∙ ap (selected sel) (take-append-drop k rows)

  kept_without : (k : ℕ) (rows : List Row) → may_at may rows k ≡ true
      → selected sel (without_row k rows) ≡ selected sel rows
  kept_without k rows h =
      let t = and_true (ltb k (length rows)) (may (row_at rows k)) h in
      let d : drop k rows ≡ row_at rows k ∷ drop (suc k) rows =
      drop-cons rows k no_row (ltb-true k (length rows) t.0) in
      let rest : selected sel (drop k rows) ≡ selected sel (drop (suc k) rows) =
      ap (selected sel) d ∙ skip (row_at rows k) (drop (suc k) rows) t.1 in
      selected_append sel (take k rows) (drop (suc k) rows)
      ∙ ap (λ (u : List Row). selected sel (take k rows) ++ u) (sym rest)
      ∙ sym (selected_append sel (take k rows) (drop k rows))
      ∙ ap (selected sel) (take-append-drop k rows)

  kept_edited : (e : Edit) (rows : List Row) → touches may e rows ≡ true
      → selected sel (edited e rows) ≡ selected sel rows
  kept_edited (rewrite_row k r) rows h =
      let t = and_true (may_at may rows k) (may r) h in
      kept_with k r (without_row k rows) t.1 ∙ kept_without k rows t.0
  kept_edited (add_row k r) rows h = kept_with k r rows h
  kept_edited (remove_row k) rows h = kept_without k rows h
  kept_edited (move_row j k) rows h =
      let t = and_true (ltb j (length rows)) (may (row_at rows j)) h in
      kept_with k (row_at rows j) (without_row j rows) t.1 ∙ kept_without j rows h

  -- a list of edits
  pub kept_by : (es : List Edit) (rows : List Row) → touch_only may es rows ≡ true
      → selected sel (edited_by es rows) ≡ selected sel rows
  unfolding edited_by touch_only
  kept_by [] rows h = refl
  kept_by (e ∷ es) rows h =
      let t = and_true (touches may e rows) (touch_only may es (edited e rows)) h in
      kept_by es (edited e rows) t.1 ∙ kept_edited e rows t.0

-- edits of rows outside the training set leave the rows that train
pub training_kept : (es : List Edit) (rows : List Row) → touch_only outside es rows ≡ true
    → training (edited_by es rows) ≡ training rows
training_kept es rows h = kept_by outside row_trains (λ r. not-true (row_trains r)) es rows h
