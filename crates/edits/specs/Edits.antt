-- Edits of a list of rows, and whether they touch only rows that they may touch. Definitions only.
use Rattle.std.specs.Prelude.{Bool, true, ◌&&◌, List, [], ◌∷◌, ◌++◌, ℕ, suc, ltb, pos, length, get_or, take, drop}
use Rattle.std.specs.Float.{nan}
use Rattle.feature.specs.Feature.{Row}

-- a row at a place of the list gets other fields; a row is added before a place; the row at a place is removed; or it
-- is moved to before a place of the list without it
pub data Edit : Type 0 where
  rewrite_row : (place : ℕ) → (row : Row) → Edit
  add_row : (place : ℕ) → (row : Row) → Edit
  remove_row : (place : ℕ) → Edit
  move_row : (from to : ℕ) → Edit

-- stands for a row past the end, which no edit may touch
abbrev pub no_row : Row
no_row = record { file = 0; peptide = 0; label = pos 0; q = nan; rt = nan; charge = 0; mobility = nan }

abbrev pub row_at : List Row → ℕ → Row
row_at rows k = get_or rows k no_row

abbrev pub with_row : ℕ → Row → List Row → List Row
with_row k r rows = take k rows ++ r ∷ drop k rows

abbrev pub without_row : ℕ → List Row → List Row
without_row k rows = take k rows ++ drop (suc k) rows

-- the list after an edit
abbrev pub edited : Edit → List Row → List Row
edited (rewrite_row k r) rows = with_row k r (without_row k rows)
edited (add_row k r) rows = with_row k r rows
edited (remove_row k) rows = without_row k rows
edited (move_row j k) rows = with_row k (row_at rows j) (without_row j rows)

-- the row at a place is there, and may be touched
abbrev pub may_at : (may : Row → Bool) → List Row → ℕ → Bool
may_at may rows k = ltb k (length rows) && may (row_at rows k)

-- the row that an edit touches is one that may be touched, before and after
abbrev pub touches : (may : Row → Bool) → Edit → List Row → Bool
touches may (rewrite_row k r) rows = may_at may rows k && may r
touches may (add_row k r) rows = may r
touches may (remove_row k) rows = may_at may rows k
touches may (move_row j k) rows = may_at may rows j

-- a list of edits: each gets the list that the last one left
unfoldable pub edited_by : List Edit → List Row → List Row
edited_by [] rows = rows
edited_by (e ∷ es) rows = edited_by es (edited e rows)

unfoldable pub touch_only : (may : Row → Bool) → List Edit → List Row → Bool
touch_only may [] rows = true
touch_only may (e ∷ es) rows = touches may e rows && touch_only may es (edited e rows)
