-- Demand 3 for a host that has peptide numbers of its own and passes only the peptides that occur, as the adapters of
-- host/zorkamai do: its rows name a peptide by the host's number, the table holds the peptides of those numbers from
-- the smallest, and each row is passed with the place of its number. Edits of the host's rows outside the training set
-- then change the table, and move nothing. Definitions only.
use Rattle.std.specs.Prelude.{◌≡◌, Bool, true, ◌&&◌, List, [], ◌∷◌, map, ℕ, ◌<◌, ltb, length, get_or}
use Rattle.status.specs.Checks.{every}
use Rattle.feature.specs.Feature.{Row, outside, training}
use Rattle.edits.specs.Edits.{Edit, edited_by, touch_only, row_at}
use Rattle.embedding.specs.Count.{how_many, one_of}
use Rattle.run.specs.Call.{rows}
use Rattle.edit_rule.specs.Ends.{End, shown, passed_at}
use Rattle.edit_rule.specs.EditsOutside.{SameLongest, SameFitted, SameRow, ByDefinition}
use Rattle.edit_rule.specs.Peptides.{Peptide, peptide_at, renumbered}

-- the numbers rise, so each stands there once
unfoldable pub rising : List ℕ → Bool
rising [] = true
rising (k ∷ ks) = every (λ x. ltb k x) ks && rising ks

-- the place of a number: how many are smaller
abbrev pub place_in : List ℕ → ℕ → ℕ
place_in numbers p = how_many (λ x. ltb x p) numbers

-- ---- an end of a host

-- Of a host that says this of the peptide of each of its numbers.
pub record HostEnd (host : ℕ → Peptide) : Type 0 where
  -- the host's rows, each with the host's number of its peptide
  pub found : List Row
  -- the host's numbers that are passed, from the smallest
  pub numbers : List ℕ
  pub sorted : rising numbers ≡ true
  -- each row's is among them
  pub listed : every (one_of numbers) (map (λ (r : Row). r.peptide) found) ≡ true
  -- one call, or three
  pub end : End
  -- the rows that are passed: the host's, with places for numbers
  pub placed : rows (passed_at end) ≡ map (renumbered (place_in numbers)) found
  -- the table that is passed: at each place what the host says of the peptide
  pub table : (k : ℕ) → k < length numbers → peptide_at (passed_at end).table k ≡ host (get_or numbers k 0)

-- ---- what is supposed: nothing of the tables

pub record HostEdited {host : ℕ → Peptide} (a b : HostEnd host) : Type 0 where
  -- a list of edits of the host's rows
  pub edits : List Edit
  -- from those of the one end to those of the other
  pub edited : b.found ≡ edited_by edits a.found
  -- the row that an edit touches is outside the training set before and after
  pub outside : touch_only outside edits a.found ≡ true
  -- the file count and the longest times, over the host's rows, are the same
  pub longest_times : SameLongest (passed_at a.end).files a.found (passed_at b.end).files b.found

-- ---- what is claimed

pub record HostUnmoved {host : ℕ → Peptide} (a b : HostEnd host) : Type 0 where
  -- the same of the host's rows train, in the same order
  pub training_rows : training b.found ≡ training a.found
  -- the record of every file, both fits' outcomes and coefficients
  pub fitted_numbers : SameFitted (shown a.end) (shown b.end)
  -- any row at one end and any row at the other that equals it in all seven, the host's number of its peptide among
  -- them, get the same aligned time and, where the model fits, the same prediction and error
  pub untouched : (k l : ℕ) → k < length a.found → l < length b.found
      → row_at a.found k ≡ row_at b.found l → SameRow (shown a.end) (shown b.end) k l
  -- and all of it is what the definition gives
  pub first_end : ByDefinition (shown a.end)
  pub second_end : ByDefinition (shown b.end)
