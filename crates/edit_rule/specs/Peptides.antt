-- Demand 3 where the peptide tables of the two ends differ. A host that passes the peptides that occur numbers them
-- anew, so a row outside the training set that is added, removed or rewritten can put a peptide into the table or take
-- one out, and the peptides behind it get other numbers. That moves nothing as long as the peptides that training rows
-- have keep their order, letters, masses and logs. Definitions only.
use Rattle.std.specs.Prelude.{◌≡◌, Bool, true, List, map, ℕ, ◌<◌, Float, length, get_or}
use Rattle.std.specs.Float.{nan}
use Rattle.feature.specs.Feature.{Row, outside, training}
use Rattle.edits.specs.Edits.{Edit, edited_by, touch_only, row_at}
use Rattle.peptide.specs.Table.{Table, sequence_of}
use Rattle.embedding.specs.Count.{one_of}
use Rattle.run.specs.Call.{Input, rows, peptides}
use Rattle.edit_rule.specs.Ends.{Shown}
use Rattle.edit_rule.specs.EditsOutside.{SameLongest, SameFitted, SameRow, ByDefinition}

-- ---- peptides and their numbers

-- what a table says of a peptide
pub record Peptide : Type 0 where
  pub letters : List ℕ
  pub mass : Float
  pub log : Float

abbrev pub peptide_at : Table → ℕ → Peptide
peptide_at t p =
    record {
      letters = sequence_of t.letters t.offsets p;
      mass = get_or t.masses p nan;
      log = get_or t.logs p nan;
    }

-- a row whose peptide has another number, every other field as it was
abbrev pub renumbered : (number : ℕ → ℕ) → Row → Row
renumbered number r =
    record {
      file = r.file;
      peptide = number r.peptide;
      label = r.label;
      q = r.q;
      rt = r.rt;
      charge = r.charge;
      mobility = r.mobility;
    }

-- whether one of the rows has the peptide p
abbrev pub has : List Row → (p : ℕ) → Bool
has rows p = one_of (map (λ (r : Row). r.peptide) rows) p

-- ---- what is supposed

-- Of the peptides that training rows have. Every other peptide may be put in, taken out, moved or altered, and the rows
-- outside the training set may be any at either end.
pub record SameTraining (a b : Input) : Type 0 where
  -- the number at b of a peptide of a; what it gives for one that no training row has does not matter
  pub number : ℕ → ℕ
  -- the training rows of b are those of a in their order, with the new numbers
  pub training_rows : training (rows b) ≡ map (renumbered number) (training (rows a))
  -- the new numbers rise as the old ones do
  pub rises : (p q : ℕ) → has (training (rows a)) p ≡ true → has (training (rows a)) q ≡ true → p < q
      → number p < number q
  -- under its new number a peptide has its letters, its mass and its log
  pub kept : (p : ℕ) → has (training (rows a)) p ≡ true
      → peptide_at b.table (number p) ≡ peptide_at a.table p
  -- the file count and the longest times are the same
  pub longest_times : SameLongest a.files (rows a) b.files (rows b)

-- Peptides put in, and a list of edits: one table is the other with peptides put in at any places, every row gets its
-- peptide's new number, and then the edits, which may use the peptides put in, touch only rows outside the training
-- set. Read from b to a, peptides are taken out.
pub record PutIn (a b : Input) : Type 0 where
  -- the new number of each peptide of a
  pub number : ℕ → ℕ
  -- none is moved past another
  pub rises : (p q : ℕ) → p < q → q < peptides a → number p < number q
  -- each stands in b's table under its new number, with its letters, its mass and its log
  pub kept : (p : ℕ) → p < peptides a → peptide_at b.table (number p) ≡ peptide_at a.table p
  -- the rows, renumbered and then edited
  pub edits : List Edit
  pub edited : rows b ≡ edited_by edits (map (renumbered number) (rows a))
  -- the row that an edit touches is outside the training set before and after
  pub outside : touch_only outside edits (map (renumbered number) (rows a)) ≡ true
  -- the file count and the longest times are the same
  pub longest_times : SameLongest a.files (rows a) b.files (rows b)

-- ---- what is claimed

-- A row r with the table t and a row s with the table u agree but for the peptide's number. Their label and q may
-- differ: no result of a row reads them.
pub record SameButNumber (t u : Table) (r s : Row) : Type 0 where
  -- their file, time, charge and mobility are equal
  pub file : s.file ≡ r.file
  pub rt : s.rt ≡ r.rt
  pub charge : s.charge ≡ r.charge
  pub mobility : s.mobility ≡ r.mobility
  -- and the tables say the same of their peptides
  pub peptide : peptide_at u s.peptide ≡ peptide_at t r.peptide

pub record PeptidesUnmoved (a b : Shown) : Type 0 where
  -- the record of every file, both fits' outcomes (ridge, r2 and n, or 8 or 9) and coefficients
  pub fitted_numbers : SameFitted a b
  -- any row at one end and any row at the other that agree but for the peptide's number get the same aligned time and,
  -- where the model fits, the same prediction and error
  pub untouched : (k l : ℕ) → k < length (rows a.input) → l < length (rows b.input)
      → SameButNumber a.input.table b.input.table (row_at (rows a.input) k) (row_at (rows b.input) l)
      → SameRow a b k l
  -- and all of it is what the definition gives
  pub first_end : ByDefinition a
  pub second_end : ByDefinition b
