-- What a call of either model is passed, the checks of it in document 01's order, and the status. Definitions only.
use Rattle.std.specs.Prelude.{Bool, ◌&&◌, ℕ, leb, ℤ, Float, length}
use mathlib.Core.List.{List, [], ◌∷◌, head_d, tail}
use Rattle.status.specs.Checks.{lengths_agree, all_below}
use Rattle.status.specs.Limits.{within_row_limits}
use Rattle.status.specs.Status.{bad_lengths, past_limit, too_short, bad_offsets, bad_letter, bad_peptide, first_failing}
use Rattle.peptide.specs.Table.{Table, offsets_right, letters_right}
use Rattle.embedding.specs.Design.{order_of}
use Rattle.embedding.specs.declared.Model.{Model}
use Rattle.embedding.specs.declared.Model.TheVariants.{Retention, Mobility}
use Rattle.regression.specs.Workspace.{workspace_cells}
use Rattle.model_fit.specs.declared.Table.{Table as HeldTable}
use Rattle.model_fit.specs.declared.Input.{Input as HeldInput}

-- The rows' columns and the peptide table. Retention observes aligned times and has no charges; mobility observes
-- mobilities and has no logs.
pub record Input : Type 0 where
  pub peptides : List ℕ
  pub labels : List ℤ
  pub qs : List Float
  pub charges : List ℕ
  pub observed : List Float
  pub table : Table

abbrev pub table_of : (letters offsets : List ℕ) (masses logs : List Float) → Table
table_of letters offsets masses logs = record { letters = letters; offsets = offsets; masses = masses; logs = logs }

abbrev pub input_of : (peptides : List ℕ) (labels : List ℤ) (qs : List Float) (charges : List ℕ)
    (observed : List Float) (letters offsets : List ℕ) (masses logs : List Float) → Input
input_of peptides labels qs charges observed letters offsets masses logs =
    record {
      peptides = peptides;
      labels = labels;
      qs = qs;
      charges = charges;
      observed = observed;
      table = table_of letters offsets masses logs;
    }

-- ---- as the program's structs hold them: `input_at i` in a `requires`, `input_at i.entry` in an `ensures`

abbrev pub table_at : HeldTable → Table
table_at t = table_of t.letters.now t.offsets.now t.masses.now t.logs.now

abbrev pub input_at : HeldInput → Input
input_at i =
    let r = i.rows in
    record {
      peptides = r.peptide.now;
      labels = r.label.now;
      qs = r.q.now;
      charges = r.charge.now;
      observed = r.observed.now;
      table = table_at i.table;
    }

-- ---- what a prediction reads of a row

pub record Query : Type 0 where
  pub peptide : ℕ
  pub charge : ℕ

abbrev pub query_of : (peptide charge : ℕ) → Query
query_of peptide charge = record { peptide = peptide; charge = charge }

-- row by row; charge 0 where the charges end first
unfoldable pub queries : (peptides charges : List ℕ) → List Query
queries [] charges = []
queries (p ∷ peptides) charges = query_of p (head_d charges 0) ∷ queries peptides (tail charges)

-- ---- the checks

-- the columns of these lengths that belong together are as long as the peptides' column, and retention's logs as the
-- masses
unfoldable pub columns_agree : Model → (rows labels qs charges observed peptides logs : ℕ) → Bool
columns_agree Retention rows labels qs charges observed peptides logs =
    lengths_agree rows (labels ∷ qs ∷ observed ∷ []) && lengths_agree peptides (logs ∷ [])
columns_agree Mobility rows labels qs charges observed peptides logs =
    lengths_agree rows (labels ∷ qs ∷ charges ∷ observed ∷ [])

abbrev pub lengths_right : Model → Input → Bool
lengths_right model i =
    columns_agree model
    (length i.peptides) (length i.labels) (length i.qs) (length i.charges) (length i.observed)
    (length i.table.masses) (length i.table.logs)

-- the slices that a fit writes are long enough
abbrev pub fit_room : Model → (workspace beta : ℕ) → Bool
fit_room model workspace beta = leb (workspace_cells (order_of model)) workspace && leb (order_of model) beta

-- 1, 2, 3, 7, 6, 5, where room says that what the call writes is long enough
abbrev pub checks : Model → Input → (room : Bool) → List (ℕ × Bool)
checks model i room =
    let peptides = length i.table.masses in
    (bad_lengths, lengths_right model i)
    ∷ (past_limit, within_row_limits (length i.peptides) peptides)
    ∷ (too_short, room)
    ∷ (bad_offsets, offsets_right peptides (length i.table.letters) i.table.offsets)
    ∷ (bad_letter, letters_right i.table.letters)
    ∷ (bad_peptide, all_below peptides i.peptides)
    ∷ []

unfoldable pub status_by : Model → Input → (room : Bool) → ℕ
status_by model i room = first_failing (checks model i room)
