-- What a run that is accepted has passed, and that its three parts accept what they are passed.
use mathlib.Core.Path.{◌≡◌, refl, sym, ap, ◌∙◌}
use mathlib.Core.Bool.{Bool, true, ◌&&◌, cond}
use mathlib.Core.List.{List, [], ◌∷◌}
use Prim.Native.Nat.{ℕ, ◌*◌, ◌≤◌, ◌<◌}
use native.Mathlib.Omega.{arith}
use lib.Dec.{leb}
use lib.ListN.{length, get_or}
use borrow.Author.Tests.{eq-eqb, le-leb, leb-true}
use Rattle.status.specs.Checks.{every, lengths_agree, all_below}
use Rattle.status.specs.Limits.{within_limits, within_row_limits, max_rows, max_peptides}
use Rattle.status.specs.Status.{accepted, too_short}
use Rattle.status.proofs.Laws.{and_true, length_at, limits}
use Rattle.status.proofs.First.{passed_at_lem}
use Rattle.feature.proofs.Training.{Columns}
use Rattle.peptide.specs.Table.{offsets_right, letters_right, table_status}
use Rattle.peptide.proofs.Laws.{status_by_lem}
use Rattle.rt_matrix.specs.Columns.{each_long}
use Rattle.retention_alignment.specs.Call.{Input as AlignInput, Room as AlignRoom, status_by as align_status}
use Rattle.embedding.specs.Design.{order_of}
use Rattle.embedding.specs.declared.Model.{Model}
use Rattle.embedding.specs.declared.Model.TheVariants.{Retention, Mobility}
use Rattle.regression.specs.Workspace.{workspace_cells}
use Rattle.model_fit.specs.Input.{Input as ModelInput, lengths_right, status_by as model_status}
use Rattle.model_fit.proofs.Status.{status_is}
use Rattle.models.specs.Call.{predict_room}
use Rattle.run.specs.Call.{Input, ModelRoom, Room, peptides, needed_cells, model_long, long_enough, checks, status_by}
use Rattle.run.specs.Parts.{align_input}

-- ---- what was passed

-- the slices are long enough, one by one
pub record Long (files peptides rows : ℕ) (room : Room) : Type 0 where
  pub cells : peptides * files ≤ room.workspace
  pub fit_cells : workspace_cells (order_of Mobility) ≤ room.workspace
  pub records : each_long files room.records ≡ true
  pub aligned : rows ≤ room.aligned
  pub retention : model_long Retention rows room.retention ≡ true
  pub mobility : model_long Mobility rows room.mobility ≡ true

long_is : (files peptides rows : ℕ) (room : Room) → long_enough files peptides rows room ≡ true
    → Long files peptides rows room
long_is f p n r e =
    let workspace : Bool = leb (needed_cells f p) r.workspace in
    let records : Bool = each_long f r.records in
    let aligned : Bool = leb n r.aligned in
    let retention : Bool = model_long Retention n r.retention in
    let mobility : Bool = model_long Mobility n r.mobility in
    let d = and_true (workspace && records && aligned && retention) mobility e in
    let c = and_true (workspace && records && aligned) retention d.0 in
    let b = and_true (workspace && records) aligned c.0 in
    let a = and_true workspace records b.0 in
    let w : needed_cells f p ≤ r.workspace = leb-true (needed_cells f p) r.workspace a.0 in
    record {
      cells = omega arith;
      fit_cells = omega arith;
      records = a.1;
      aligned = leb-true n r.aligned b.1;
      retention = c.1;
      mobility = d.1;
    }

-- the columns that a run is passed, each as long as the first
abbrev pub ColumnsIn : Input → Type 0
ColumnsIn i =
    Columns (length i.file) i.file i.peptide i.label i.q i.rt i.charge i.mobility

pub record Passed (i : Input) (room : Room) : Type 0 where
  pub columns : ColumnsIn i
  pub logs : length i.table.logs ≡ peptides i
  pub within : within_limits i.files (length i.file) (peptides i) ≡ true
  pub long : Long i.files (peptides i) (length i.file) room
  pub offsets : offsets_right (peptides i) (length i.table.letters) i.table.offsets ≡ true
  pub letters : letters_right i.table.letters ≡ true
  pub file_numbers : all_below i.files i.file ≡ true
  pub peptide_numbers : all_below (peptides i) i.peptide ≡ true

module _ (i : Input) (room : Room) (accept : status_by i room ≡ accepted) where
  check_at : (k : ℕ) → k < 7 → (get_or (checks i room) k (0, true)).1 ≡ true
  unfolding status_by every
  check_at k h = passed_at_lem (checks i room) k refl accept h

  pub passed : Passed i room
  passed =
      let n : ℕ = length i.file in
      let ls : List ℕ =
      length i.peptide
      ∷ length i.label
      ∷ length i.q
      ∷ length i.rt
      ∷ length i.charge
      ∷ length i.mobility
      ∷ [] in
      let logs : Bool = lengths_agree (peptides i) (length i.table.logs ∷ []) in
      let t = and_true (lengths_agree n ls) logs (check_at 0 (omega arith)) in
      record {
        columns =
            record {
              files_long = refl;
              peptides_long = length_at n ls 0 t.0 (omega arith);
              labels_long = length_at n ls 1 t.0 (omega arith);
              qs_long = length_at n ls 2 t.0 (omega arith);
              rts_long = length_at n ls 3 t.0 (omega arith);
              charges_long = length_at n ls 4 t.0 (omega arith);
              mobilities_long = length_at n ls 5 t.0 (omega arith);
            };
        logs = length_at (peptides i) (length i.table.logs ∷ []) 0 t.1 (omega arith);
        within = check_at 1 (omega arith);
        long = long_is i.files (peptides i) n room (check_at 2 (omega arith));
        offsets = check_at 3 (omega arith);
        letters = check_at 4 (omega arith);
        file_numbers = check_at 5 (omega arith);
        peptide_numbers = check_at 6 (omega arith);
      }

-- ---- the alignment accepts

abbrev align_room : Room → AlignRoom
align_room room = record { workspace = room.workspace; records = room.records; aligned = room.aligned }

module _ (i : Input) (room : Room) (p : Passed i room) where
  pub align_accepts : align_status (align_input i) (align_room room) ≡ accepted
  unfolding align_status every
  align_accepts =
      let k = p.columns in
      let l = p.long in
      rw (
        eq-eqb _ _ k.peptides_long,
        eq-eqb _ _ k.labels_long,
        eq-eqb _ _ k.qs_long,
        eq-eqb _ _ k.rts_long,
        p.within,
        le-leb _ _ l.cells,
        l.records,
        le-leb _ _ l.aligned,
        p.file_numbers,
        p.peptide_numbers,
      )
      refl

  -- passed by its own struct
  pub align_accepts_by : (m : AlignInput) → m ≡ align_input i → align_status m (align_room room) ≡ accepted
  align_accepts_by m e = rw e align_accepts

  -- ---- and so do the models

  limits_too : within_row_limits (length i.peptide) (peptides i) ≡ true
  limits_too =
      let l = limits i.files (length i.file) (peptides i) p.within in
      let k : length i.peptide ≡ length i.file = p.columns.peptides_long in
      rw (
        le-leb (length i.peptide) max_rows (omega (arith, l.rows_max)),
        le-leb (peptides i) max_peptides l.peptides_max,
      )
      refl

  -- a model's call with these columns and slices
  pub model_accepts : (model : Model) (m : ModelInput) (long : Bool)
      → m.peptides ≡ i.peptide → m.table.masses ≡ i.table.masses
      → m.table.letters ≡ i.table.letters → m.table.offsets ≡ i.table.offsets
      → lengths_right model m ≡ true → long ≡ true → model_status model m long ≡ accepted
  model_accepts model m long ep em el eo lengths r =
      let table : accepted ≡ table_status m.table.letters m.table.offsets (length m.table.masses) =
      status_by_lem _ _ _ true true _ (sym (rw (em, el, eo) p.offsets)) (sym (rw el p.letters)) refl in
      sym (status_is model m long true true 0 true
      (sym lengths) (sym (rw (ep, em) limits_too)) table (sym (rw (em, ep) p.peptide_numbers)))
      ∙ ap (λ (b : Bool). cond b accepted too_short) r

-- a model's slices of these lengths are long enough for its call
pub model_room_lem : (model : Model) (rows workspace : ℕ) (room : ModelRoom) → model_long model rows room ≡ true
    → workspace_cells (order_of model) ≤ workspace
    → predict_room model rows workspace room.beta room.predicted room.error ≡ true
model_room_lem model rows workspace room e h =
    let beta : Bool = leb (order_of model) room.beta in
    let t = and_true beta (leb rows room.predicted && leb rows room.error) e in
    rw (le-leb (workspace_cells (order_of model)) workspace h, t.0) t.1
