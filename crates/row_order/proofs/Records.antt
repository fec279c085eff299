-- The records of reordered rows are the same, by the definitions: the smallest times are the same but for the sign of a
-- zero, and the records don't see that sign. So two alignments that leave what the definitions give leave the same
-- records, and each row its time, which is a function of the records and the row.
use mathlib.Core.Path.{◌≡◌, refl, sym, ap, ◌∙◌, subst₂}
use mathlib.Core.List.Permᴰ
use mathlib.Core.List.{List, [], ◌∷◌, ◌++◌, map, zip, zip_with, filter_map}
use Prim.Native.Nat.{ℕ}
use lib.Ieee.{Float}
use lib.ListN.{length, drop, length-map}
use Rattle.matrix.specs.Lists.{overwritten}
use Rattle.matrix.proofs.Lists.{length_tabulate}
use Rattle.feature.specs.Feature.{Row, row_trains, selected, training}
use Rattle.rt_matrix.specs.Line.{lines}
use Rattle.rt_matrix.specs.Columns.{FileColumns, columns_of, records_of, written_over, first_of}
use Rattle.rt_matrix.specs.declared.Alignment.{Alignment}
use Rattle.rt_matrix.proofs.RecordColumns.{first_written}
use Rattle.retention_alignment.specs.Observation.{max_rts, min_rts}
use Rattle.retention_alignment.specs.Alignments.{alignments, aligned}
use Rattle.run.specs.Fitted.{obs_of, longest}
use Rattle.row_order.specs.Order.{Reordered, Batch, records_in, timed_rows, SameAlignment}
use Rattle.row_order.proofs.Reordering.{pick, one_more, picked_reordered}
use Rattle.row_order.proofs.Smallest.{smallest_alike, longest_same}
use Rattle.row_order.proofs.Lines.{lines_same}

-- ---- the records of rows

abbrev pub records_by : (files peptides : ℕ) → List Row → List Alignment
records_by files peptides rows = alignments files peptides (longest files rows) (map obs_of (training rows))

-- the training rows of a reordering are a reordering
training_are : (rows : List Row) → training rows ≡ filter_map (pick row_trains (λ (r : Row). r)) rows
unfolding selected filter_map
training_are [] = refl
training_are (r ∷ rows) = one_more row_trains (λ (r : Row). r) r rows (training rows) (sym (training_are rows))

training_reordered : {rows others : List Row} → Reordered rows others → Reordered (training rows) (training others)
training_reordered {rows} {others} r =
    rw (training_are rows, training_are others) (picked_reordered row_trains (λ (r : Row). r) r)

pub records_same : (files peptides : ℕ) {rows others : List Row} → Reordered rows others
    → records_by files peptides others ≡ records_by files peptides rows
unfolding alignments
records_same files peptides {rows} {others} r =
    let times = min_rts files peptides (map obs_of (training rows)) in
    sym
    (ap (λ (ms : List ℕ). lines ms times) (longest_same files (Permᴰ.map obs_of r))
    ∙ lines_same (longest files others) (smallest_alike files peptides (Permᴰ.map obs_of (training_reordered r))))

-- a record for each file
count : (files peptides : ℕ) (rows : List Row) → length (records_by files peptides rows) ≡ files
unfolding alignments lines max_rts
count files peptides rows = length_tabulate _ _ ∙ length_tabulate files _

-- ---- what an alignment leaves

-- a row's aligned time by records
abbrev pub time_by : List Alignment → Row → Float
time_by records r = aligned records (obs_of r)

-- the outputs hold what the definitions give for the rows, written over what they held
pub record Holds (files peptides : ℕ) (b : Batch) : Type 0 where
  pub held_records : FileColumns
  pub records : b.records ≡ written_over (columns_of (records_by files peptides b.rows)) held_records
  pub held_aligned : List Float
  pub aligned : b.aligned ≡ overwritten (map (time_by (records_by files peptides b.rows)) b.rows) held_aligned

-- records taken apart into columns and put together again
records_back : (rs : List Alignment) → records_of (columns_of rs) ≡ rs
unfolding zip zip_with
records_back [] = refl
records_back (r ∷ rs) = ap (λ (l : List Alignment). r ∷ l) (records_back rs)

-- each element beside what a function gives for it, whatever follows
zip_beside : {A B : Type 0} (f : A → B) (xs : List A) (more : List B)
    → zip xs (map f xs ++ more) ≡ map (λ x. (x, f x)) xs
unfolding zip zip_with
zip_beside f [] more = refl
zip_beside f (x ∷ xs) more = ap (λ (l : List _). (x, f x) ∷ l) (zip_beside f xs more)

-- a row beside its aligned time
abbrev timed : List Alignment → Row → Row × Float
timed records r = (r, time_by records r)

module _ (files peptides : ℕ) (b : Batch) (l : Holds files peptides b) where
  abbrev own : List Alignment
  own = records_by files peptides b.rows

  records_are : records_in files b ≡ own
  records_are =
      ap records_of
      (ap (first_of files) l.records
      ∙ first_written files l.held_records own (count files peptides b.rows))
      ∙ records_back own

  times_are : timed_rows b ≡ map (timed own) b.rows
  times_are =
      let times : List Float = map (time_by own) b.rows in
      ap (zip b.rows) l.aligned ∙ zip_beside (time_by own) b.rows (drop (length times) l.held_aligned)

pub same_alignment : (files peptides : ℕ) (a b : Batch) → Holds files peptides a → Holds files peptides b
    → Reordered a.rows b.rows → SameAlignment files a b
same_alignment files peptides a b k l r =
    let same = records_same files peptides r in
    let mine : List Alignment = records_by files peptides a.rows in
    record {
      records = records_are files peptides b l ∙ same ∙ sym (records_are files peptides a k);
      every_file = ap length (records_are files peptides a k) ∙ count files peptides a.rows;
      times =
          subst₂ Reordered
          (sym (times_are files peptides a k))
          (sym (times_are files peptides b l ∙ ap (λ (rs : List Alignment). map (timed rs) b.rows) same))
          (Permᴰ.map (timed mine) r);
      every_row = ap length (times_are files peptides a k) ∙ length-map a.rows (timed mine);
    }
