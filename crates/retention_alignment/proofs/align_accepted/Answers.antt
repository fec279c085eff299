-- `retention_alignment::align_accepted` meets its contract: each step's result is what the definitions take next, and the
-- parts that were lent come back in front of the rest.
use mathlib.Core.Path.{◌≡◌, sym, ap, ◌∙◌}
use mathlib.Core.List.{List, ◌++◌, map}
use Prim.Native.Nat.{ℕ, ◌*◌, ◌≤◌}
use native.Mathlib.Omega.{arith}
use lib.ListN.{length, take, drop, replicate, length-append}
use lib.Seq.{take_at, length-take-le}
use lib.Ieee.{Float}
use Rattle.float.specs.Number.{zero64}
use Rattle.status.specs.Checks.{all_below}
use Rattle.status.specs.Limits.{max_files}
use Rattle.matrix.specs.Rows.{rows_of}
use Rattle.matrix.proofs.Lists.{take_replicate, length_take_replicate, length_tabulate, overwrite_front}
use Rattle.rt_matrix.specs.Line.{lines}
use Rattle.rt_matrix.specs.Cells.{decode}
use Rattle.rt_matrix.specs.Columns.{FileColumns, held_columns, columns_of, written_over}
use Rattle.rt_matrix.specs.declared.Alignment.{Alignment}
use Rattle.rt_matrix.proofs.RecordColumns.{from_less, written_from}
use Rattle.retention_alignment.specs.Observation.{max_rt, max_rts}
use Rattle.retention_alignment.specs.Alignments.{alignments, aligned, aligned_in}
use Rattle.retention_alignment.specs.Call.{SameRows, held_input, slices_at, rows, records_for, filled}
use Rattle.retention_alignment.proofs.Calls.{Passed, passed}
use Rattle.retention_alignment.proofs.Rows.{by_records}
use Rattle.retention_alignment.proofs.align_accepted.Goals as goal
use Rattle.retention_alignment.proofs.align_accepted.Goals.{Start}

-- what the checks showed
checks : (c : Start)
    → Passed (held_input c.args.observed) (slices_at c.args.workspace (held_columns c.args.columns.now) c.args.aligned)
checks c = passed _ _ c.requires

same_rows : (c : Start) → SameRows (held_input c.args.observed)
same_rows c =
    let p = checks c in record { peptide = p.peptide; label = p.label; q = p.q; rt = p.rt }

-- ---- the array of longest times

abbrev zeros : List ℕ
zeros = replicate max_files 0

part : (n : ℕ) → n ≤ max_files → length (take n zeros) ≡ n
part n h = length_take_replicate n max_files 0 h

-- the part of the array that is borrowed again
part_is : (ms : List ℕ) (n : ℕ) → length ms ≡ length (take n zeros) → n ≤ max_files
    → take n (ms ++ drop n zeros) ≡ ms
part_is ms n e h = take_at ms (drop n zeros) n (e ∙ part n h)

part_long : (ms : List ℕ) (n : ℕ) → length ms ≡ length (take n zeros) → n ≤ max_files
    → length (take n (ms ++ drop n zeros)) ≡ n
part_long ms n e h = ap length (part_is ms n e h) ∙ e ∙ part n h

part_in : (ms : List ℕ) (n : ℕ) → length ms ≡ length (take n zeros) → n ≤ max_files
    → n ≤ length (ms ++ drop n zeros)
part_in ms n e h = omega (arith, length-append ms (drop n zeros), part n h)

pub slice_bounds-max-end : goal.slice_bounds-max-end
slice_bounds-max-end c = (checks (goal.at.slice_bounds-max-end c).Start).within.files_max

pub slice_bounds-max_rt_by_file-end : goal.slice_bounds-max_rt_by_file-end
slice_bounds-max_rt_by_file-end c =
    sym (part c.args.observed.files (checks (goal.at.slice_bounds-max_rt_by_file-end c).Start).within.files_max)

pub max_rt_by_file-requires : goal.max_rt_by_file-requires
max_rt_by_file-requires c =
    let k = (goal.at.max_rt_by_file-requires c).Start in
    let p = checks k in
    let files = c.args.observed.files in
    let n = part files p.within.files_max in
    record {
      same_rows = same_rows k;
      fresh = (
        ap (λ (m : ℕ). all_below m c.args.observed.file.now) n ∙ p.file_numbers,
        take_replicate files max_files 0 p.within.files_max ∙ ap (λ (m : ℕ). replicate m 0) (sym n),
      );
    }

pub cell_count-requires : goal.cell_count-requires
cell_count-requires c =
    let l = (checks (goal.at.cell_count-requires c).Start).within in
    (omega (arith, l.peptides_max), omega (arith, l.files_max), omega (arith, l.cells_max))

pub slice_bounds-cells-end : goal.slice_bounds-cells-end
slice_bounds-cells-end c =
    omega (arith, (checks (goal.at.slice_bounds-cells-end c).Start).workspace, c.cell_count.ensures)

-- the workspace has the counted cells
cells_long : (workspace : List Float) (cells n : ℕ) → cells ≡ n → n ≤ length workspace → length (take cells workspace) ≡ n
cells_long workspace cells n e h = length-take-le cells workspace (omega arith) ∙ e

pub slice_bounds-cells-end-2 : goal.slice_bounds-cells-end-2
slice_bounds-cells-end-2 c =
    sym
    (length-take-le _ _
    (omega (arith, (checks (goal.at.slice_bounds-cells-end-2 c).Start).workspace, c.cell_count.ensures)))

pub mean_rt_by_file-requires : goal.mean_rt_by_file-requires
mean_rt_by_file-requires c =
    let k = (goal.at.mean_rt_by_file-requires c).Start in
    let p = checks k in
    let l = p.within in
    record {
      same_rows = same_rows k;
      in_range = (
        p.file_numbers,
        p.peptide_numbers,
        cells_long c.args.workspace.now _ _ c.cell_count.ensures p.workspace,
        omega (arith, l.files_max),
        omega (arith, l.cells_max),
      );
    }

pub slice_bounds-max-end-2 : goal.slice_bounds-max-end-2
slice_bounds-max-end-2 c =
    part_in c.max_rt_by_file.new.max c.args.observed.files (omega arith)
    (checks (goal.at.slice_bounds-max-end-2 c).Start).within.files_max

pub slice_bounds-fit_lines-end : goal.slice_bounds-fit_lines-end
slice_bounds-fit_lines-end c =
    sym
    (part_long c.max_rt_by_file.new.max c.args.observed.files (omega arith)
    (checks (goal.at.slice_bounds-fit_lines-end c).Start).within.files_max)

pub fit_lines-requires : goal.fit_lines-requires
fit_lines-requires c =
    let p = checks (goal.at.fit_lines-requires c).Start in
    let o = c.args.observed in
    let n = part_long c.max_rt_by_file.new.max o.files (omega arith) p.within.files_max in
    let cells : length c.mean_rt_by_file.new.cells ≡ o.peptides * o.files =
    omega (arith, cells_long c.args.workspace.now _ _ c.cell_count.ensures p.workspace) in (
      cells ∙ ap (λ (k : ℕ). o.peptides * k) (sym n),
      omega (arith, p.within.peptides_max),
      omega (arith, n, p.within.files_max),
      from_less o.files _ (held_columns c.args.columns.now) (omega (arith, n)) p.records,
    )

pub slice_bounds-align_rows-end : goal.slice_bounds-align_rows-end
slice_bounds-align_rows-end c = (checks (goal.at.slice_bounds-align_rows-end c).Start).aligned

pub slice_bounds-align_rows-end-2 : goal.slice_bounds-align_rows-end-2
slice_bounds-align_rows-end-2 c =
    sym (length-take-le _ _ (checks (goal.at.slice_bounds-align_rows-end-2 c).Start).aligned)

pub align_rows-requires : goal.align_rows-requires
align_rows-requires c =
    let k = (goal.at.align_rows-requires c).Start in
    let p = checks k in
    record {
      same_rows = same_rows k;
      lengths = (
        rw c.fit_lines.ensures.lines
            (written_from c.args.observed.files _ (held_columns c.args.columns.now) p.records),
        p.file_numbers,
        length-take-le _ _ p.aligned,
      );
    }

pub returns-clause-filled : goal.returns-clause-filled
unfolding filled alignments max_rts lines
returns-clause-filled c =
    let k = (goal.at.returns-clause-filled c).Start in
    let p = checks k in
    let o = c.args.observed in
    let i = held_input o in
    let old = held_columns c.args.columns.now in
    let cells = c.mean_rt_by_file.new.cells in
    let maxes = c.max_rt_by_file.new.max in
    let ms = max_rts o.files (rows i) in
    let maxes_are : maxes ≡ ms =
    c.max_rt_by_file.ensures ∙ ap (λ (n : ℕ). max_rts n (rows i)) (part o.files p.within.files_max) in
    let ms_long : length ms ≡ o.files = length_tabulate o.files (λ f. max_rt f (rows i)) in
    let found =
    ap (λ (l : List ℕ). lines l (map (map decode) (rows_of (length l) o.peptides cells)))
    (part_is maxes o.files (omega arith) p.within.files_max ∙ maxes_are)
    ∙ ap (λ (n : ℕ). lines ms (map (map decode) (rows_of n o.peptides cells))) ms_long
    ∙ ap (lines ms) c.mean_rt_by_file.ensures in
    let records = records_for i in
    let records_long : length records ≡ o.files = length_tabulate (length ms) _ ∙ ms_long in
    let columns_are : held_columns c.fit_lines.new.columns ≡ written_over (columns_of records) old =
    c.fit_lines.ensures.lines ∙ ap (λ (l : List Alignment). written_over (columns_of l) old) found in
    let times_are =
    c.align_rows.ensures
    ∙ ap (λ (h : FileColumns). map (aligned_in h.max_rt h.slope h.intercept) (rows i)) columns_are
    ∙ by_records records old o.files records_long o.file.now o.peptide.now o.rt.now p.file_numbers in
    let long : length cells ≡ o.peptides * o.files =
    omega (arith, cells_long c.args.workspace.now _ _ c.cell_count.ensures p.workspace) in
    let cells_are = c.fill.ensures.after (λ y e. e) ∙ ap (λ (n : ℕ). replicate n zero64) long in
    let workspace_is =
    overwrite_front (replicate (o.peptides * o.files) zero64) c.fill.new.self c.args.workspace.now
    c.cell_count.result cells_are (omega (arith, c.fill.ensures.len, long, c.cell_count.ensures)) in
    let aligned_is =
    overwrite_front (map (aligned records) (rows i)) c.align_rows.new.aligned c.args.aligned.now (length o.file.now)
    times_are (omega (arith, length-take-le (length o.file.now) c.args.aligned.now p.aligned)) in
    record {
      slices = λ k. record { workspace = workspace_is k; records = columns_are k; aligned = aligned_is k };
    }
