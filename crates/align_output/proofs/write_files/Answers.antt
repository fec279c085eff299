-- `align_output::write_files` meets its contract. The loop's invariant: what is written, and the texts of the files
-- that are left behind it, are what was written before, and the texts of all behind it.
use Rattle.std.proofs.Common.{◌≡◌, ℕ, ◌+◌, ◌<◌, List, ◌++◌, length, drop, ◌≤◌, sym, ap, ◌∙◌, subst, arith, rules}
use Rattle.text.proofs.Writing.{left_room, left_next, left_none}
use Rattle.align_output.specs.Output.{printed_at, cells_at, file_text, files_text}
use Rattle.align_output.specs.declared.Printed.{Printed}
use Rattle.align_output.specs.declared.files.Files.{Files}
use Rattle.align_output.proofs.PrintedColumns.{none_printed, length_printed, printed_cells}
use Rattle.align_output.proofs.Lengths.{files_next, files_end}
use Rattle.align_output.proofs.write_files.Goals as goal

-- at a turn of the loop
turn : (files : Files) (i : ℕ) (t all : List ℕ) → i < length files.max_rt.now
    → t ++ files_text i (drop i (printed_at files)) ≡ all
    → t ++ (file_text i (cells_at files i) ++ files_text (i + 1) (drop (i + 1) (printed_at files))) ≡ all
turn files i t all h left =
    let ms = files.max_rt.now in
    let ss = files.slope.now in
    let is = files.intercept.now in
    let us = files.used.now in
    let ps = printed_at files in
    let e =
    files_next ps none_printed i (omega (arith, h, length_printed ms ss is us files.slopes files.intercepts files.counts))
    ∙ ap (λ (p : Printed). file_text i p ++ files_text (i + 1) (drop (i + 1) ps))
    (printed_cells ms ss is us files.slopes files.intercepts files.counts i h) in
    ap (λ (x : List ℕ). t ++ x) (sym e) ∙ left

pub write_file-requires : goal.write_file-requires
write_file-requires g c =
    let l = c.loop-i in
    let f = c.args.files in
    let e = turn f l.i l.out _ (omega (arith, c.loop-i-test.true, c.count-i-end.ensures.number)) l.invariant in
    let r = left_room l.out _ _ c.args.out.now (files_text 0 (printed_at f)) e g.row.N c.requires in
    (search rules, subst (λ (a : Printed). length l.out + length (file_text l.i a) ≤ g.row.N) (sym c.get-a.ensures) r)

pub loop-i-preserved : goal.loop-i-preserved
loop-i-preserved g c =
    let l = c.loop-i in
    let f = c.args.files in
    let e = turn f l.i l.out _ (omega (arith, c.loop-i-test.true, c.count-i-end.ensures.number)) l.invariant in
    left_next l.out _ _ c.args.out.now (files_text 0 (printed_at f)) e _ (c.write_file.ensures ∙ ap (λ (a : Printed). l.out ++ file_text l.i a) c.get-a.ensures)

pub returns : goal.returns
returns g c =
    let l = c.loop-i in
    let f = c.args.files in
    let n = length_printed f.max_rt.now f.slope.now f.intercept.now f.used.now f.slopes f.intercepts f.counts in
    left_none l.out _ c.args.out.now (files_text 0 (printed_at f))
    (files_end (printed_at f) l.i (omega (arith, c.loop-i-test.false, c.count-i-end.ensures.number, n))) l.invariant
