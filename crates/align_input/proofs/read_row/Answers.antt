-- `align_input::read_row` meets its contract: line by line, by the laws of `RowLines`.
use Rattle.std.proofs.Common.{refl, ap, ◌∙◌, Some}
use lib.IntN.{ℤ}
use mir.Syntax.{w32}
use mir.Facts.{to_z-of_z}
use Rattle.text.specs.Line.{line_of}
use Rattle.align_input.specs.Input.{label_key, q_key, rt_key}
use Rattle.align_input.proofs.RowLines.{pattern_lt, label_lt, no_file, no_peptide, no_label, no_q, no_rt, whole_row}
use Rattle.align_input.proofs.read_row.Goals as goal

pub returns-in_err-file : goal.returns-in_err-file
returns-in_err-file c = c.from_residual.ensures ∙ no_file c.args.input.now c.args.at c.in_err-file.ensures

pub returns-in_err-peptide : goal.returns-in_err-peptide
returns-in_err-peptide c =
    c.from_residual-in_err-peptide.ensures
    ∙ no_peptide c.args.input.now c.args.at c.in_ok-file.file c.in_ok-file.ensures c.in_err-peptide.ensures

pub returns-in_err-label : goal.returns-in_err-label
returns-in_err-label c =
    c.from_residual-in_err-label.ensures
    ∙ no_label c.args.input.now c.args.at c.in_ok-file.file c.in_ok-file.ensures c.in_ok-peptide.peptide c.in_ok-peptide.ensures c.in_err-label.ensures

pub returns-in_err-q : goal.returns-in_err-q
returns-in_err-q c =
    c.from_residual-in_err-q.ensures
    ∙ no_q c.args.input.now c.args.at c.in_ok-file.file c.in_ok-file.ensures c.in_ok-peptide.peptide c.in_ok-peptide.ensures c.in_ok-label.label c.in_ok-label.ensures c.in_err-q.ensures

pub returns-in_err-rt : goal.returns-in_err-rt
returns-in_err-rt c =
    c.from_residual-in_err-rt.ensures
    ∙ no_rt c.args.input.now c.args.at c.in_ok-file.file c.in_ok-file.ensures c.in_ok-peptide.peptide c.in_ok-peptide.ensures c.in_ok-label.label c.in_ok-label.ensures c.in_ok-q.q c.in_ok-q.ensures c.in_err-rt.ensures

pub overflow_cast-result : goal.overflow_cast-result
unfolding line_of
overflow_cast-result c =
    record { fits = pattern_lt c.args.input.now q_key c.in_ok-label.label.next c.in_ok-q.q refl c.in_ok-q.ensures }

pub overflow_cast-result-2 : goal.overflow_cast-result-2
unfolding line_of
overflow_cast-result-2 c =
    record { fits = pattern_lt c.args.input.now rt_key c.in_ok-q.q.next c.in_ok-rt.rt refl c.in_ok-rt.ensures }

pub returns : goal.returns
unfolding line_of
returns c =
    ap
    (λ (z : ℤ). Some (record { value = record { file = c.in_ok-file.file.value; peptide = c.in_ok-peptide.peptide.value; label = z; q = c.in_ok-q.q.value; rt = c.in_ok-rt.rt.value }; next = c.in_ok-rt.rt.next }))
    (to_z-of_z {w = w32} (record { sfits = label_lt c.args.input.now label_key c.in_ok-peptide.peptide.next c.in_ok-label.label refl c.in_ok-label.ensures }))
    ∙ whole_row c.args.input.now c.args.at c.in_ok-file.file c.in_ok-file.ensures c.in_ok-peptide.peptide c.in_ok-peptide.ensures c.in_ok-label.label c.in_ok-label.ensures c.in_ok-q.q c.in_ok-q.ensures c.in_ok-rt.rt c.in_ok-rt.ensures
