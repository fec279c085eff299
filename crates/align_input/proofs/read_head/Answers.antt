-- `align_input::read_head` meets its contract: line by line, by the laws of `RowLines`.
use Rattle.std.proofs.Common.{◌∙◌}
use Rattle.align_input.proofs.RowLines.{no_files, no_peptides, whole_head}
use Rattle.align_input.proofs.read_head.Goals as goal

pub returns-in_err-files : goal.returns-in_err-files
returns-in_err-files c = c.from_residual.ensures ∙ no_files c.args.input.now c.in_err-files.ensures

pub returns-in_err-peptides : goal.returns-in_err-peptides
returns-in_err-peptides c =
    c.from_residual-in_err-peptides.ensures
    ∙ no_peptides c.args.input.now c.in_ok-files.files c.in_ok-files.ensures c.in_err-peptides.ensures

pub returns : goal.returns
returns c =
    whole_head c.args.input.now c.in_ok-files.files c.in_ok-files.ensures c.in_ok-peptides.peptides c.in_ok-peptides.ensures
