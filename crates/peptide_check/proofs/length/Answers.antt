-- `peptide_check::length` is safe: a table that passes has each peptide below its number of peptides.
use Rattle.std.proofs.Common.{◌∙◌, sym}
use Rattle.status.proofs.First.{is_accepted}
use Rattle.peptide.specs.Table.{table_status}
use Rattle.peptide.proofs.Laws.{has_peptide}
use Rattle.peptide_check.proofs.length.Goals as goal

pub sequence-requires : goal.sequence-requires
sequence-requires c =
    let a = c.args in
    has_peptide a.letters.now a.offsets.now a.peptides a.p
    (is_accepted (table_status a.letters.now a.offsets.now a.peptides) tt (sym c.check_table.ensures ∙ c.in-Ok.is)) c.if-peptides-p.false
