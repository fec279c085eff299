-- What the three calls that a run makes are passed, of what it was passed itself. Definitions only.
use Rattle.std.specs.Prelude.{List, [], Float}
use Rattle.retention_alignment.specs.Call.{Input as AlignInput}
use Rattle.model_fit.specs.Input.{Input as ModelInput, input_of}
use Rattle.run.specs.Call.{Input, peptides}

-- the alignment: of the peptide table only how many peptides it has
abbrev pub align_input : Input → AlignInput
align_input i =
    record {
      file = i.file;
      peptide = i.peptide;
      label = i.label;
      q = i.q;
      rt = i.rt;
      files = i.files;
      peptides = peptides i;
    }

-- retention's prediction: these aligned times, and no charges
abbrev pub retention_input : Input → (aligned : List Float) → ModelInput
retention_input i aligned =
    input_of
    i.peptide i.label i.q [] aligned
    i.table.letters i.table.offsets i.table.masses i.table.logs

-- mobility's prediction: the charges and the mobilities, and no logs
abbrev pub mobility_input : Input → ModelInput
mobility_input i =
    input_of
    i.peptide i.label i.q i.charge i.mobility
    i.table.letters i.table.offsets i.table.masses []
