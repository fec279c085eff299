-- The files' records from the files' longest times and the training rows, and a row's aligned time from the records.
-- Definitions only.
use Rattle.std.specs.Prelude.{ℕ, false, List, get_or, Float}
use Rattle.std.specs.Float.{nan, binary32}
use Rattle.std.specs.Float.Ieee.{add, mul, div, of_bits}
use Rattle.rt_matrix.specs.Line.{lines}
use Rattle.rt_matrix.specs.declared.Alignment.{Alignment}
use Rattle.retention_alignment.specs.Observation.{Obs, min_rts}

-- the record of each file, from file 0
unfoldable pub alignments : (files peptides : ℕ) → (max_rts : List ℕ) → (training : List Obs) → List Alignment
alignments files peptides max_rts training = lines max_rts (min_rts files peptides training)

-- a time by the three numbers of a record, each operation rounded in f32
unfoldable pub on_line : (max_rt slope intercept t : Float) → Float
on_line max_rt slope intercept t = add binary32 (mul binary32 (div binary32 t max_rt) slope) intercept

-- a time by a record
abbrev pub aligned_by : Alignment → Float → Float
aligned_by a t = on_line a.max_rt a.slope a.intercept t

-- what stands for a file that has no record: no accepted row has such a file
abbrev pub no_alignment : Alignment
no_alignment =
    record {
      max_rt = of_bits binary32 0;
      slope = of_bits binary32 0;
      intercept = of_bits binary32 0;
      used = 0;
      max_rt_exact = false;
      slope_exact = false;
      intercept_exact = false;
    }

-- a row's aligned time: by its file's record
unfoldable pub aligned : List Alignment → Obs → Float
aligned records o = aligned_by (get_or records o.file no_alignment) o.rt

-- the same by the three columns of the records that a time goes by, where each has a cell for the row's file
abbrev pub aligned_in : (max_rt slope intercept : List Float) → Obs → Float
aligned_in max_rt slope intercept o =
    on_line (get_or max_rt o.file nan) (get_or slope o.file nan) (get_or intercept o.file nan) o.rt
