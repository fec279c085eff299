-- Document 01's P examples in its order, each with the flags of what it narrows, its table's numbers for three small
-- fits, and request 4's numbers: what the definitions give, beside what the documents say. Definitions only.
use Rattle.std.specs.Prelude.{ℕ, ◌+◌, Bool, true, false, ◌&&◌, cond, List, [], ◌∷◌, ◌++◌, map, eqb, pos, length, replicate, take, drop, Float}
use Prim.Native.String.{String}
use Rattle.std.proofs.Math.Option.{Option, none, some}
use Rattle.std.specs.Float.{Format, nan, binary32, binary64}
use Rattle.std.specs.Float.Ieee.{of_bits, to_bits}
use Rattle.text.specs.Ascii.{ascii}
use Rattle.embedding.specs.declared.Model.{Model}
use Rattle.embedding.specs.declared.Model.TheVariants.{Retention, Mobility}
use Rattle.float.specs.Convert.{is_exact}
use Rattle.float.specs.Number.{number, sum_from}
use Rattle.peptide.specs.Table.{Table}
use Rattle.embedding.specs.Count.{range}
use Rattle.embedding.specs.Design.{order_of, design, c_terminal_at}
use Rattle.elimination.specs.Ridge.{Solution, solved, unsolved}
use Rattle.status.specs.Told.{told_for}
use Rattle.gauss.specs.Solve.{solution_of, solution_told, status_by, needed, outputs}
use Rattle.matrix.specs.Rows.{flat}
use Rattle.regression.specs.Regression.{Sample, fit_of, told_by}
use Rattle.regression.specs.Triangle.{triangle, unfolded}
use Rattle.regression.specs.Workspace.{workspace_cells}
use Rattle.regression.specs.declared.Fit.{Fit}
use Rattle.rt_matrix.specs.Columns.{columns_of}
use Rattle.retention_alignment.specs.Observation.{max_rts}
use Rattle.retention_alignment.specs.Call.{Input, Slices, rows, records_for, status, slices_after}
use Rattle.model_fit.specs.Input.{query_of}
use Rattle.models.specs.Prediction.{inexact_in}
use Rattle.align_text.specs.AlignText.{align_text}

-- what the definitions give, and what the documents say
pub record Example : Type 0 where
  pub given : List ℕ
  pub said : List ℕ

unfoldable pub same_list : List ℕ → List ℕ → Bool
same_list [] [] = true
same_list [] (y ∷ ys) = false
same_list (x ∷ xs) [] = false
same_list (x ∷ xs) (y ∷ ys) = eqb x y && same_list xs ys

abbrev pub holds : Example → Bool
holds e = same_list e.given e.said

abbrev pub bits : Format → List Float → List ℕ
bits f xs = map (to_bits f) xs

abbrev pub floats : Format → List ℕ → List Float
floats f bs = map (of_bits f) bs

-- 1 for true and 0 for false
abbrev pub flags : List Bool → List ℕ
flags bs = map (λ b. cond b 1 0) bs

-- ---- the alignment

-- One file and so many peptides, with a row of peptide 0 for each of these times, given as the bits of an f32. Each
-- row has label 1 and q 0.
abbrev pub one_file : ℕ → List ℕ → Input
one_file peptides times =
    let n = length times in
    record {
      file = replicate n 0;
      peptide = replicate n 0;
      label = replicate n (pos 1);
      q = floats binary32 (replicate n 0);
      rt = floats binary32 times;
      files = 1;
      peptides = peptides;
    }

-- the longest times as whole numbers
abbrev pub longest : Input → List ℕ
longest i = max_rts i.files (rows i)

-- slices of the needed lengths before a call, where there is one file: no cell holds a number, and the count is none
-- that an example gives
abbrev pub unwritten : ℕ → List Float
unwritten n = replicate n nan

abbrev pub before : Input → Slices
before i =
    record {
      workspace = unwritten i.peptides;
      records =
          record {
            max_rt = unwritten 1;
            slope = unwritten 1;
            intercept = unwritten 1;
            used = 7 ∷ [];
            max_rt_exact = false ∷ [];
            slope_exact = false ∷ [];
            intercept_exact = false ∷ [];
          };
      aligned = unwritten (length i.file);
    }

-- the outputs after the call
abbrev pub after : Input → Slices
after i = slices_after i (before i)

-- the status, as bits the file's longest time, slope and intercept, how many peptides carry it, and as bits the rows'
-- aligned times
abbrev pub alignment : Input → List ℕ
alignment i =
    let r = (after i).records in
    let line = bits binary32 (r.max_rt ++ r.slope ++ r.intercept) in
    status i (before i) ∷ line ++ r.used ++ bits binary32 (after i).aligned

-- whether the file's longest time, slope and intercept lost nothing as they were narrowed
abbrev pub exact : Input → List ℕ
exact i =
    let r = columns_of (records_for i) in
    flags (r.max_rt_exact ++ r.slope_exact ++ r.intercept_exact)

-- ---- the program

-- a text of these lines, each closed by LF
abbrev pub text : List String → List ℕ
text [] = []
text (s ∷ ss) = ascii s ++ 10 ∷ text ss

-- ---- the design rows

-- k cells of a peptide's row from a column on. None of the examples looks at the log, the mass or the charge.
abbrev pub cells_at : Model → List ℕ → ℕ → ℕ → List Float
cells_at model letters at k = take k (drop at (design model letters (number 0) (number 0) 1))

-- the C-terminal counts
abbrev pub c_terminal : Model → List ℕ → List Float
c_terminal model letters = cells_at model letters (c_terminal_at model) 22

abbrev pub total : List Float → Float
total cells = sum_from (number 0) cells

-- numbers as the bits of cells
abbrev pub whole : List ℕ → List ℕ
whole ns = bits binary64 (map number ns)

-- ---- predictions

-- peptides of the letter A, with these logs, given as bits, and mass 0.0
abbrev pub with_logs : List ℕ → Table
with_logs logs =
    let n = length logs in
    record {
      letters = replicate n 65;
      offsets = range 0 (n + 1);
      masses = replicate n (number 0);
      logs = floats binary64 logs;
    }

-- a coefficient for each column of retention: 1.0 for the log, in column 67, and 0.0 for the others
abbrev pub log_alone : List Float
log_alone = map number (replicate 67 0 ++ 1 ∷ 0 ∷ [])

-- how many of the peptides' predictions narrowing changes, where the log is predicted
abbrev pub inexact_logs : List ℕ → ℕ
inexact_logs logs =
    inexact_in Retention (with_logs logs) log_alone (map (λ p. query_of p 0) (range 0 (length logs)))

-- ---- the solver

-- a status and, for a solved system, the ridge and the solution as bits
abbrev pub answer : ℕ → Solution → List ℕ
answer status (solved ridge cells) = status ∷ bits binary64 (ridge ∷ cells)
answer status unsolved = status ∷ []

-- of the system of order n with one right column, its sides given as bits
abbrev pub solution : ℕ → List ℕ → List ℕ → List ℕ
solution n left right =
    let s = solution_of n 1 (floats binary64 left) (floats binary64 right) in
    let status = status_by (length left) (length right) n 1 (needed n 1) (outputs n 1) in
    answer (told_for status (solution_told s)).status s

-- the bits of 1E-8, -1E-8, 1.0, -1.0, 5.0 and a NaN
abbrev pub tiny : ℕ
tiny = 0x3E45_798E_E230_8C3A

abbrev pub minus_tiny : ℕ
minus_tiny = 0xBE45_798E_E230_8C3A

abbrev pub one : ℕ
one = 0x3FF0_0000_0000_0000

abbrev pub minus_one : ℕ
minus_one = 0xBFF0_0000_0000_0000

abbrev pub five : ℕ
five = 0x4014_0000_0000_0000

abbrev pub two : ℕ
two = 0x4000_0000_0000_0000

abbrev pub three : ℕ
three = 0x4008_0000_0000_0000

abbrev pub ten : ℕ
ten = 0x4024_0000_0000_0000

abbrev pub eighteen : ℕ
eighteen = 0x4032_0000_0000_0000

abbrev pub a_nan : ℕ
a_nan = 0x7FF8_0000_0000_0000

-- ---- a fit

-- of order 1 to samples with these cells, given as bits, and the target 5.0: its number and, where it is solved, its
-- ridge as bits and n
abbrev pub fit_numbers : ℕ → Option Fit → List ℕ
fit_numbers status none = status ∷ []
fit_numbers status (some v) = status ∷ to_bits binary64 v.ridge ∷ v.n ∷ []

abbrev pub sample : ℕ → Sample
sample cell = record { row = of_bits binary64 cell ∷ []; y = of_bits binary64 five }

abbrev pub fit : List ℕ → List ℕ
fit cells =
    let outcome = (fit_of 1 (map sample cells)).outcome in
    fit_numbers (told_by outcome).status (told_by outcome).values

-- the design rows (1, 2) and (3, -1), with the targets 3 and 5: cov has 10, -1 and -1, 5, and the right side 18 and 1
abbrev pub sample_of : List ℕ → ℕ → Sample
sample_of row y = record { row = floats binary64 row; y = of_bits binary64 y }

abbrev pub two_samples : List Sample
two_samples = sample_of (one ∷ two ∷ []) three ∷ sample_of (three ∷ minus_one ∷ []) five ∷ []

-- ---- the list

unfoldable pub examples : List Example
examples =
    -- "time 9.2 gives longest 10": the f32 nearest to 9.2
    record { given = longest (one_file 1 (0x4113_3333 ∷ [])); said = 10 ∷ [] }
    -- 10 with its flag true; the slope is 0.0, and the intercept the f32's tenth, which no f32 is
    ∷ record { given = exact (one_file 1 (0x4113_3333 ∷ [])); said = 1 ∷ 1 ∷ 0 ∷ [] }
    -- "-3.0 gives 0"
    ∷ record { given = longest (one_file 1 (0xC040_0000 ∷ [])); said = 0 ∷ [] }
    -- "5E9 gives 4,294,967,295, in f32 4,294,967,296", of which the bits are 4F800000
    ∷ record {
      given =
          let i = one_file 1 (0x4F95_02F9 ∷ []) in
          longest i ++ bits binary32 (after i).records.max_rt;
      said = 4_294_967_295 ∷ 0x4F80_0000 ∷ [];
    }
    -- and that longest time is not exact
    ∷ record { given = take 1 (exact (one_file 1 (0x4F95_02F9 ∷ []))); said = 0 ∷ [] }
    -- narrowing says true for both zeros, both infinities, 10, the largest and the smallest f32, and false for a NaN,
    -- 4,294,967,295, half of the smallest f32, 1 + 2^-24, and the smallest f64 that becomes an infinity
    ∷ record {
      given =
          flags
          (map is_exact
          (floats binary64
          (0
          ∷ 0x8000_0000_0000_0000
          ∷ 0x7FF0_0000_0000_0000
          ∷ 0xFFF0_0000_0000_0000
          ∷ 0x4024_0000_0000_0000
          ∷ 0x47EF_FFFF_E000_0000
          ∷ 0x36A0_0000_0000_0000
          ∷ 0x7FF8_0000_0000_0000
          ∷ 0x41EF_FFFF_FFE0_0000
          ∷ 0x3690_0000_0000_0000
          ∷ 0x3FF0_0000_1000_0000
          ∷ 0x47EF_FFFF_F000_0000
          ∷ [])));
      said = replicate 7 1 ++ replicate 5 0;
    }
    -- "no rows: slope 1, intercept 0, longest 0", without peptides and with one: no peptide carries the file
    ∷ record {
      given = alignment (one_file 0 []) ++ alignment (one_file 1 []);
      said = 0 ∷ 0 ∷ 0x3F80_0000 ∷ 0 ∷ 0 ∷ 0 ∷ 0 ∷ 0x3F80_0000 ∷ 0 ∷ 0 ∷ [];
    }
    -- a slope and an intercept that are not finite give 1.0 and 0.0, and the flags are of these
    ∷ record { given = exact (one_file 1 []); said = 1 ∷ 1 ∷ 1 ∷ [] }
    -- how many carry it: one whose two rows have the times 10.0 and 5.0, and none where the peptide is dropped, since
    -- -3.0 over the longest time 0 is no normal number
    ∷ record { given = (after (one_file 1 (0x4120_0000 ∷ 0x40A0_0000 ∷ []))).records.used; said = 1 ∷ [] }
    ∷ record { given = (after (one_file 1 (0xC040_0000 ∷ []))).records.used; said = 0 ∷ [] }
    -- "the program's row": its text, and the text that is printed
    ∷ record {
      given =
          align_text
          (text
          ("files=1"
          ∷ "peptides=1"
          ∷ "file=0"
          ∷ "peptide=0"
          ∷ "label=1"
          ∷ "q=00000000"
          ∷ "rt=41200000"
          ∷ []));
      said =
          text
          ("status=0"
          ∷ "file=0"
          ∷ "max=41200000"
          ∷ "slope=00000000"
          ∷ "intercept=3F800000"
          ∷ "used=1"
          ∷ "aligned=3F800000"
          ∷ []);
    }
    -- "ACDK: retention C-terminal holds D only": D is in column 2
    ∷ record {
      given = bits binary64 (c_terminal Retention (ascii "ACDK"));
      said = whole (0 ∷ 0 ∷ 1 ∷ replicate 19 0);
    }
    -- "mobility holds D and K, bulky 1, branched 1, tiny 1, positive 0": K is in column 8, the classes in 91, 88, 89
    -- and 92
    ∷ record {
      given =
          bits binary64
          (c_terminal Mobility (ascii "ACDK")
          ++ cells_at Mobility (ascii "ACDK") 91 1
          ++ cells_at Mobility (ascii "ACDK") 88 1
          ++ cells_at Mobility (ascii "ACDK") 89 1
          ++ cells_at Mobility (ascii "ACDK") 92 1);
      said =
          whole ((0 ∷ 0 ∷ 1 ∷ 0 ∷ 0 ∷ 0 ∷ 0 ∷ 0 ∷ 1 ∷ replicate 13 0) ++ 1 ∷ 1 ∷ 1 ∷ 0 ∷ []);
    }
    -- "ACD: retention C-terminal total 0, mobility 1"
    ∷ record {
      given =
          bits binary64
          (total (c_terminal Retention (ascii "ACD")) ∷ total (c_terminal Mobility (ascii "ACD")) ∷ []);
      said = whole (0 ∷ 1 ∷ []);
    }
    -- "BJ: count of A is 2", in both models: A is in column 0
    ∷ record {
      given = bits binary64 (cells_at Retention (ascii "BJ") 0 1 ++ cells_at Mobility (ascii "BJ") 0 1);
      said = whole (2 ∷ 2 ∷ []);
    }
    -- predictions of the logs 0.5, 0.1, a NaN, 1.1, which is clamped to 1.0, and -0.25, which is clamped to 0.0: 0.1
    -- and the NaN are counted
    ∷ record {
      given =
          inexact_logs
          (0x3FE0_0000_0000_0000
          ∷ 0x3FB9_9999_9999_999A
          ∷ a_nan
          ∷ 0x3FF1_9999_9999_999A
          ∷ 0xBFD0_0000_0000_0000
          ∷ [])
          ∷ [];
      said = 2 ∷ [];
    }
    -- "left -1E-8, right 5.0: ridge 1E-8, solution 5.0"
    ∷ record { given = solution 1 (minus_tiny ∷ []) (five ∷ []); said = 0 ∷ tiny ∷ five ∷ [] }
    -- "left diagonal (-1, 1), zeros beside: 9"
    ∷ record { given = solution 2 (minus_one ∷ 0 ∷ 0 ∷ one ∷ []) (one ∷ one ∷ []); said = 9 ∷ [] }
    -- "left NaN: 9"
    ∷ record { given = solution 1 (a_nan ∷ []) (one ∷ []); said = 9 ∷ [] }
    -- the table's numbers for a fit: "accepted", with two training rows; "no training row"; "no ridge solves it",
    -- with a row of a NaN
    ∷ record { given = fit (one ∷ one ∷ []); said = 0 ∷ tiny ∷ 2 ∷ [] }
    ∷ record { given = fit []; said = 8 ∷ [] }
    ∷ record { given = fit (a_nan ∷ []); said = 9 ∷ [] }
    -- request 4: the room of the two fits, and of two samples what is stored and what it unfolds to
    ∷ record {
      given = workspace_cells (order_of Retention) ∷ workspace_cells (order_of Mobility) ∷ [];
      said = 7314 ∷ 15250 ∷ [];
    }
    ∷ record {
      given = bits binary64 (flat (triangle 2 two_samples));
      said = ten ∷ minus_one ∷ eighteen ∷ five ∷ one ∷ [];
    }
    ∷ record {
      given = bits binary64 (flat (unfolded 2 (triangle 2 two_samples)));
      said = ten ∷ minus_one ∷ eighteen ∷ minus_one ∷ five ∷ one ∷ [];
    }
    ∷ []
