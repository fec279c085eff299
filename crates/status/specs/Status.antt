-- The statuses of document 01's table (the paper's refusal numbers), in the order in which they are checked.
use Rattle.std.specs.Prelude.{ℕ, Bool, cond, eqb, ⊤, List, [], ◌∷◌, Result, Ok, Err}
use Rattle.status.specs.declared.Refusal.{Refusal}
use Rattle.status.specs.declared.Refusal.TheVariants.{
  BadLengths,
  PastLimit,
  TooShort,
  BadFile,
  BadPeptide,
  BadLetter,
  BadOffsets,
  Malformed,
}

-- accepted
abbrev pub accepted : ℕ
accepted = 0

-- program text malformed; before all others
abbrev pub malformed : ℕ
malformed = 10

-- columns that belong together, or a solver's sides, differ in length
abbrev pub bad_lengths : ℕ
bad_lengths = 1

-- a limit other than peptide length is passed
abbrev pub past_limit : ℕ
past_limit = 2

-- workspace or an output too short
abbrev pub too_short : ℕ
too_short = 3

-- offsets malformed, or a peptide over 255 letters
abbrev pub bad_offsets : ℕ
bad_offsets = 7

-- a letter outside A to Z
abbrev pub bad_letter : ℕ
bad_letter = 6

-- a file number not below files
abbrev pub bad_file : ℕ
bad_file = 4

-- a peptide number not below peptides
abbrev pub bad_peptide : ℕ
bad_peptide = 5

-- no training row
abbrev pub no_training : ℕ
no_training = 8

-- no ridge solves it
abbrev pub not_solved : ℕ
not_solved = 9

-- the status of the first check that fails
abbrev pub first_failing : List (ℕ × Bool) → ℕ
first_failing [] = accepted
first_failing (check ∷ checks) = cond check.1 (first_failing checks) check.0

-- ---- a refusal and its number

abbrev pub number_of : Refusal → ℕ
number_of BadLengths = bad_lengths
number_of PastLimit = past_limit
number_of TooShort = too_short
number_of BadFile = bad_file
number_of BadPeptide = bad_peptide
number_of BadLetter = bad_letter
number_of BadOffsets = bad_offsets
number_of Malformed = malformed

-- the refusal with a number of the table
abbrev pub refusal_by : ℕ → Refusal
refusal_by n =
    cond (eqb n bad_lengths) BadLengths
    (cond (eqb n past_limit) PastLimit
    (cond (eqb n too_short) TooShort
    (cond (eqb n bad_file) BadFile
    (cond (eqb n bad_peptide) BadPeptide
    (cond (eqb n bad_letter) BadLetter
    (cond (eqb n bad_offsets) BadOffsets Malformed))))))

-- the status of what a check answers
abbrev pub status_of : Result ⊤ Refusal → ℕ
status_of (Ok _) = accepted
status_of (Err r) = number_of r

-- what checks with this status answer
abbrev pub checked : ℕ → Result ⊤ Refusal
checked status = cond (eqb status accepted) (Ok tt) (Err (refusal_by status))
