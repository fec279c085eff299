-- Document 01's limits. Definitions only.
use Rattle.std.specs.Prelude.{ℕ, ◌*◌, Bool, ◌&&◌, leb}

-- ---- of rows and peptides

abbrev pub max_files : ℕ
max_files = 4096

abbrev pub max_rows : ℕ
max_rows = 1048576

abbrev pub max_peptides : ℕ
max_peptides = 1048576

-- peptides × files
abbrev pub max_cells : ℕ
max_cells = 16777216

-- the letters of a peptide
abbrev pub max_letters : ℕ
max_letters = 255

-- ---- of a system

-- the rows and columns of the left side
abbrev pub max_order : ℕ
max_order = 100

-- the columns of the right side
abbrev pub max_columns : ℕ
max_columns = 8

-- ---- check 2

-- of a fit, which has no files
abbrev pub within_row_limits : (rows peptides : ℕ) → Bool
within_row_limits rows peptides = leb rows max_rows && leb peptides max_peptides

-- of an alignment
abbrev pub within_limits : (files rows peptides : ℕ) → Bool
within_limits files rows peptides =
    leb 1 files && leb files max_files && within_row_limits rows peptides && leb (peptides * files) max_cells

-- of a system of order n with c right columns
abbrev pub within_system_limits : (n c : ℕ) → Bool
within_system_limits n c = leb 1 n && leb n max_order && leb 1 c && leb c max_columns
