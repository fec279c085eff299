-- The input of the align program, and its text: the grammar. Definitions only.
use Rattle.std.specs.Prelude.{ℕ, ◌-◌, ◌^◌, ◌≤◌, ◌<◌}
use mathlib.Core.List.{List, [], ◌∷◌, map, flatten}
use Rattle.std.specs.Int.Signed.{mag}
use Rattle.float.specs.Hex.{hex_of}
use Rattle.text.specs.Ascii.{ascii}
use Rattle.text.specs.Decimal.{decimal_of, decimal_z}
use Rattle.text.specs.Line.{line}
use Rattle.align_input.specs.declared.TextRow.{TextRow}

-- what a text says: the numbers of files and of peptides, and the rows. A row's q and rt are the patterns of two f32.
pub record Input : Type 0 where
  pub files : ℕ
  pub peptides : ℕ
  pub rows : List TextRow

-- the keys of the input's lines
abbrev pub files_key : List ℕ
files_key = ascii "files="

abbrev pub peptides_key : List ℕ
peptides_key = ascii "peptides="

abbrev pub file_key : List ℕ
file_key = ascii "file="

abbrev pub peptide_key : List ℕ
peptide_key = ascii "peptide="

abbrev pub label_key : List ℕ
label_key = ascii "label="

abbrev pub q_key : List ℕ
q_key = ascii "q="

abbrev pub rt_key : List ℕ
rt_key = ascii "rt="

-- the five lines of a row
unfoldable pub row_text : TextRow → List ℕ
unfolding flatten decimal_of decimal_z hex_of
row_text r =
    flatten
    (line file_key (decimal_of r.file)
    ∷ line peptide_key (decimal_of r.peptide)
    ∷ line label_key (decimal_z r.label)
    ∷ line q_key (hex_of 8 r.q)
    ∷ line rt_key (hex_of 8 r.rt)
    ∷ [])

-- the text of an input: a text is well formed exactly if it is the text of an input in range, and not too long
unfoldable pub render : Input → List ℕ
unfolding flatten row_text decimal_of
render d =
    flatten
    (line files_key (decimal_of d.files) ∷ line peptides_key (decimal_of d.peptides) ∷ map row_text d.rows)

-- the largest u32
abbrev pub max_u32 : ℕ
max_u32 = 2 ^ 32 - 1

-- the number of bytes that a text may have, 64 KiB
abbrev pub max_bytes : ℕ
max_bytes = 65536

-- each number is one of its type: u32, i32 and patterns of 32 bits
pub record RowInRange (r : TextRow) : Type 0 where
  pub file : r.file ≤ max_u32
  pub peptide : r.peptide ≤ max_u32
  pub label : mag r.label < 2 ^ 31
  pub q : r.q < 2 ^ 32
  pub rt : r.rt < 2 ^ 32

-- P of each element
pub data Each {A : Type 0} (P : A → Type 0) : List A → Type 0 where
  nil : Each P []
  cons : {a : A} {l : List A} → P a → Each P l → Each P (a ∷ l)

pub record InRange (d : Input) : Type 0 where
  pub files : d.files ≤ max_u32
  pub peptides : d.peptides ≤ max_u32
  pub rows : Each RowInRange d.rows
