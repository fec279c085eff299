-- The design rows: the 69 columns of the retention model and the 100 of the mobility model, from a peptide's letters.
-- Definitions only.
use Rattle.std.specs.Prelude.{ℕ, ◌+◌, ◌-◌, Bool, true, not, ◌&&◌, ◌||◌, List, [], ◌∷◌, ◌++◌, map, eqb, ltb, length, Float}
use Rattle.std.specs.Float.{binary64}
use Rattle.std.specs.Float.Ieee.{div}
use Rattle.float.specs.Number.{number}
use Rattle.mass.specs.Mass.{column_of}
use Rattle.embedding.specs.declared.Model.{Model}
use Rattle.embedding.specs.declared.Model.TheVariants.{Retention, Mobility}
use Rattle.embedding.specs.Count.{range, tallied, picked}
use Rattle.embedding.specs.Classes.{class_counts}

-- how many columns a row has
abbrev pub order_of : Model → ℕ
order_of Retention = 69
order_of Mobility = 100

-- how many of a row's first cells are written out where the rest are listed: retention's counts
abbrev pub head_of : Model → ℕ
head_of Retention = 22
head_of Mobility = 0

-- ---- positions, of a peptide of length n

abbrev pub everywhere : ℕ → ℕ → Bool
everywhere n i = true

-- the first two
abbrev pub n_terminal : ℕ → ℕ → Bool
n_terminal n i = ltb i 2

-- With c = n less 3, not below 0: c and c + 1 for retention, those above c for mobility. What is N-terminal is not
-- C-terminal.
abbrev pub c_terminal : Model → ℕ → ℕ → Bool
c_terminal Retention n i = not (n_terminal n i) && (eqb i (n - 3) || eqb i (n - 3 + 1))
c_terminal Mobility n i = not (n_terminal n i) && ltb (n - 3) i

-- the letters at the positions that pass the test
unfoldable pub chosen : (ℕ → ℕ → Bool) → List ℕ → List ℕ
unfolding picked
chosen sel letters = picked (sel (length letters)) 0 letters

-- for each of the 22 columns, how many letters have it
unfoldable pub column_counts : List ℕ → List ℕ
unfolding range tallied
column_counts letters = tallied (range 0 22) (map column_of letters)

-- the same of the letters at the positions that pass the test
unfoldable pub counts : (ℕ → ℕ → Bool) → List ℕ → List ℕ
unfolding column_counts chosen
counts sel letters = column_counts (chosen sel letters)

-- ---- cells

-- a cell's share of a length, and a count's: NaN for the empty peptide
abbrev pub share_of : ℕ → Float → Float
share_of n x = div binary64 x (number n)

abbrev pub share : ℕ → ℕ → Float
share n c = share_of n (number c)

-- the counts at the positions that pass, as cells
unfoldable pub block : (ℕ → ℕ → Bool) → List ℕ → List Float
unfolding counts
block sel letters = map number (counts sel letters)

-- ---- rows

-- log is the natural log of one plus the mass
unfoldable pub retention_row : List ℕ → Float → List Float
unfolding block
retention_row letters log =
    block everywhere letters
    ++ block n_terminal letters
    ++ block (c_terminal Retention) letters
    ++ number (length letters) ∷ log ∷ number 1 ∷ []

-- the last columns: 1/charge, charge, (mass/charge)/1000, length n, mass/1000, 1.0. Charge 0 gives an infinite
-- 1/charge.
unfoldable pub mobility_scalars : ℕ → Float → ℕ → List Float
mobility_scalars n mass charge =
    let z = number charge in
    div binary64 (number 1) z
    ∷ z
    ∷ div binary64 (div binary64 mass z) (number 1000)
    ∷ number n
    ∷ div binary64 mass (number 1000)
    ∷ number 1
    ∷ []

unfoldable pub mobility_row : List ℕ → Float → ℕ → List Float
unfolding block counts class_counts mobility_scalars
mobility_row letters mass charge =
    block everywhere letters
    ++ map (share (length letters)) (counts everywhere letters)
    ++ block n_terminal letters
    ++ block (c_terminal Mobility) letters
    ++ map number (class_counts letters)
    ++ mobility_scalars (length letters) mass charge

-- the row of a peptide: of its log for retention, of its mass and a charge for mobility
unfoldable pub design : Model → List ℕ → Float → Float → ℕ → List Float
unfolding retention_row mobility_row
design Retention letters log mass charge = retention_row letters log
design Mobility letters log mass charge = mobility_row letters mass charge

-- where a model's N-terminal and C-terminal counts start
abbrev pub n_terminal_at : Model → ℕ
n_terminal_at Retention = 22
n_terminal_at Mobility = 44

abbrev pub c_terminal_at : Model → ℕ
c_terminal_at Retention = 44
c_terminal_at Mobility = 66
