-- The six classes of residues whose counts are columns of the mobility model. Definitions only.
use Rattle.std.specs.Prelude.{ℕ, List, [], ◌∷◌, map, Float, get_or}
use Rattle.float.specs.Number.{zero64, sum_from}
use Rattle.mass.specs.Mass.{column_of}
use Rattle.embedding.specs.Count.{how_many, one_of}

-- Each class is the places in the alphabet, from 0, of the letters after it.
abbrev pub branched : List ℕ
branched = 11 ∷ 8 ∷ 21 ∷ []  -- L I V

abbrev pub tiny : List ℕ
tiny = 6 ∷ 0 ∷ 18 ∷ []  -- G A S

abbrev pub polar : List ℕ
polar = 18 ∷ 19 ∷ 13 ∷ 16 ∷ []  -- S T N Q

abbrev pub bulky : List ℕ
bulky = 11 ∷ 21 ∷ 8 ∷ 5 ∷ 22 ∷ 24 ∷ []  -- L V I F W Y

abbrev pub positive : List ℕ
positive = 17 ∷ 10 ∷ 7 ∷ []  -- R K H

abbrev pub negative : List ℕ
negative = 3 ∷ 4 ∷ []  -- D E

-- the table, in the order of the columns
abbrev pub classes : List (List ℕ)
classes = branched ∷ tiny ∷ polar ∷ bulky ∷ positive ∷ negative ∷ []

-- The number of a letter that the table is read with: its column, and not its place in the alphabet. So K, whose column
-- is 8, counts as bulky.
abbrev pub class_number : ℕ → ℕ
class_number = column_of

-- for each class, how many letters are in it
unfoldable pub class_counts : List ℕ → List ℕ
unfolding how_many one_of
class_counts letters = map (λ class. how_many (λ letter. one_of class (class_number letter)) letters) classes

-- the sum of the cells at a class's numbers, where the cells are those of the numbers from 0 on
unfoldable pub class_sum : List Float → List ℕ → Float
class_sum cells class = sum_from zero64 (map (λ k. get_or cells k zero64) class)

-- the same for each class
unfoldable pub class_sums : List Float → List Float
unfolding class_sum
class_sums cells = map (class_sum cells) classes
