-- Times that are the same but for the sign of a zero, and matrices of them: what the laws inside the proof speak of.
-- The claims name none of this. Definitions only.
use Rattle.std.specs.Prelude.{◌≡◌, Bool, true, ◌&&◌, ◌||◌, Float}
use mathlib.Core.List.{List, Forall₂}
use Rattle.std.proofs.Math.Option.{Option, none, some}
use Rattle.std.specs.Float.Ieee.{is_nan, eq}

-- both NaN, or equal as `==` has it, for which -0.0 equals 0.0
abbrev pub alike : Float → Float → Bool
alike x y = is_nan x && is_nan y || eq x y

-- both absent, or both there and alike
abbrev pub AlikeCell : Option Float → Option Float → Type 0
AlikeCell none none = Unit
AlikeCell none (some y) = ⊥
AlikeCell (some x) none = ⊥
AlikeCell (some x) (some y) = alike x y ≡ true

-- the smallest times of a peptide, a cell for each file, and of all peptides
abbrev pub AlikeRow : List (Option Float) → List (Option Float) → Type 0
AlikeRow row other = Forall₂ AlikeCell row other

abbrev pub AlikeRows : List (List (Option Float)) → List (List (Option Float)) → Type 0
AlikeRows rows others = Forall₂ AlikeRow rows others
