-- Observed times: the longest of each file, and the smallest of each peptide in each file. Definitions only.
use Rattle.std.specs.Prelude.{ℕ, max, ◌&&◌, cond, eqb, Float}
use mathlib.Core.List.{List, [], ◌∷◌, foldl}
use Rattle.std.proofs.Math.Option.{Option, none, some}
use Rattle.float.specs.Convert.{ceiling}
use Rattle.float.specs.Value.{minimum}
use Rattle.matrix.specs.Lists.{tabulate}

-- what the alignment reads of a row: the numbers of its file and of its peptide, and its time
pub record Obs : Type 0 where
  pub file : ℕ
  pub peptide : ℕ
  pub rt : Float

-- the rows of three columns of one length
unfoldable pub observations : List ℕ → List ℕ → List Float → List Obs
observations [] ps ts = []
observations (f ∷ fs) [] ts = []
observations (f ∷ fs) (p ∷ ps) [] = []
observations (f ∷ fs) (p ∷ ps) (t ∷ ts) = record { file = f; peptide = p; rt = t } ∷ observations fs ps ts

-- document 01's longest time of the file f: the largest of its times, each rounded up to a whole number of 32 bits; 0
-- where it has no row
unfoldable pub max_rt : ℕ → List Obs → ℕ
max_rt f [] = 0
max_rt f (o ∷ os) = max (cond (eqb o.file f) (ceiling 32 o.rt) 0) (max_rt f os)

-- the longest time of each file, from file 0
unfoldable pub max_rts : ℕ → List Obs → List ℕ
max_rts files os = tabulate files (λ f. max_rt f os)

-- the times of the peptide p in the file f
unfoldable pub times : ℕ → ℕ → List Obs → List Float
times p f [] = []
times p f (o ∷ os) = cond (eqb o.peptide p && eqb o.file f) (o.rt ∷ times p f os) (times p f os)

-- the smallest so far and one time more: a NaN yields to a number, and of two equal times the earlier stays
unfoldable pub smaller : Option Float → Float → Option Float
smaller none t = some t
smaller (some s) t = some (minimum s t)

-- the smallest time of the peptide p in the file f, where it has one
unfoldable pub min_rt : ℕ → ℕ → List Obs → Option Float
min_rt p f os = foldl smaller none (times p f os)

-- for each peptide, from 0, and for each file, from 0, its smallest time there
unfoldable pub min_rts : ℕ → ℕ → List Obs → List (List (Option Float))
min_rts files peptides os = tabulate peptides (λ p. tabulate files (λ f. min_rt p f os))
