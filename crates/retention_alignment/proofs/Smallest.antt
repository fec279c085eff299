-- The smallest times, row by row: a cell of a matrix for each peptide and file.
use mathlib.Core.Path.{◌≡◌, refl, sym, ap, ap₂, ◌∙◌}
use mathlib.Core.Bool.{Bool, true, false, ◌&&◌, cond}
use mathlib.Core.List.{List, [], ◌∷◌, map, foldl}
use mathlib.Core.Option.{Option, none}
use Prim.Native.Nat.{ℕ, ◌*◌, ◌<◌}
use native.Mathlib.Omega.{arith}
use lib.Dec.{eqb}
use lib.ListN.{length, get_or, set, length-map, get_or-map}
use lib.Seq.{get_or-set_same, get_or-set_other, ext_get_or}
use lib.Ieee.{Float, nan}
use borrow.Author.Tests.{eqb-true, eqb-false}
use Rattle.matrix.specs.Rows.{place_of, row_at, rows_of}
use Rattle.matrix.proofs.Laws.{place_inj, length_rows_of, row_rows_of, length_row_at, get_d_row_at}
use Rattle.matrix.specs.Lists.{tabulate}
use Rattle.rt_matrix.specs.Cells.{decode}
use Rattle.matrix.proofs.Lists.{length_tabulate, get_d_tabulate}
use Rattle.retention_alignment.specs.Observation.{Obs, times, smaller, min_rt, min_rts}

-- what a cell holds, carried on over rows
abbrev pub carried : List Float → ℕ → List Obs → ℕ → ℕ → Option Float
carried cells files os p f = foldl smaller (decode (get_or cells (place_of files p f) nan)) (times p f os)

-- cells that hold nothing, carried on over all rows
pub min_start : (cells : List Float) (files p f : ℕ) (os : List Obs)
    → decode (get_or cells (place_of files p f) nan) ≡ none → carried cells files os p f ≡ min_rt p f os
unfolding min_rt
min_start cells files p f os e = ap (λ (c : Option Float). foldl smaller c (times p f os)) e

-- a training row more: its cell is made anew, and what is left gives what the whole gives
module _ (cells : List Float) (files peptides : ℕ) (o : Obs) (os : List Obs) (v : Float) (h : o.file < files) (b : place_of files o.peptide o.file < length cells)
    (e : decode v ≡ smaller (decode (get_or cells (place_of files o.peptide o.file) nan)) o.rt) where
  same : (p f : ℕ) → o.peptide ≡ p → o.file ≡ f
      → foldl smaller (decode (get_or (set cells (place_of files o.peptide o.file) v) (place_of files p f) nan))
      (times p f os) ≡ foldl smaller (decode (get_or cells (place_of files p f) nan)) (o.rt ∷ times p f os)
  same p f x y =
      let at : place_of files o.peptide o.file ≡ place_of files p f = ap₂ (place_of files) x y in
      ap (λ (c : Option Float). foldl smaller c (times p f os))
      (ap (λ (k : ℕ). decode (get_or (set cells (place_of files o.peptide o.file) v) k nan)) (sym at)
      ∙ ap decode (get_or-set_same cells (place_of files o.peptide o.file) v nan b)
      ∙ e
      ∙ ap (λ (k : ℕ). smaller (decode (get_or cells k nan)) o.rt) at)

  other : (p f : ℕ) → f < files → ((o.peptide ≡ p) × (o.file ≡ f) → ⊥)
      → foldl smaller (decode (get_or (set cells (place_of files o.peptide o.file) v) (place_of files p f) nan))
      (times p f os) ≡ foldl smaller (decode (get_or cells (place_of files p f) nan)) (times p f os)
  other p f l n =
      ap (λ (t : Float). foldl smaller (decode t) (times p f os))
      (get_or-set_other cells (place_of files o.peptide o.file) (place_of files p f) v nan (λ k. n (place_inj files o.peptide o.file p f h l (sym k))))

  pub min_step : (p f : ℕ) → f < files
      → carried (set cells (place_of files o.peptide o.file) v) files os p f
      ≡ carried cells files (o ∷ os) p f
  unfolding times
  min_step p f l =
      go (eqb o.peptide p) (eqb o.file f) (eqb-true o.peptide p) (eqb-false o.peptide p)
      (eqb-true o.file f) (eqb-false o.file f)
    where
      go : (x y : Bool) → (x ≡ true → o.peptide ≡ p) → (x ≡ false → o.peptide ≡ p → ⊥)
          → (y ≡ true → o.file ≡ f) → (y ≡ false → o.file ≡ f → ⊥)
          → foldl smaller (decode (get_or (set cells (place_of files o.peptide o.file) v) (place_of files p f) nan)) (times p f os)
          ≡ foldl smaller (decode (get_or cells (place_of files p f) nan))
          (cond (x && y) (o.rt ∷ times p f os) (times p f os))
      go true true xt xf yt yf = same p f (xt refl) (yt refl)
      go true false xt xf yt yf = other p f l (λ w. yf refl w.1)
      go false y xt xf yt yf = other p f l (λ w. xf refl w.0)

-- cells that hold m are the table of m
pub cells_table : (files peptides : ℕ) (cells : List Float) (m : ℕ → ℕ → Option Float)
    → length cells ≡ peptides * files
    → ((p f : ℕ) → p < peptides → f < files → decode (get_or cells (place_of files p f) nan) ≡ m p f)
    → map (map decode) (rows_of files peptides cells) ≡ tabulate peptides (λ p. tabulate files (m p))
cells_table files peptides cells m e h =
    ext_get_or [] (map (map decode) (rows_of files peptides cells)) (tabulate peptides (λ p. tabulate files (m p)))
    (long ∙ sym (length_tabulate peptides (λ p. tabulate files (m p))))
    (λ p l. let k : p < peptides = omega (arith, long) in
    get_or-map (map decode) (rows_of files peptides cells) p []
    ∙ ap (map decode) (row_rows_of files peptides p cells k)
    ∙ row p k
    ∙ sym (get_d_tabulate peptides (λ p. tabulate files (m p)) p [] k))
  where
    long : length (map (map decode) (rows_of files peptides cells)) ≡ peptides
    long = length-map (rows_of files peptides cells) (map decode) ∙ length_rows_of files peptides cells

    row : (p : ℕ) → p < peptides → map decode (row_at files p cells) ≡ tabulate files (m p)
    row p k =
        let n : length (map decode (row_at files p cells)) ≡ files =
        length-map (row_at files p cells) decode ∙ length_row_at files peptides p cells k (omega arith) in
        ext_get_or (decode nan) (map decode (row_at files p cells)) (tabulate files (m p))
        (n ∙ sym (length_tabulate files (m p)))
        (λ f l. let j : f < files = omega (arith, n) in get_or-map decode (row_at files p cells) f nan ∙ ap decode (get_d_row_at files p f cells nan j) ∙ h p f k j ∙ sym (get_d_tabulate files (m p) f (decode nan) j))

-- no rows are left
pub min_done : (files peptides : ℕ) (cells : List Float) (os : List Obs) → length cells ≡ peptides * files
    → ((p f : ℕ) → p < peptides → f < files → carried cells files [] p f ≡ min_rt p f os)
    → map (map decode) (rows_of files peptides cells) ≡ min_rts files peptides os
unfolding times min_rts
min_done files peptides cells os e h = cells_table files peptides cells (λ p f. min_rt p f os) e h
