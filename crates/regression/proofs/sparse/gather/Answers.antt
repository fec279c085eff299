-- `regression::sparse::gather` meets its contract. The loop's invariant: n of the first j cells are not zero, and their
-- places are gathered.
use mathlib.Core.Path.{◌≡◌, refl, sym, ap, ◌∙◌, subst}
use mathlib.Core.Bool.{true, false, cond}
use mathlib.Core.List.{List, [], ◌∷◌, ◌++◌, append-nil}
use Prim.Native.Nat.{ℕ, ◌+◌, ◌≤◌, ◌<◌}
use native.Mathlib.Numerals.{add-one}
use native.Mathlib.Omega.{arith}
use lib.ListN.{length, get_or, set, take, length-append, length-set}
use lib.Seq.{take-suc, take_all, take-set-le, take-suc-set, length-take-le}
use lib.Ieee.{Float, nan, ne, of_bits}
use borrow.Author.Tests.{not-true, not-false}
use Rattle.float.specs.Value.{is_zero}
use Rattle.float.proofs.Zeros.{is_zero_lem}
use Rattle.matrix.specs.Nonzero.{nonzeros, nonzero_cells}
use Rattle.matrix.proofs.Nonzero.{cells_append}
use Rattle.packed_rows.proofs.Places.{nonzeros_snoc}
use borrow.Author.Rules.{rules}
use Rattle.regression.proofs.sparse.gather.Goals as goal
use Rattle.regression.proofs.sparse.gather.Goals.{then-cell, else-cell}
use Rattle.regression.proofs.sparse.gather.Invariants.{Gathered}

-- one cell more, and whether it is zero
module _ (ext : List Float) (places₀ : List ℕ) (values₀ : List Float) (places : List ℕ) (values : List Float) (n j : ℕ)
    (inv : Gathered ext places₀ values₀ places values n j) (h : j < length ext)
    (room : (length ext ≤ length places₀) × (length ext ≤ length values₀)) where
  abbrev x : Float
  x = get_or ext j nan

  abbrev found : List ℕ
  found = nonzeros 0 (take j ext)

  abbrev cells : List Float
  cells = nonzero_cells (take j ext)

  places_more : nonzeros 0 (take (j + 1) ext) ≡ found ++ cond (is_zero x) [] (j ∷ [])
  places_more =
      rw (add-one, take-suc ext j nan h)
      (nonzeros_snoc 0 (take j ext) x
      ∙ ap (λ (k : ℕ). found ++ cond (is_zero x) [] (k ∷ [])) {x = 0 + length (take j ext)} {y = j}
      (omega (arith, length-take-le j ext (omega arith))))

  cells_more : nonzero_cells (take (j + 1) ext) ≡ cells ++ cond (is_zero x) [] (x ∷ [])
  unfolding nonzero_cells
  cells_more = rw (add-one, take-suc ext j nan h) (cells_append (take j ext) (x ∷ []))

  abbrev Then : ℕ → Type 0
  Then k = Gathered ext places₀ values₀ (set places n j) (set values n x) k (j + 1)

  passed : is_zero x ≡ true → Then n
  passed z =
      let same : nonzeros 0 (take (j + 1) ext) ≡ found = places_more ∙ rw z (append-nil found) in
      let same_cells : nonzero_cells (take (j + 1) ext) ≡ cells = cells_more ∙ rw z (append-nil cells) in (
        omega arith,
        inv.1 ∙ sym (ap length same),
        record {
          places_are = take-set-le n places n j (omega arith) ∙ inv.2.places_are ∙ sym same;
          values_are = take-set-le n values n x (omega arith) ∙ inv.2.values_are ∙ sym same_cells;
        },
        (simp length-set inv.3.0, simp length-set inv.3.1),
        omega arith,
      )

  kept : is_zero x ≡ false → Then (n + 1)
  kept z =
      let more : nonzeros 0 (take (j + 1) ext) ≡ found ++ j ∷ [] = places_more ∙ rw z in
      let more_cells : nonzero_cells (take (j + 1) ext) ≡ cells ++ x ∷ [] = cells_more ∙ rw z in
      let a : take (n + 1) (set places n j) ≡ take n places ++ j ∷ [] =
      rw (add-one n) (take-suc-set places n j (omega arith)) in
      let b : take (n + 1) (set values n x) ≡ take n values ++ x ∷ [] =
      rw (add-one n) (take-suc-set values n x (omega arith)) in (
        omega arith,
        rw more (simp length-append (omega arith)),
        record {
          places_are = a ∙ ap (λ (t : List ℕ). t ++ j ∷ []) inv.2.places_are ∙ sym more;
          values_are = b ∙ ap (λ (t : List Float). t ++ x ∷ []) inv.2.values_are ∙ sym more_cells;
        },
        (simp length-set inv.3.0, simp length-set inv.3.1),
        omega arith,
      )

pub loop-j-init : goal.loop-j-init
unfolding nonzeros nonzero_cells
loop-j-init c =
    (search rules, refl, record { places_are = refl; values_are = refl }, (refl, refl), search rules)

pub loop-j-preserved : goal.loop-j-preserved
unfolding of_bits ne
loop-j-preserved c =
    let l = c.loop-j in
    let a = c.args in
    let ext = a.ext.now in
    let y : Float = get_or ext l.j nan in
    let h : l.j < length ext = omega arith in
    let at = Then ext a.places.now a.values.now l.places l.values l.n l.j l.invariant h c.requires in
    elim c.if-cell.branch [
      | then-cell w ↦
          subst at (sym w.n-is)
          (kept ext a.places.now a.values.now l.places l.values l.n l.j l.invariant h c.requires
          (sym (is_zero_lem y) ∙ not-true _ w.if-cell.true))
      | else-cell w ↦
          subst at (sym w.n-is)
          (passed ext a.places.now a.values.now l.places l.values l.n l.j l.invariant h c.requires
          (sym (is_zero_lem y) ∙ not-false _ w.if-cell.false))
    ]

pub returns : goal.returns
returns c =
    let l = c.loop-j in
    let ext = c.args.ext.now in
    let whole : take l.j ext ≡ ext = take_all l.j ext (omega arith) in record {
      value = l.invariant.1 ∙ ap (λ (t : List Float). length (nonzeros 0 t)) whole;
      nonzeros = record {
        places_are = l.invariant.2.places_are ∙ ap (nonzeros 0) whole;
        values_are = l.invariant.2.values_are ∙ ap nonzero_cells whole;
      };
    }
