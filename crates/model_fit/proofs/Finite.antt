-- Which samples are finite: retention's where the log of the mass and the target are.
use mathlib.Core.Path.{◌≡◌, refl, sym, ap, ◌∙◌}
use mathlib.Core.Bool.{Bool, true, false, ◌&&◌}
use mathlib.Core.List.{List, [], ◌∷◌, ◌++◌}
use Prim.Native.Nat.{ℕ, ◌^◌, ◌≤◌, ◌<◌}
use native.Mathlib.Omega.{arith}
use lib.ListN.{length}
use lib.Ieee.{Float, nan}
use Rattle.float.specs.Number.{number}
use Rattle.float.specs.Value.{is_finite}
use Rattle.status.specs.Checks.{every}
use Rattle.status.proofs.Laws.{every_all}
use Rattle.embedding.specs.Design.{everywhere, n_terminal, c_terminal, chosen, block, retention_row, design}
use Rattle.embedding.specs.Row.{row_of}
use Rattle.embedding.specs.declared.Ion.{Ion}
use Rattle.embedding.specs.declared.Model.{Model}
use Rattle.embedding.specs.declared.Model.TheVariants.{Retention}
use Rattle.embedding.proofs.Numbers.{number_finite}
use Rattle.embedding.proofs.Totals.{length_everywhere, length_n, length_c}
use Rattle.embedding.proofs.Finite.{block_finite}
use Rattle.matrix.specs.Nonzero.{Nonzeros}
use Rattle.regression.specs.Regression.{extended}
use Rattle.regression.specs.Sparse.{all_finite}
use Rattle.regression.proofs.Dot.{finite_cells}
use Rattle.model_fit.specs.Samples.{sample_from}

and_assoc : (a b c : Bool) → (a && b) && c ≡ a && (b && c)
and_assoc true b c = refl
and_assoc false b c = refl

every_append : (xs ys : List Float) → every is_finite (xs ++ ys) ≡ every is_finite xs && every is_finite ys
unfolding every
every_append [] ys = refl
every_append (x ∷ xs) ys =
    ap (λ (b : Bool). is_finite x && b) (every_append xs ys)
    ∙ sym (and_assoc (is_finite x) (every is_finite xs) (every is_finite ys))

block_passed : (sel : ℕ → ℕ → Bool) (letters : List ℕ) (rest : List Float) → length (chosen sel letters) ≤ 2 ^ 53
    → every is_finite (block sel letters ++ rest) ≡ every is_finite rest
block_passed sel letters rest few =
    every_append (block sel letters) rest
    ∙ ap (λ (b : Bool). b && every is_finite rest)
    (every_all is_finite (block sel letters) nan (block_finite sel letters few))

and_last : (a : Bool) → a && true ≡ a
and_last true = refl
and_last false = refl

retention_finite : (letters : List ℕ) (log : Float) → length letters < 2 ^ 32
    → every is_finite (retention_row letters log) ≡ is_finite log
unfolding retention_row every
retention_finite letters log h =
    let end : List Float = number (length letters) ∷ log ∷ number 1 ∷ [] in
    let last : List Float = block (c_terminal Retention) letters ++ end in
    block_passed everywhere letters (block n_terminal letters ++ last) (omega (arith, length_everywhere letters))
    ∙ block_passed n_terminal letters last (omega (arith, length_n letters))
    ∙ block_passed (c_terminal Retention) letters end (omega (arith, length_c Retention letters))
    ∙ rw (number_finite (length letters) (omega arith), number_finite 1 (omega arith)) (and_last (is_finite log))

-- a listed sample of retention's
pub sample_finite : (model : Model) → model ≡ Retention → (ion : Ion) (y : Float) (places : List ℕ) (values : List Float)
    → Nonzeros 0 (extended (sample_from (row_of model ion) y)) places values
    → is_finite ion.log && is_finite y ≡ all_finite values
unfolding design every
sample_finite model e ion y places values l =
    sym
    (ap all_finite l.values_are
    ∙ finite_cells (extended (sample_from (row_of model ion) y))
    ∙ ap (λ (m : Model). every is_finite (extended (sample_from (row_of m ion) y))) e
    ∙ every_append (retention_row ion.letters.now ion.log) (y ∷ [])
    ∙ ap (λ (b : Bool). b && (is_finite y && true)) (retention_finite ion.letters.now ion.log ion.short)
    ∙ ap (λ (b : Bool). is_finite ion.log && b) (and_last (is_finite y)))
