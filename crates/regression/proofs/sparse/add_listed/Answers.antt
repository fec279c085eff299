-- `regression::sparse::add_listed` meets its contract. The loop's invariant: whatever the sample that is listed, the
-- rows before column c have gained it, and the places that are left are those from column c on (`Walked`).
use mathlib.Core.Path.{◌≡◌, refl, sym, ap, ◌∙◌, subst}
use mathlib.Core.Bool.{cond}
use mathlib.Core.List.{List}
use Prim.Native.Nat.{ℕ, ◌+◌, ◌-◌, ◌≤◌, ◌<◌}
use native.Mathlib.Omega.{arith}
use lib.ListN.{length, get_or}
use lib.Ieee.{Float, nan}
use Rattle.float.specs.Value.{is_zero}
use Rattle.matrix.specs.Rows.{flat}
use Rattle.packed_rows.specs.Falling.{falling_rows, falling_start, RowStarts}
use Rattle.regression.specs.Triangle.{add_triangle_by}
use Rattle.regression.specs.Sparse.{ListedRow, nonzero_columns}
use Rattle.packed_rows.specs.Added.{plus_nonzero, Addable, RunFrom, Gained}
use Rattle.packed_rows.proofs.Begun.{within_row}
use Rattle.regression.proofs.Walk.{Walked, walk_begins, block_walked, all_walked, columns_are, in_rows, few}
use Rattle.regression.proofs.Walk.{target, count_kinds}
use Rattle.regression.proofs.sparse.add_listed.Goals as goal

-- what was passed, with the number of columns
pub record Passed (w : ℕ) (last : Float) (acc₀ : List Float) (places : List ℕ) (starts : List ℕ) (k : ℕ) : Type 0 where
  pub whole : length acc₀ ≡ falling_start w (w - 1)
  pub firsts : RowStarts (w - 1) starts
  pub count : k ≡ length places - cond (is_zero last) 0 1

-- what is known of a sample that is listed
module _ {w : ℕ} {last : Float} {acc₀ : List Float} {places : List ℕ} {starts : List ℕ} {k : ℕ}
    (o : Passed w last acc₀ places starts k) (values : List Float) (ext : List Float)
    (g : ListedRow w last places values ext) where
  some : 0 < length ext
  some = omega (arith, g.wide, g.some)

  wide : w - 1 ≡ length ext - 1
  wide = omega (arith, g.wide)

  -- the rows as they are at any turn
  addable : (acc : List Float) → length acc ≡ length acc₀ → Addable ext acc places values starts
  addable acc e =
      record {
        listed = g.listed;
        whole = e ∙ o.whole ∙ ap (λ (v : ℕ). falling_start v (v - 1)) (sym g.wide);
        firsts = rw wide at o.firsts;
      }

  columns_is : k ≡ length places - cond (is_zero (target ext some)) 0 1
  columns_is =
      o.count
      ∙ ap (λ (t : Float). length places - cond (is_zero t) 0 1)
      (sym g.last ∙ ap (λ (v : ℕ). get_or ext v nan) wide)

  begins : Walked ext acc₀ places k acc₀ 0
  begins = walk_begins ext acc₀ places values starts (addable acc₀ refl) some k columns_is

  goes_on : (acc acc₁ : List Float) (m n : ℕ) → Walked ext acc₀ places k acc m → m + n < k
      → Gained ext (get_or places m 0) (get_or places (m + n) 0 + 1) acc acc₁
      → Walked ext acc₀ places k acc₁ (m + n + 1)
  goes_on = block_walked ext acc₀ places values starts (addable acc₀ refl) some k columns_is

  row : (m : ℕ) → m < k → get_or places m 0 + 1 < length ext
  row = in_rows ext acc₀ places values starts (addable acc₀ refl) some k columns_is

  ends : (acc : List Float) (m : ℕ) → Walked ext acc₀ places k acc m → k ≤ m
      → acc ≡ flat (add_triangle_by plus_nonzero (falling_rows w (w - 1) acc₀) ext)
  ends acc m v h =
      all_walked ext acc₀ places values starts (addable acc₀ refl) some k columns_is acc m v h
      ∙ ap (λ (n : ℕ). flat (add_triangle_by plus_nonzero (falling_rows n (n - 1) acc₀) ext)) g.wide

  below : k ≤ length places
  below = few ext acc₀ places values starts (addable acc₀ refl) some k columns_is

  -- the places at the end that lie side by side
  run : (h : ℕ) → RunFrom w places h → RunFrom (length ext) places h
  run h r = rw (sym g.wide) at r

  counted : k ≡ length (nonzero_columns ext)
  counted = columns_are ext acc₀ places values starts (addable acc₀ refl) some k columns_is

pub columns-k-requires : goal.columns-k-requires
columns-k-requires c =
    let g = c.requires.listed_row.1 in
    let ext = c.requires.listed_row.0 in
    let wide : length ext - 1 ≡ c.args.w - 1 = omega (arith, g.wide) in
    let target : get_or ext (length ext - 1) nan ≡ c.args.target = ap (λ (v : ℕ). get_or ext v nan) wide ∙ g.last in
    let m = rw target at (count_kinds ext (omega (arith, g.wide, g.some))) in
    omega (arith, ap length g.listed.places_are, m)

pub run_from-h-requires : goal.run_from-h-requires
run_from-h-requires c =
    let a = c.args in
    let values = a.values.now in
    let o : Passed a.w a.target a.acc.now a.places.now a.starts.now c.columns-k.result =
    record { whole = c.requires.acc_len; firsts = c.requires.row_starts; count = c.columns-k.ensures } in
    let one = c.requires.listed_row.0 in
    let listed = c.requires.listed_row.1 in
    λ p l.
    rw (sym listed.wide)
    (within_row one a.acc.now (addable o values one listed a.acc.now refl).whole a.places.now values listed.listed p l)

pub loop-m-init : goal.loop-m-init
loop-m-init c =
    let a = c.args in
    let values = a.values.now in
    let o : Passed a.w a.target a.acc.now a.places.now a.starts.now c.columns-k.result =
    record { whole = c.requires.acc_len; firsts = c.requires.row_starts; count = c.columns-k.ensures } in
    (omega arith, refl, λ ext g. begins o values ext g)

pub overflow_add-m : goal.overflow_add-m
overflow_add-m c =
    let a = c.args in
    let values = a.values.now in
    let o : Passed a.w a.target a.acc.now a.places.now a.starts.now c.columns-k.result =
    record { whole = c.requires.acc_len; firsts = c.requires.row_starts; count = c.columns-k.ensures } in
    let one = c.requires.listed_row.0 in
    let listed = c.requires.listed_row.1 in
    omega (arith, below o values one listed)

pub add_four_rows-requires : goal.add_four_rows-requires
add_four_rows-requires c =
    let a = c.args in
    let values = a.values.now in
    let o : Passed a.w a.target a.acc.now a.places.now a.starts.now c.columns-k.result =
    record { whole = c.requires.acc_len; firsts = c.requires.row_starts; count = c.columns-k.ensures } in
    let one = c.requires.listed_row.0 in
    let listed = c.requires.listed_row.1 in
    let l = c.loop-m in (
      one,
      addable o values one listed l.acc l.invariant.1,
      run o values one listed c.run_from-h.result c.run_from-h.ensures,
      omega (arith, below o values one listed),
      row o values one listed (l.m + 3) (omega arith),
    )

pub overflow_add-m-then-m-k : goal.overflow_add-m-then-m-k
overflow_add-m-then-m-k c =
    let a = c.args in
    let values = a.values.now in
    let o : Passed a.w a.target a.acc.now a.places.now a.starts.now c.columns-k.result =
    record { whole = c.requires.acc_len; firsts = c.requires.row_starts; count = c.columns-k.ensures } in
    let one = c.requires.listed_row.0 in
    let listed = c.requires.listed_row.1 in
    omega (arith, below o values one listed)

pub loop-m-preserved-then-m-k : goal.loop-m-preserved-then-m-k
loop-m-preserved-then-m-k c =
    let a = c.args in
    let values = a.values.now in
    let o : Passed a.w a.target a.acc.now a.places.now a.starts.now c.columns-k.result =
    record { whole = c.requires.acc_len; firsts = c.requires.row_starts; count = c.columns-k.ensures } in
    let l = c.loop-m in
    let after = c.add_four_rows.new.acc in (
      omega arith,
      c.add_four_rows.auto.acc ∙ l.invariant.1,
      λ ext g.
          subst (Walked ext a.acc.now a.places.now c.columns-k.result after) {x = l.m + 3 + 1} {y = l.m + 4}
          (omega arith)
          (goes_on o values ext g l.acc after l.m 3 (l.invariant.2 ext g) (omega arith)
          (c.add_four_rows.ensures ext (addable o values ext g l.acc l.invariant.1)
          (run o values ext g c.run_from-h.result c.run_from-h.ensures) (row o values ext g (l.m + 3) (omega arith)))),
    )

pub add_one_row-requires : goal.add_one_row-requires
add_one_row-requires c =
    let a = c.args in
    let values = a.values.now in
    let o : Passed a.w a.target a.acc.now a.places.now a.starts.now c.columns-k.result =
    record { whole = c.requires.acc_len; firsts = c.requires.row_starts; count = c.columns-k.ensures } in
    let one = c.requires.listed_row.0 in
    let listed = c.requires.listed_row.1 in
    let l = c.loop-m in (
      one,
      addable o values one listed l.acc l.invariant.1,
      omega (arith, below o values one listed),
      row o values one listed l.m (omega arith),
    )

pub overflow_add-m-else-m-k : goal.overflow_add-m-else-m-k
overflow_add-m-else-m-k c =
    let a = c.args in
    let values = a.values.now in
    let o : Passed a.w a.target a.acc.now a.places.now a.starts.now c.columns-k.result =
    record { whole = c.requires.acc_len; firsts = c.requires.row_starts; count = c.columns-k.ensures } in
    let one = c.requires.listed_row.0 in
    let listed = c.requires.listed_row.1 in
    omega (arith, below o values one listed)

pub loop-m-preserved : goal.loop-m-preserved
loop-m-preserved c =
    let a = c.args in
    let values = a.values.now in
    let o : Passed a.w a.target a.acc.now a.places.now a.starts.now c.columns-k.result =
    record { whole = c.requires.acc_len; firsts = c.requires.row_starts; count = c.columns-k.ensures } in
    let l = c.loop-m in
    let places = a.places.now in
    let after = c.add_one_row.new.acc in (
      omega arith,
      c.add_one_row.auto.acc ∙ l.invariant.1,
      λ ext g.
          let same = ap (λ (i : ℕ). get_or places i 0 + 1) {x = l.m} {y = l.m + 0} (omega arith) in
          subst (Walked ext a.acc.now places c.columns-k.result after) {x = l.m + 0 + 1} {y = l.m + 1} (omega arith)
          (goes_on o values ext g l.acc after l.m 0 (l.invariant.2 ext g) (omega arith)
          (subst (λ (i : ℕ). Gained ext (get_or places l.m 0) i l.acc after) same
          (c.add_one_row.ensures ext (addable o values ext g l.acc l.invariant.1)
          (row o values ext g l.m (omega arith))))),
    )

pub returns : goal.returns
returns c =
    let a = c.args in
    let values = a.values.now in
    let o : Passed a.w a.target a.acc.now a.places.now a.starts.now c.columns-k.result =
    record { whole = c.requires.acc_len; firsts = c.requires.row_starts; count = c.columns-k.ensures } in
    let l = c.loop-m in record {
      acc_after = λ ext g. ends o values ext g l.acc l.m (l.invariant.2 ext g) (omega arith);
      value = λ ext g. counted o values ext g;
    }
