-- `regression::add_row_listed` meets its contract: the sample is added to the stored part, which is lent to
-- `add_listed` and comes back.
use mathlib.Core.Path.{◌≡◌, sym, ap, ◌∙◌}
use mathlib.Core.Bool.{true}
use mathlib.Core.List.{List}
use Prim.Native.Nat.{ℕ, ◌+◌, ◌-◌}
use native.Mathlib.Omega.{arith}
use lib.Ieee.{Float}
use lib.ListN.{length, take, drop}
use lib.Seq.{length-take-le}
use Rattle.matrix.proofs.Nonzero.{nonzeros_few}
use Rattle.packed_rows.specs.Falling.{falling_rows}
use Rattle.regression.specs.Sparse.{all_finite, ListedRow, pairs, add_visited, visited}
use Rattle.regression.specs.Workspace.{workspace_cells, system_length, stored}
use Rattle.regression.proofs.Dot.{finite_cells}
use Rattle.regression.proofs.Workspace.{part_is, part_length, part_back}
use Rattle.regression.proofs.add_row_listed.Goals as goal

-- one less than the width is the order
order : (d : ℕ) → d + 1 - 1 ≡ d
order d = omega arith

-- the rows of the stored part
rows : (d split : ℕ) (ws : List Float) → length ws ≡ workspace_cells d → split ≡ system_length d
    → falling_rows (d + 1) (d + 1 - 1) (take (length ws - split) (drop split ws)) ≡ stored d ws
rows d split ws count is = rw (order d, part_is d split ws count is)

-- a sample whose listed cells are finite is
finite : (w : ℕ) (target : Float) (places : List ℕ) (values ext : List Float)
    → ListedRow w target places values ext → all_finite values ≡ true → all_finite ext ≡ true
finite w target places values ext g e = sym (finite_cells ext) ∙ ap all_finite (sym g.listed.values_are) ∙ e

pub add_listed-columns-requires : goal.add_listed-columns-requires
add_listed-columns-requires c =
    let d = c.args.d in
    let ws = c.args.workspace.now in
    let split = c.system_length-split.result in
    let is = c.system_length-split.ensures in
    let count = c.requires.workspace.0.count in
    let e = ap length (part_is d split ws count is) ∙ part_length d split ws count is in
    record {
      listed_row = c.requires.listed_row;
      acc_len = rw (order d) e;
      row_starts = rw (order d) c.requires.workspace.1;
    }

pub pairs-requires : goal.pairs-requires
pairs-requires c =
    let ext = c.requires.listed_row.0 in
    let g = c.requires.listed_row.1 in
    let k = length-take-le (length ext - 1) ext (omega arith) in
    omega (
      arith,
      c.add_listed-columns.ensures.value ext g,
      k,
      g.wide,
      c.requires.workspace.0.order,
      nonzeros_few 0 (take (length ext - 1) ext),
    )

pub returns : goal.returns
unfolding add_visited visited
returns c =
    let a = c.args in
    let ws = a.workspace.now in
    let split = c.system_length-split.result in
    let is = c.system_length-split.ensures in
    let count = c.requires.workspace.0.count in
    let all = λ (ext : List Float) (g : ListedRow (a.d + 1) a.target a.places.now a.values.now ext).
    finite (a.d + 1) a.target a.places.now a.values.now ext g c.requires.values_value in
    record {
      workspace_after = λ ext g.
          part_back a.d split ws count is _ _
          (rw (rows a.d split ws count is) at (c.add_listed-columns.ensures.acc_after ext g))
          ∙ rw (all ext g);
      value = λ ext g. c.pairs.ensures ∙ rw (all ext g) (ap pairs (c.add_listed-columns.ensures.value ext g));
    }
