-- `regression::add_row` meets its contract: the stored part is lent to `add_to_rows`, and comes back.
use mathlib.Core.Path.{◌≡◌, ap, ◌∙◌}
use mathlib.Core.List.{List}
use Prim.Native.Nat.{ℕ, ◌+◌, ◌-◌}
use native.Mathlib.Omega.{arith}
use lib.Ieee.{Float}
use lib.ListN.{length, take, drop}
use Rattle.packed_rows.specs.Falling.{falling_rows}
use Rattle.regression.specs.Workspace.{workspace_cells, system_length, stored}
use Rattle.regression.proofs.Workspace.{part_is, part_length, part_back, add_stored}
use Rattle.regression.proofs.add_row.Goals as goal

-- the rows of the stored part
rows : (d split : ℕ) (ws : List Float) (w : ℕ) → length ws ≡ workspace_cells d → split ≡ system_length d → w ≡ d + 1
    → falling_rows w (w - 1) (take (length ws - split) (drop split ws)) ≡ stored d ws
rows d split ws w count is e =
    let n : w - 1 ≡ d = omega arith in
    rw (n, e, part_is d split ws count is)

pub add_to_rows-requires : goal.add_to_rows-requires
add_to_rows-requires c =
    let a = c.args in
    let ws = a.workspace.now in
    let split = c.system_length-split.result in
    let is = c.system_length-split.ensures in
    let count = c.requires.0.count in
    let e = ap length (part_is a.d split ws count is) ∙ part_length a.d split ws count is in
    let w = c.requires.1 in
    let n : length a.ext.now - 1 ≡ a.d = omega arith in
    rw (n, w) (e ∙ omega arith)

pub returns : goal.returns
returns c =
    let a = c.args in
    let ws = a.workspace.now in
    let split = c.system_length-split.result in
    let is = c.system_length-split.ensures in
    let count = c.requires.0.count in
    let e = rows a.d split ws (length a.ext.now) count is c.requires.1 in
    part_back a.d split ws count is _ _ (rw e at c.add_to_rows.ensures)
    ∙ add_stored a.d ws a.ext.now count c.requires.1
