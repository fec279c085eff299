-- Laws of a workspace: the part that the steps work on, what it holds after each of them, and what the solver finds in
-- it.
use mathlib.Core.Path.{◌≡◌, refl, sym, ap, ◌∙◌}
use mathlib.Core.List.{List, [], ◌∷◌, ◌++◌, append-nil}
use Prim.Native.Nat.{ℕ, ◌+◌, ◌-◌, ◌≤◌}
use native.Mathlib.Nat.{le_of_eq}
use native.Mathlib.Omega.{arith}
use lib.Ieee.{Float}
use lib.ListN.{length, take, drop, replicate, length-append, length-drop, length-replicate}
use lib.ListN.{replicate-append-replicate, drop_of_length-le}
use lib.Seq.{take_all, take_at, drop_at, length-take-le}
use Rattle.std.specs.Prelude.{Some, None}
use Rattle.params.specs.Slice.{change}
use Rattle.float.specs.Number.{zero64}
use Rattle.matrix.specs.Rows.{flat}
use Rattle.matrix.proofs.Laws.{put}
use Rattle.matrix.proofs.Lists.{take_replicate}
use Rattle.elimination.specs.Ridge.{Solution, solved, unsolved, written}
use Rattle.regression.specs.Regression.{Sample, extended, normal, add_row}
use Rattle.packed_rows.specs.Falling.{falling_rows, falling_start}
use Rattle.regression.specs.Triangle.{triangle, add_triangle, unfolded, folded}
use Rattle.regression.specs.Sparse.{add_visited}
use Rattle.regression.specs.Workspace.{workspace_cells, system_length, stored, equations, with_stored, with_equations}
use Rattle.regression.specs.Workspace.{cleared, holding, FitSlices}
use Rattle.regression.specs.Solve.{SolvedBy, solution_in, ridge_of}
use Rattle.regression.proofs.Laws.{normal_snoc}
use Rattle.packed_rows.proofs.Falling.{Falling, falling_rows_lem, length_falling}
use Rattle.regression.proofs.Triangle.{length_triangle, rows_of_triangle, triangle_nil, cells_triangle}
use Rattle.regression.proofs.Triangle.{unfolded_triangle, unfolded_add, folded_normal, folded_add, rows_of_add}
use Rattle.regression.proofs.Visited.{visited_triangle}

-- ---- its two parts

-- it is full rows, and then the rows that are stored
pub two_parts : (D : ℕ) → workspace_cells D ≡ system_length D + falling_start (D + 1) D
two_parts D = omega (arith, cells_triangle D)

-- ---- the stored part, lent to a step

module _ (D split : ℕ) (cells : List Float) (count : length cells ≡ workspace_cells D)
    (is_split : split ≡ system_length D) where
  pub part_is : take (length cells - split) (drop split cells) ≡ drop (system_length D) cells
  part_is =
      let k : ℕ = system_length D in
      rw is_split (take_all (length cells - k) (drop k cells) (rw length-drop (omega arith)))

  pub part_length : length (drop (system_length D) cells) ≡ falling_start (D + 1) D
  part_length = rw length-drop (omega (arith, two_parts D))

  pub part_shape : Falling (D + 1) (stored D cells)
  part_shape = falling_rows_lem (D + 1) D (drop (system_length D) cells) (le_of_eq (sym part_length))

  -- as it comes back, with other rows in it
  pub part_back : (acc : List Float) (rows : List (List Float)) → acc ≡ flat rows
      → put split (length cells - split) acc cells ≡ with_stored D rows cells
  unfolding with_stored
  part_back acc rows e =
      let rest : drop (length cells - split) (drop split cells) ≡ [] =
      drop_of_length-le (drop split cells) {i = length cells - split} (rw length-drop (omega arith)) in
      rw (e, rest, append-nil, is_split)

-- a sample added to the stored rows is added to the equations
pub add_stored : (D : ℕ) (cells ext : List Float) → length cells ≡ workspace_cells D → length ext ≡ D + 1
    → with_stored D (add_triangle (stored D cells) ext) cells ≡ with_equations D (add_row (equations D cells) ext) cells
add_stored D cells ext count wide =
    ap (λ (rows : List (List Float)). with_stored D rows cells)
    (sym
    (folded_add D (stored D cells) (length_falling (D + 1) D _) (part_shape D (system_length D) cells count refl) ext
    wide))

-- ---- what it holds

module _ (D : ℕ) where
  -- equations that are put in take the place of earlier ones
  with_again : (rows rows₁ : List (List Float)) (cells : List Float) → system_length D ≤ length cells
      → with_equations D rows₁ (with_equations D rows cells) ≡ with_equations D rows₁ cells
  unfolding with_stored
  with_again rows rows₁ cells h =
      ap (λ (t : List Float). t ++ flat (folded D rows₁))
      (take_at (take (system_length D) cells) (flat (folded D rows)) (system_length D)
      (length-take-le (system_length D) cells h))

  -- and are found again: after `add_row`, whatever it held before, the full rows have gained the sample
  pub equations_add : (cells ext : List Float) → length cells ≡ workspace_cells D → length ext ≡ D + 1
      → equations D (with_equations D (add_row (equations D cells) ext) cells) ≡ add_row (equations D cells) ext
  unfolding with_stored
  equations_add cells ext count wide =
      let rows : List (List Float) = stored D cells in
      let k : ℕ = system_length D in
      let n : length rows ≡ D = length_falling (D + 1) D (drop k cells) in
      let shape : Falling (D + 1) rows = part_shape D k cells count refl in
      let front : length (take k cells) ≡ k = length-take-le k cells (omega (arith, two_parts D)) in
      ap (λ (t : List (List Float)). equations D (take k cells ++ flat t)) (folded_add D rows n shape ext wide)
      ∙ ap (λ (t : List Float). unfolded D (falling_rows (D + 1) D t))
      (drop_at (take k cells) (flat (add_triangle rows ext)) k front)
      ∙ ap (unfolded D) (rows_of_add D rows n shape ext wide)
      ∙ unfolded_add D rows n shape ext wide

  blank_long : system_length D ≤ length (replicate (workspace_cells D) zero64)
  blank_long = rw length-replicate (omega (arith, two_parts D))

  -- cleared, it holds the equations of no sample
  pub cleared_holds : (cells : List Float) → length cells ≡ workspace_cells D
      → cleared cells ≡ holding D (normal D [])
  unfolding with_stored
  cleared_holds cells e =
      let k : ℕ = system_length D in
      let n : ℕ = falling_start (D + 1) D in
      let front = take_replicate k (workspace_cells D) zero64 (omega (arith, two_parts D)) in
      rw (e, folded_normal D [], triangle_nil D, front, two_parts D)
      (sym (replicate-append-replicate k n zero64))

  module _ (ss : List Sample) where
    -- its stored rows are the triangle of the samples' equations, which unfolds to all of them
    pub stored_triangle : stored D (holding D (normal D ss)) ≡ triangle D ss
    unfolding with_stored
    stored_triangle =
        let blank : List Float = replicate (workspace_cells D) zero64 in
        let rows : List Float = flat (folded D (normal D ss)) in
        ap (falling_rows (D + 1) D)
        (drop_at (take (system_length D) blank) rows (system_length D)
        (length-take-le (system_length D) blank blank_long))
        ∙ ap (λ (t : List (List Float)). falling_rows (D + 1) D (flat t)) (folded_normal D ss)
        ∙ rows_of_triangle D ss

    pub equations_normal : equations D (holding D (normal D ss)) ≡ normal D ss
    equations_normal = ap (unfolded D) stored_triangle ∙ unfolded_triangle D ss

    pub length_holding : length (holding D (normal D ss)) ≡ workspace_cells D
    unfolding with_stored
    length_holding =
        let n = length-take-le (system_length D) (replicate (workspace_cells D) zero64) blank_long in
        rw folded_normal (simp (length-append, length_triangle) (omega (arith, n, two_parts D)))

    -- after `add_row`
    pub add_row_holds : (cells cells₁ : List Float) → cells ≡ holding D (normal D ss)
        → (s : Sample) (ext : List Float) → length s.row ≡ D → ext ≡ extended s
        → cells₁ ≡ with_equations D (add_row (equations D cells) ext) cells
        → cells₁ ≡ holding D (normal D (ss ++ s ∷ []))
    add_row_holds cells cells₁ holds s ext wide x e =
        e ∙ rw (holds, x, equations_normal, normal_snoc D ss s wide) (with_again (normal D ss) _ _ blank_long)

    -- and after `add_row_sparse`
    pub add_visited_holds : (cells cells₁ : List Float) → cells ≡ holding D (normal D ss)
        → (s : Sample) (ext : List Float) → length s.row ≡ D → ext ≡ extended s
        → cells₁ ≡ with_stored D (add_visited (stored D cells) ext) cells
        → cells₁ ≡ holding D (normal D (ss ++ s ∷ []))
    add_visited_holds cells cells₁ holds s ext wide x e =
        let rows : stored D cells ≡ triangle D ss = ap (stored D) holds ∙ stored_triangle in
        let same : add_visited (stored D cells) ext ≡ add_triangle (stored D cells) ext =
        rw rows (visited_triangle D ss ext) in
        let count : length cells ≡ workspace_cells D = ap length holds ∙ length_holding in
        let n : length ext ≡ D + 1 = ap length x ∙ simp length-append (omega arith) in
        add_row_holds cells cells₁ holds s ext wide x
        (e
        ∙ ap (λ (t : List (List Float)). with_stored D t cells) same
        ∙ add_stored D cells ext count n)

-- ---- what the answer of `solve` says

module _ (D : ℕ) (s t : FitSlices) where
  solution_solved : (x : Solution) (eps : Float) (beta₀ beta₁ : List Float) → Some eps ≡ ridge_of x
      → beta₁ ≡ written x beta₀
      → x ≡ solved eps beta₁
  solution_solved (solved ridge cells) eps beta₀ beta₁ a b = cc (a, b)
  solution_solved unsolved eps beta₀ beta₁ a b = cc (a)

  solution_none : (x : Solution) → None ≡ ridge_of x → x ≡ unsolved
  solution_none (solved ridge cells) a = cc (a)
  solution_none unsolved a = refl

  pub solve_solved : (eps : Float) → SolvedBy D (change s t) (Some eps)
      → solution_in D s.workspace ≡ solved eps t.coefficients
  solve_solved eps h = solution_solved _ eps s.coefficients t.coefficients h.answer h.coefficients

  pub solve_none : SolvedBy D (change s t) None → solution_in D s.workspace ≡ unsolved
  solve_none h = solution_none _ h.answer
