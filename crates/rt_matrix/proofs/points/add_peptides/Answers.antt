-- `rt_matrix::points::add_peptides` meets its contract. The loop's invariant: the states, carried on over the rows that
-- are left, give what the whole gives; `left` holds these rows; and each file has room for a point of each of them.
use mathlib.Core.Path.{◌≡◌, refl, sym, ap, ◌∙◌}
use mathlib.Core.List.{foldl}
use Prim.Native.Nat.{ℕ, suc, ◌-◌, ◌*◌, ◌+◌, ◌^◌, ◌<◌}
use native.Mathlib.Nat.{suc-mul}
use native.Mathlib.Omega.{arith}
use lib.ListN.{length, take}
use Rattle.rt_matrix.specs.Cells.{shares_of, row_shares, after_row}
use Rattle.rt_matrix.proofs.Peptides.{rows_left, rows_done, room_after}
use Rattle.rt_matrix.proofs.points.add_peptides.Goals as goal

pub loop-p-init : goal.loop-p-init
loop-p-init g c =
    let all : c.args.peptides - 0 ≡ c.args.peptides = omega arith in
    rw all (c.requires.lengths.0, c.requires.room, refl)

-- of n - p rows the first
one_row : (n p files : ℕ) → p < n → (n - p) * files ≡ (n - (p + 1)) * files + files
one_row n p files h =
    let e : n - p ≡ suc (n - (p + 1)) = omega arith in ap (λ k. k * files) e ∙ suc-mul (n - (p + 1)) files

pub split_at-requires : goal.split_at-requires
split_at-requires g c =
    omega (arith, c.loop-p.invariant.0, one_row c.args.peptides c.loop-p.p (length c.args.max.now) c.loop-p-test.true)

pub add_peptide-requires : goal.add_peptide-requires
add_peptide-requires g c =
    record {
      lengths = (c.split_at.ensures.front_len, omega (arith, c.requires.lengths.1), c.requires.lengths.2);
      room = λ k d h. omega (arith, c.loop-p.invariant.1 k d h);
    }

pub loop-p-preserved : goal.loop-p-preserved
loop-p-preserved g c =
    let a = c.args in
    let step = g.T.Gather.step in
    let ms = a.max.now in
    let left = c.loop-p.left.now in
    let n = a.peptides - c.loop-p.p in
    let k = a.peptides - (c.loop-p.p + 1) in
    let next : n ≡ suc k = omega arith in
    let row = take (length ms) left in
    let e : c.add_peptide.new.states ≡ after_row step c.loop-p.states (shares_of ms row) =
    c.add_peptide.ensures ∙ ap (λ r. after_row step c.loop-p.states (shares_of ms r)) c.split_at.ensures.front in
    let room =
    room_after step g.T.Gather.count g.met.T.Gather.counted (2 ^ 32) k c.loop-p.states (shares_of ms row)
    (λ i d h. omega (arith, c.loop-p.invariant.1 i d h)) in (
      omega (
        arith,
        c.split_at.ensures.back_len,
        c.loop-p.invariant.0,
        one_row a.peptides c.loop-p.p (length ms) c.loop-p-test.true,
      ),
      rw e room,
      ap (λ l. foldl (after_row step) l (row_shares ms k c.split_at.result.1.now)) e
          ∙ ap
          (λ r. foldl (after_row step) (after_row step c.loop-p.states (shares_of ms row)) (row_shares ms k r))
          c.split_at.ensures.back
          ∙ ap (foldl (after_row step) c.loop-p.states) (sym (rows_left ms left n k next))
          ∙ c.loop-p.invariant.2,
    )

pub returns : goal.returns
returns g c =
    let a = c.args in
    sym
    (ap (foldl (after_row g.T.Gather.step) c.loop-p.states)
    (rows_done a.max.now c.loop-p.left.now (a.peptides - c.loop-p.p) (omega arith)))
    ∙ c.loop-p.invariant.2
