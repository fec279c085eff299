-- `elimination::row::divide_row` meets its contract: the cells from the first nonzero one on are the part that was
-- lent.
use mathlib.Core.Path.{◌≡◌, sym, ◌∙◌}
use mathlib.Core.List.{List, map}
use Prim.Native.Nat.{ℕ, ◌-◌, ◌<◌, ◌≤◌}
use native.Mathlib.Omega.{arith}
use lib.ListN.{length, take, drop}
use lib.Seq.{length-take-le}
use lib.Dec.{ltb}
use lib.Ieee.{Float}
use borrow.Author.Tests.{lt-ltb, le-ltb}
use borrow.Rule.Slice.PartMut.{put_mid}
use Rattle.elimination.specs.Elimination.{cell, divided_by, leading, divided}
use Rattle.elimination.proofs.Elimination.{if_true, if_false, first_found, first_none}
use Rattle.elimination.proofs.Parts.{rest, put_rest}
use Rattle.elimination.proofs.row.divide_row.Goals as goal

module _ (n j : ℕ) (row : List Float) where
  put_divided : (part : List Float) → j ≡ leading n row → j < n
      → part ≡ map (divided_by (cell j row)) (take (length row - j) (drop j row))
      → put_mid j (length row - j) row part ≡ divided n row
  unfolding divided
  put_divided part e h p =
      put_rest j row part
      ∙ rw (p, rest j row) (rw e (sym (if_true (ltb (leading n row) n) _ row (lt-ltb (leading n row) n (rw e at h)))))

put_none : (n : ℕ) (row : List Float) → n ≤ leading n row → row ≡ divided n row
unfolding divided
put_none n row h = sym (if_false (ltb (leading n row) n) _ row (le-ltb (leading n row) n h))

pub returns-in-Some : goal.returns-in-Some
returns-in-Some c =
    let f = first_found (take c.args.n c.args.row.now) c.in-Some.j (sym c.first_nonzero.ensures ∙ c.in-Some.is) in
    put_divided c.args.n c.in-Some.j c.args.row.now c.divide.new.dst f.0
    (omega (arith, f, length-take-le c.args.n c.args.row.now c.requires)) c.divide.ensures

pub returns-in_default : goal.returns-in_default
returns-in_default c =
    let f = first_none (take c.args.n c.args.row.now) (sym c.first_nonzero.ensures ∙ c.in_default.is) in
    put_none c.args.n c.args.row.now (omega (arith, f, length-take-le c.args.n c.args.row.now c.requires))
