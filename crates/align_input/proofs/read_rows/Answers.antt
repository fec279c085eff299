-- `align_input::read_rows` meets its contract. The loop's invariant: counting and storing the rows that are left
-- gives what counting and storing all of them gives, in the slices that were lent.
use Rattle.std.proofs.Common.{◌≡◌, ℕ, ◌+◌, Some, None, drop, sym, ap, ◌∙◌, subst, add-zero, arith}
use borrow.Author.Rules.{rules}
use Rattle.align_input.specs.Parse.{rows_of}
use Rattle.align_input.specs.Columns.{Columns, Same, held_rows}
use Rattle.align_input.proofs.Rows.{
  count_from,
  count_all,
  storing,
  same_row,
  turn_bad,
  turn_further,
  turn_count,
  turn_columns,
  rows_end,
}
use Rattle.align_input.proofs.read_rows.Goals as goal

-- `None` is no `Some`, and what two equal ones hold is equal
none_some : {A P : Type 0} {a : A} → None ≡ Some a → P
none_some {a = a} h = let z : ◌≡◌ {A = ℕ} 0 1 = cc in absurd (omega arith)

some_some : {A : Type 0} {a b : A} → Some a ≡ Some b → a ≡ b
some_some h = cc

-- a turn that reads no row
pub returns-in_err-row-clause-answer : goal.returns-in_err-row-clause-answer
returns-in_err-row-clause-answer c =
    let l = c.loop-next in
    let n = turn_bad c.args.input.now l.next c.loop-next-test.true c.in_err-row.ensures in
    c.from_residual.ensures ∙ ap (count_from l.rows) (sym n) ∙ l.invariant.count ∙ count_all _

pub returns-in_err-row-clause-columns : goal.returns-in_err-row-clause-columns
returns-in_err-row-clause-columns c =
    let l = c.loop-next in
    let n = turn_bad c.args.input.now l.next c.loop-next-test.true c.in_err-row.ensures in
    λ rows h. none_some (sym (ap (storing (held_rows l.columns) l.rows) n) ∙ l.invariant.store ∙ ap (storing _ 0) h)

-- a turn that reads a row
pub overflow_add-rows : goal.overflow_add-rows
overflow_add-rows c = omega (arith, c.loop-next-test.true, c.loop-next.invariant.within, c.well_formed)

pub loop-next-smaller : goal.loop-next-smaller
loop-next-smaller c =
    omega (arith, turn_further c.args.input.now c.loop-next.next c.loop-next-test.true c.in_ok-row.row c.in_ok-row.ensures, c.loop-next-test.true)

pub loop-next-preserved : goal.loop-next-preserved
loop-next-preserved c =
    let t = c.args.input.now in
    let l = c.loop-next in
    let row = c.in_ok-row.row in
    let lt = c.loop-next-test.true in
    let told = c.in_ok-row.ensures in
    record {
      within = omega (arith, turn_further t l.next lt row told, l.invariant.within);
      count = sym (turn_count t l.next lt row told l.rows) ∙ l.invariant.count;
      same = (search rules);
      lengths = subst (Same _) (sym c.put.ensures.stored) (same_row l.rows row.value l.invariant.lengths);
      store =
          ap (λ (x : Columns). storing x (l.rows + 1) (rows_of (drop row.next t))) c.put.ensures.stored
          ∙ sym (turn_columns t l.next lt row told (held_rows l.columns) l.rows)
          ∙ l.invariant.store;
    }

pub returns-clause-answer : goal.returns-clause-answer
returns-clause-answer c =
    let l = c.loop-next in
    let e = rows_end c.args.input.now l.next c.loop-next-test.false in
    ap Some (sym (add-zero l.rows)) ∙ ap (count_from l.rows) (sym e) ∙ l.invariant.count ∙ count_all _

pub returns-clause-columns : goal.returns-clause-columns
returns-clause-columns c =
    let l = c.loop-next in
    let e = rows_end c.args.input.now l.next c.loop-next-test.false in
    λ rows h. some_some (sym (ap (storing (held_rows l.columns) l.rows) e) ∙ l.invariant.store ∙ ap (storing _ 0) h)
