-- `peptide::check_offsets` meets its contract. The loop's invariant: the offsets that are left, after the one at
-- `start`, give what all after the first give.
use Rattle.std.proofs.Common.{◌≢◌, get_or, ◌∙◌, sym, arith, ◌+◌}
use borrow.Author.Tests.{le-leb, lt-leb}
use Rattle.peptide.proofs.Laws.{rest, get_or_rest, offsets_rest, first_wrong, count_wrong, offsets_none, climbs_step, climbs_done}
use Rattle.peptide.proofs.check_offsets.Goals as goal

pub returns-in_default : goal.returns-in_default
returns-in_default c = sym (offsets_none c.args.peptides c.args.letters c.args.offsets.now c.in_default.len_below)

pub returns-in_default-2 : goal.returns-in_default-2
returns-in_default-2 c =
    let p = c.args in
    let first : get_or p.offsets.now 0 0 ≢ 0 = omega arith in
    sym (first_wrong p.peptides p.letters p.offsets.now c.in_default.len_at_least first)

pub returns-then-rest-peptides : goal.returns-then-rest-peptides
returns-then-rest-peptides c =
    let p = c.args in
    sym (count_wrong p.peptides p.letters p.offsets.now c.in-0.len_at_least c.if-rest-peptides.true)

pub returns-then-next-start : goal.returns-then-next-start
returns-then-next-start c =
    let p = c.args in
    let l = c.loop-offset in
    sym (rw (lt-leb _ _ c.if-next-start.true) at (climbs_step l.start p.letters l.offset-index (rest p.offsets.now) c.loop-offset-test.true))
    ∙ l.invariant.climbs
    ∙ offsets_rest p.peptides p.letters p.offsets.now c.in-0.len_at_least (omega arith) c.if-rest-peptides.false

pub returns-then-start-next : goal.returns-then-start-next
returns-then-start-next c =
    let p = c.args in
    let l = c.loop-offset in
    sym
    (rw (le-leb _ _ c.if-next-start.false, lt-leb _ _ c.if-start-next.true) at (climbs_step l.start p.letters l.offset-index (rest p.offsets.now) c.loop-offset-test.true))
    ∙ l.invariant.climbs
    ∙ offsets_rest p.peptides p.letters p.offsets.now c.in-0.len_at_least (omega arith) c.if-rest-peptides.false

pub loop-offset-preserved : goal.loop-offset-preserved
loop-offset-preserved c =
    let p = c.args in
    let l = c.loop-offset in record {
      fits = omega (arith, get_or_rest p.offsets.now l.offset-index, c.type_inv.offsets (1 + l.offset-index));
      climbs = sym (rw (le-leb _ _ c.if-next-start.false, le-leb _ _ c.if-start-next.false) at (climbs_step l.start p.letters l.offset-index (rest p.offsets.now) c.loop-offset-test.true)) ∙ l.invariant.climbs;
    }

pub returns : goal.returns
returns c =
    let p = c.args in
    let l = c.loop-offset in
    sym (climbs_done l.start p.letters l.offset-index (rest p.offsets.now) c.loop-offset-test.false)
    ∙ l.invariant.climbs
    ∙ offsets_rest p.peptides p.letters p.offsets.now c.in-0.len_at_least (omega arith) c.if-rest-peptides.false
