-- `align_input::read_input` meets its contract: by the length, the two lines before the rows, and the rows, as the
-- definition goes.
use Rattle.std.proofs.Common.{◌≡◌, refl, Some, sym, ap, ◌∙◌}
use Rattle.std.specs.Option.{option_map}
use Rattle.text.proofs.Cases.{some_none}
use Rattle.align_input.specs.Input.{Input}
use Rattle.align_input.specs.Parse.{parse, with_rows}
use Rattle.align_input.specs.Columns.{sizes_of, held_rows, stored}
use Rattle.align_input.proofs.Rows.{parse_long, parse_bad, parse_head, rows_counted, rows_missing}
use Rattle.align_input.proofs.read_input.Goals as goal

pub returns-then-input-gt-BYTES_MAX : goal.returns-then-input-gt-BYTES_MAX
returns-then-input-gt-BYTES_MAX c =
    let t = c.args.input.now in
    let e = parse_long t c.if-input-gt-BYTES_MAX.true in
    record {
      same = (refl, refl, refl, refl, refl);
      lengths = record { file = refl; peptide = refl; label = refl; q = refl; rt = refl };
      answer = ap (option_map sizes_of) (sym e);
      columns = λ d h. some_none (parse t) d h e;
    }

pub returns-in_err-head : goal.returns-in_err-head
returns-in_err-head c =
    let t = c.args.input.now in
    let e = parse_bad t c.if-input-gt-BYTES_MAX.false c.in_err-head.ensures in
    record {
      same = (refl, refl, refl, refl, refl);
      lengths = record { file = refl; peptide = refl; label = refl; q = refl; rt = refl };
      answer = c.from_residual.ensures ∙ ap (option_map sizes_of) (sym e);
      columns = λ d h. some_none (parse t) d h e;
    }

pub returns-in_err-rows : goal.returns-in_err-rows
returns-in_err-rows c =
    let t = c.args.input.now in
    let head = c.in_ok-head.head in
    let e =
    parse_head t c.if-input-gt-BYTES_MAX.false head c.in_ok-head.ensures
    ∙ ap (with_rows head.value) (rows_missing _ c.in_err-rows.ensures.answer) in
    record {
      same = c.read_rows.ensures.same;
      lengths = c.read_rows.ensures.lengths;
      answer = c.from_residual-in_err-rows.ensures ∙ ap (option_map sizes_of) (sym e);
      columns = λ d h. some_none (parse t) d h e;
    }

pub returns : goal.returns
returns c =
    let t = c.args.input.now in
    let head = c.in_ok-head.head in
    let w = rows_counted c.in_ok-rows.rows _ c.in_ok-rows.ensures.answer in
    let e =
    parse_head t c.if-input-gt-BYTES_MAX.false head c.in_ok-head.ensures ∙ ap (with_rows head.value) w.1 in
    record {
      same = c.read_rows.ensures.same;
      lengths = c.read_rows.ensures.lengths;
      answer =
          ap (λ k. Some (record { files = head.value.files; peptides = head.value.peptides; rows = k })) w.2
          ∙ ap (option_map sizes_of) (sym e);
      columns = λ d h.
          let r : Some (record { files = head.value.files; peptides = head.value.peptides; rows = w.0 }) ≡ Some d = sym e ∙ h in
          let p : record { files = head.value.files; peptides = head.value.peptides; rows = w.0 } ≡ d = cc in
          c.read_rows.ensures.columns w.0 w.1 ∙ ap (λ (x : Input). stored (held_rows c.args.columns.now) 0 x.rows) p;
    }
