-- `align_text::answer_text` meets its contract: by what was read, and by the limits.
use Rattle.std.proofs.Common.{◌≡◌, ℕ, List, ◌++◌, sym, ap, ◌∙◌, arith}
use Rattle.std.specs.Prelude.{⊤, Result, Ok, Err, OnOk}
use Rattle.status.specs.declared.Refusal.{Refusal}
use Rattle.align_input.specs.Columns.{held_rows}
use Rattle.align_text.proofs.Answers.{malformed_is, given_by, limited_is, rows_in}
use Rattle.align_text.proofs.answer_text.Goals as goal

-- what an accepted answer appends, by an equal text
appended : (r : Result ⊤ Refusal) (out after text text' : List ℕ) → text ≡ text' → OnOk r (after ≡ out ++ text)
    → OnOk r (after ≡ out ++ text')
appended (Ok x) out after text text' e h = h ∙ ap (λ (t : List ℕ). out ++ t) e
appended (Err x) out after text text' e h = h

pub returns-in_default-clause-number : goal.returns-in_default-clause-number
returns-in_default-clause-number c = malformed_is c.args.input.now c.in_default.ensures.answer

pub returns-then-not-limits-clause-number : goal.returns-then-not-limits-clause-number
returns-then-not-limits-clause-number c =
    let z = c.in-Some.sizes in
    limited_is c.args.input.now z.files z.peptides z.rows (given_by c.args.input.now z c.in-Some.ensures.answer)
    (sym c.limits.ensures ∙ c.if-not-limits.true)

pub slice_bounds-observed-end : goal.slice_bounds-observed-end
slice_bounds-observed-end c =
    (rows_in c.args.input.now c.in-Some.sizes c.in-Some.ensures.answer (sym c.limits.ensures ∙ c.if-not-limits.false)
    _ (held_rows c.read_input.new.columns) c.read_input.ensures.columns
    (record { file = omega arith; peptide = omega arith; label = omega arith; q = omega arith; rt = omega arith })).file

pub slice_bounds-observed-end-2 : goal.slice_bounds-observed-end-2
slice_bounds-observed-end-2 c =
    (rows_in c.args.input.now c.in-Some.sizes c.in-Some.ensures.answer (sym c.limits.ensures ∙ c.if-not-limits.false)
    _ (held_rows c.read_input.new.columns) c.read_input.ensures.columns
    (record { file = omega arith; peptide = omega arith; label = omega arith; q = omega arith; rt = omega arith })).peptide

pub slice_bounds-observed-end-3 : goal.slice_bounds-observed-end-3
slice_bounds-observed-end-3 c =
    (rows_in c.args.input.now c.in-Some.sizes c.in-Some.ensures.answer (sym c.limits.ensures ∙ c.if-not-limits.false)
    _ (held_rows c.read_input.new.columns) c.read_input.ensures.columns
    (record { file = omega arith; peptide = omega arith; label = omega arith; q = omega arith; rt = omega arith })).label

pub slice_bounds-observed-end-4 : goal.slice_bounds-observed-end-4
slice_bounds-observed-end-4 c =
    (rows_in c.args.input.now c.in-Some.sizes c.in-Some.ensures.answer (sym c.limits.ensures ∙ c.if-not-limits.false)
    _ (held_rows c.read_input.new.columns) c.read_input.ensures.columns
    (record { file = omega arith; peptide = omega arith; label = omega arith; q = omega arith; rt = omega arith })).q

pub slice_bounds-observed-end-5 : goal.slice_bounds-observed-end-5
slice_bounds-observed-end-5 c =
    (rows_in c.args.input.now c.in-Some.sizes c.in-Some.ensures.answer (sym c.limits.ensures ∙ c.if-not-limits.false)
    _ (held_rows c.read_input.new.columns) c.read_input.ensures.columns
    (record { file = omega arith; peptide = omega arith; label = omega arith; q = omega arith; rt = omega arith })).rt

pub answer_rows-requires-clause-ready : goal.answer_rows-requires-clause-ready
answer_rows-requires-clause-ready c =
    (rows_in c.args.input.now c.in-Some.sizes c.in-Some.ensures.answer (sym c.limits.ensures ∙ c.if-not-limits.false)
    _ (held_rows c.read_input.new.columns) c.read_input.ensures.columns
    (record { file = omega arith; peptide = omega arith; label = omega arith; q = omega arith; rt = omega arith })).ready

pub returns-clause-number : goal.returns-clause-number
returns-clause-number c =
    c.answer_rows.ensures.number
    ∙ (rows_in c.args.input.now c.in-Some.sizes c.in-Some.ensures.answer (sym c.limits.ensures ∙ c.if-not-limits.false)
    _ (held_rows c.read_input.new.columns) c.read_input.ensures.columns
    (record { file = omega arith; peptide = omega arith; label = omega arith; q = omega arith; rt = omega arith })).status

pub returns-clause-accepted : goal.returns-clause-accepted
returns-clause-accepted c =
    appended c.answer_rows.result _ _ _ _
    (rows_in c.args.input.now c.in-Some.sizes c.in-Some.ensures.answer (sym c.limits.ensures ∙ c.if-not-limits.false)
    _ (held_rows c.read_input.new.columns) c.read_input.ensures.columns
    (record { file = omega arith; peptide = omega arith; label = omega arith; q = omega arith; rt = omega arith })).text
    c.answer_rows.ensures.accepted
