-- `align_text::write_answer` meets its contract: a refused text's answer is the line of its number.
use Rattle.std.proofs.Common.{◌≡◌, ℕ, ◌+◌, ◌≤◌, List, ◌++◌, length, sym, ap, ap₂, ◌∙◌, arith, rules}
use lib.Dec.{eqb}
use Rattle.status.specs.Status.{accepted, number_of}
use Rattle.status.specs.declared.Refusal.{Refusal}
use Rattle.align_output.specs.Output.{status_text}
use Rattle.align_output.proofs.Lengths.{status_length}
use Rattle.align_text.specs.AlignText.{align_text, text_status}
use Rattle.align_text.proofs.Statuses.{refused_text}
use Rattle.align_text.proofs.Contract.{refused_is_other}
use Rattle.align_text.proofs.write_answer.Goals as goal

-- the text of a refused text's answer
line : (t : List ℕ) (q : Refusal) → number_of q ≡ text_status t → status_text (number_of q) ≡ align_text t
line t q h =
    ap status_text h ∙ sym (refused_text t (ap (λ (n : ℕ). eqb n accepted) (sym h) ∙ refused_is_other q))

pub write_status-requires : goal.write_status-requires
write_status-requires c =
    let e = ap length c.in-Err.ensures.refused in
    let s = status_length c.number.result (omega arith) in
    let r : length c.answer_text.new.out + length (status_text c.number.result) ≤ 8192 = omega (arith, e, s, c.requires) in
    (search rules, r)

pub returns-clause-text : goal.returns-clause-text
returns-clause-text c =
    c.write_status.ensures
    ∙ ap₂ (λ (a b : List ℕ). a ++ b) c.in-Err.ensures.refused
    (ap status_text c.number.ensures ∙ line c.args.input.now c.in-Err.refusal c.in-Err.ensures.number)
