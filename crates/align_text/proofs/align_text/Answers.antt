-- `align_text::align_text` meets its contract: the text's answer stands in the buffer, and is copied where it fits.
use Rattle.std.proofs.Common.{◌≡◌, ℕ, ◌<◌, ◌≤◌, List, [], ◌++◌, length, drop, sym, ap, ◌∙◌, subst}
use Rattle.std.specs.Prelude.{Ok}
use Rattle.status.specs.Status.{accepted, number_of}
use Rattle.status.specs.declared.Refusal.{Refusal}
use Rattle.align_text.specs.AlignText.{align_text, text_status, Answered}
use Rattle.align_text.proofs.Contract.{refusing, too_short_lem, refused, written_accepted, written_refused}
use Rattle.align_text.proofs.align_text.Goals as goal

-- what is in the buffer
buffered : (t start bytes all : List ℕ) → bytes ≡ all → all ≡ start ++ align_text t → start ≡ []
    → bytes ≡ align_text t
buffered t start bytes all e f g = e ∙ f ∙ ap (λ (x : List ℕ). x ++ align_text t) g

module _ (t before bytes : List ℕ) (e : bytes ≡ align_text t) where
  -- ---- no room
  longer : length before < length bytes → length before < length (align_text t)
  longer h = subst (λ (b : List ℕ). length before < length b) e h

  -- ---- copied
  module _ (copied : List ℕ) (k : copied ≡ bytes) (h : length bytes ≤ length before) where
    fitting : length (align_text t) ≤ length before
    fitting = subst (λ (b : List ℕ). length b ≤ length before) e h

    over : copied ++ drop (length (align_text t)) before ≡ align_text t ++ drop (length (align_text t)) before
    over = ap (λ (x : List ℕ). x ++ drop (length (align_text t)) before) (k ∙ e)

    copied_accepted : accepted ≡ text_status t
        → Answered t before (Ok (length bytes)) (copied ++ drop (length bytes) before)
    copied_accepted a =
        subst (λ (b : List ℕ). Answered t before (Ok (length b)) (copied ++ drop (length b) before)) (sym e)
        (written_accepted t before fitting _ over a)

    copied_refused : (q : Refusal) → number_of q ≡ text_status t
        → Answered t before (refusing q (length bytes)) (copied ++ drop (length bytes) before)
    copied_refused q a =
        subst (λ (b : List ℕ). Answered t before (refusing q (length b)) (copied ++ drop (length b) before)) (sym e)
        (written_refused t before fitting _ over q a)

pub returns-in-Ok : goal.returns-in-Ok
returns-in-Ok c =
    let t = c.args.input.now in
    let e = buffered t _ _ _ c.as_bytes-text.ensures c.write_answer-answer.ensures.text c.new-buffer.ensures in
    too_short_lem t c.args.output.now (longer t c.args.output.now _ e c.if-output-n.true) c.in-Ok.ensures.number

pub returns-in-Err : goal.returns-in-Err
returns-in-Err c =
    let t = c.args.input.now in
    let e = buffered t _ _ _ c.as_bytes-text.ensures c.write_answer-answer.ensures.text c.new-buffer.ensures in
    refused t c.args.output.now (longer t c.args.output.now _ e c.if-output-n.true) c.in-Err.status c.in-Err.ensures.number

pub returns-in-Ok-answer : goal.returns-in-Ok-answer
returns-in-Ok-answer c =
    let t = c.args.input.now in
    let e = buffered t _ _ _ c.as_bytes-text.ensures c.write_answer-answer.ensures.text c.new-buffer.ensures in
    copied_accepted t c.args.output.now _ e _ c.copy_from_slice.ensures.after c.if-output-n.false c.in-Ok-answer.ensures.number

pub returns-in-Err-answer : goal.returns-in-Err-answer
returns-in-Err-answer c =
    let t = c.args.input.now in
    let e = buffered t _ _ _ c.as_bytes-text.ensures c.write_answer-answer.ensures.text c.new-buffer.ensures in
    copied_refused t c.args.output.now _ e _ c.copy_from_slice.ensures.after c.if-output-n.false c.in-Err-answer.status c.in-Err-answer.ensures.number
