-- The number of a text and the text of its answer: a refused text is answered with the line of its number, an accepted
-- one with its alignment, whose first line is that of 0. So the number of a text is the one that its answer says.
use mathlib.Core.Path.{◌≡◌, refl, sym, ap, ◌∙◌, subst}
use mathlib.Core.Bool.{Bool, true, false, cond}
use mathlib.Core.List.{List, [], ◌∷◌, ◌++◌, append-nil, flatten}
use Rattle.std.specs.Prelude.{Option, None, Some}
use Prim.Native.Nat.{ℕ}
use native.Mathlib.Omega.{arith}
use lib.Dec.{eqb}
use lib.ListN.{length}
use borrow.Author.Tests.{eqb-true}
use Rattle.status.specs.Checks.{all_below}
use Rattle.status.specs.Status.{accepted, past_limit, bad_file, bad_peptide, first_failing, number_of, refusal_by}
use Rattle.retention_alignment.specs.Call as Call
use Rattle.align_input.specs.Input.{Input}
use Rattle.align_input.specs.Parse.{parse}
use Rattle.align_output.specs.Output.{status_text, accepted_text}
use Rattle.align_text.specs.AlignText.{
  max_files,
  within_limits,
  columns_of,
  alignment_text,
  columns_text,
  input_text_with,
  answer_with,
  align_text_with,
  align_text,
  column_checks,
  columns_status,
  input_status_with,
  status_with,
  text_status_with,
  text_status,
}

-- the answer with a number: its line, or this text for 0
abbrev pub by_status : ℕ → List ℕ → List ℕ
by_status n text = cond (eqb n accepted) text (status_text n)

pub columns_text_lem : (i : Call.Input) → columns_text i ≡ by_status (columns_status i) (alignment_text i)
unfolding columns_text columns_status
columns_text_lem i = go (all_below i.files i.file) (all_below i.peptides i.peptide) (alignment_text i)
  where
    go : (a b : Bool) (t : List ℕ)
        → cond a (cond b t (status_text bad_peptide)) (status_text bad_file)
        ≡ by_status (first_failing ((bad_file, a) ∷ (bad_peptide, b) ∷ [])) t
    go false b t = refl
    go true false t = refl
    go true true t = refl

input_text : (d : Input)
    → input_text_with max_files d ≡ by_status (input_status_with max_files d) (alignment_text (columns_of d))
unfolding input_text_with input_status_with columns_status
input_text d = go (within_limits max_files d.files d.peptides (length d.rows))
  where
    go : (b : Bool)
        → cond b (columns_text (columns_of d)) (status_text past_limit)
        ≡ by_status (first_failing ((past_limit, b) ∷ column_checks (columns_of d))) (alignment_text (columns_of d))
    go false = refl
    go true = columns_text_lem (columns_of d)

-- the alignment of what was read
abbrev pub alignment_of : Option Input → List ℕ
alignment_of None = []
alignment_of (Some d) = alignment_text (columns_of d)

-- the text of a text's answer is the line of its number, or for 0 its alignment
pub text_by_status : (t : List ℕ) → align_text t ≡ by_status (text_status t) (alignment_of (parse t))
unfolding align_text_with text_status_with
text_by_status t = go (parse t)
  where
    go : (o : Option Input) → answer_with max_files o ≡ by_status (status_with max_files o) (alignment_of o)
    go None = refl
    go (Some d) = input_text d

-- so a refused text is answered with its number
pub refused_text : (t : List ℕ) → eqb (text_status t) accepted ≡ false
    → align_text t ≡ status_text (text_status t)
refused_text t h = text_by_status t ∙ ap (λ (b : Bool). cond b (alignment_of (parse t)) (status_text (text_status t))) h

-- ---- the number of a refused text is that of a refusal

number_by_checks : (a b c : Bool)
    → let n = first_failing ((past_limit, a) ∷ (bad_file, b) ∷ (bad_peptide, c) ∷ []) in
    (n ≡ accepted → ⊥) → number_of (refusal_by n) ≡ n
number_by_checks false b c h = refl
number_by_checks true false c h = refl
number_by_checks true true false h = refl
number_by_checks true true true h = absurd (h refl)

input_number : (d : Input) → (input_status_with max_files d ≡ accepted → ⊥)
    → number_of (refusal_by (input_status_with max_files d)) ≡ input_status_with max_files d
unfolding input_status_with
input_number d =
    let i : Call.Input = columns_of d in
    number_by_checks (within_limits max_files d.files d.peptides (length d.rows)) (all_below i.files i.file)
    (all_below i.peptides i.peptide)

pub refused_number : (t : List ℕ) → (text_status t ≡ accepted → ⊥)
    → number_of (refusal_by (text_status t)) ≡ text_status t
unfolding text_status_with
refused_number t = go (parse t)
  where
    go : (o : Option Input) → (status_with max_files o ≡ accepted → ⊥)
        → number_of (refusal_by (status_with max_files o)) ≡ status_with max_files o
    go None h = refl
    go (Some d) h = input_number d h

-- ---- how an answer begins

-- a text that begins with the line of a number
pub record Begins (n : ℕ) (text : List ℕ) : Type 0 where
  pub rest : List ℕ
  pub whole : text ≡ status_text n ++ rest

accepted_begins : (n : ℕ) → eqb n accepted ≡ true → (i : Call.Input) (text : List ℕ)
    → text ≡ alignment_text i → Begins n text
unfolding alignment_text accepted_text flatten
accepted_begins n e i text h =
    subst (λ (m : ℕ). Begins m text) (sym (eqb-true n accepted e)) (record { rest = _; whole = h })

-- and every answer begins with the line of its text's number
pub first_line_lem : (t : List ℕ) → Begins (text_status t) (align_text t)
unfolding text_status_with
first_line_lem t = go (eqb (text_status t) accepted) refl (parse t) refl (text_by_status t)
  where
    go : (b : Bool) → eqb (text_status t) accepted ≡ b → (o : Option Input) → parse t ≡ o
        → align_text t ≡ cond b (alignment_of o) (status_text (text_status t)) → Begins (text_status t) (align_text t)
    go false e o p h = record { rest = []; whole = h ∙ sym (append-nil (status_text (text_status t))) }
    go true e None p h =
        let z : false ≡ true = ap (λ (x : Option Input). eqb (status_with max_files x) accepted) (sym p) ∙ e in
        let y : ◌≡◌ {A = ℕ} 0 1 = cc in
        absurd (omega arith)
    go true e (Some d) p h = accepted_begins (text_status t) e (columns_of d) (align_text t) h
