-- The contract of `align_text`, by whether the text is accepted and whether its answer fits; and what a caller has of
-- it: what was written fits, and what a refused call wrote is the line of its number.
use mathlib.Core.Option.{some}
use Rattle.std.specs.Prelude.{Result, Ok, Err}
use mathlib.Core.Path.{◌≡◌, refl, sym, ap, ap₂, ◌∙◌}
use mathlib.Core.Bool.{Bool, true, false, cond}
use mathlib.Core.List.{List, [], ◌∷◌}
use Prim.Native.Nat.{ℕ, ◌≤◌, ◌<◌}
use native.Mathlib.Omega.{arith}
use lib.Dec.{eqb}
use lib.ListN.{length, take}
use lib.Seq.{take_at}
use borrow.Author.Tests.{le-leb, lt-leb, leb-true, eqb-true, eq-eqb}
use Rattle.matrix.specs.Lists.{overwritten}
use Rattle.status.specs.Status.{accepted, too_short, first_failing, number_of, refusal_by}
use Rattle.align_output.specs.Output.{status_text}
use Rattle.align_text.specs.declared.Refused.{Refused}
use Rattle.status.specs.declared.Refusal.{Refusal}
use Rattle.status.specs.declared.Refusal.TheVariants.{BadLengths, PastLimit, TooShort, BadFile, BadPeptide, BadLetter, BadOffsets, Malformed}
use Rattle.status.specs.Told.{Told}
use Rattle.align_text.specs.AlignText.{
  align_text,
  text_status,
  fits,
  call_status,
  written_to,
  answer_of,
  written_in,
  told_by,
  Answered,
}
use Rattle.align_text.proofs.Statuses.{refused_text}

-- a number and a value, as an answer tells them
abbrev telling : (s n : ℕ) → Told ℕ
telling s n = record { status = s; values = some n }

-- what an answer says was written is the value that it tells
written_in_lem : (r : Result ℕ Refused) (s n : ℕ) → told_by r ≡ telling s n → written_in r ≡ n
written_in_lem (Ok m) s n e = let v : some m ≡ some n = ap (λ (t : Told ℕ). t.values) e in cc
written_in_lem (Err q) s n e = let v : some q.written ≡ some n = ap (λ (t : Told ℕ). t.values) e in cc

-- the answer with a refusal
abbrev pub refusing : Refusal → ℕ → Result ℕ Refused
refusing q n = Err (record { status = q; written = n })

accepted_answer : (s n : ℕ) → s ≡ accepted → Ok n ≡ answer_of s n
unfolding answer_of
accepted_answer s n h =
    sym (ap (λ (b : Bool). cond b (Ok n) (refusing (refusal_by s) n)) (eq-eqb s accepted h))

refused_answer : (q : Refusal) (n : ℕ) → refusing q n ≡ answer_of (number_of q) n
unfolding answer_of
refused_answer BadLengths n = refl
refused_answer PastLimit n = refl
refused_answer TooShort n = refl
refused_answer BadFile n = refl
refused_answer BadPeptide n = refl
refused_answer BadLetter n = refl
refused_answer BadOffsets n = refl
refused_answer Malformed n = refl

-- a refusal's number is not that of an accepted call
pub refused_is_other : (q : Refusal) → eqb (number_of q) accepted ≡ false
refused_is_other BadLengths = refl
refused_is_other PastLimit = refl
refused_is_other TooShort = refl
refused_is_other BadFile = refl
refused_is_other BadPeptide = refl
refused_is_other BadLetter = refl
refused_is_other BadOffsets = refl
refused_is_other Malformed = refl

module _ (t before : List ℕ) where
  -- the number of a call whose answer fits is the text's
  pub fitting : fits (align_text t) before ≡ true → call_status t before ≡ text_status t
  unfolding call_status
  fitting f = go (eqb (text_status t) accepted) refl (fits (align_text t) before) f
    where
      go : (a : Bool) → eqb (text_status t) accepted ≡ a → (b : Bool) → b ≡ true
          → first_failing ((text_status t, a) ∷ (too_short, b) ∷ []) ≡ text_status t
      go false e b f = refl
      go true e b f = ap (λ (x : Bool). cond x accepted too_short) f ∙ sym (eqb-true (text_status t) accepted e)

  too_long : fits (align_text t) before ≡ false
      → call_status t before ≡ cond (eqb (text_status t) accepted) too_short (text_status t)
  unfolding call_status
  too_long f = ap (λ (b : Bool). cond (eqb (text_status t) accepted) (cond b accepted too_short) (text_status t)) f

  -- an answer that is made of the number and of what is written
  of_parts : (s n : ℕ) (r : Result ℕ Refused) (after : List ℕ) → call_status t before ≡ s → written_to t before ≡ n
      → r ≡ answer_of s n → told_by r ≡ telling s n
      → after ≡ cond (fits (align_text t) before) (overwritten (align_text t) before) before
      → Answered t before r after
  of_parts s n r after e f h k o =
      record {
        answer = h ∙ ap (λ (x : ℕ). answer_of x n) (sym e) ∙ ap (answer_of (call_status t before)) (sym f);
        told = k ∙ ap₂ telling (sym e) (sym f);
        output = o;
      }

  -- ---- no room
  module _ (h : length before < length (align_text t)) where
    no : fits (align_text t) before ≡ false
    no = lt-leb (length (align_text t)) (length before) h

    none_written : written_to t before ≡ 0
    none_written = ap (λ (b : Bool). cond b (length (align_text t)) 0) no

    kept : before ≡ cond (fits (align_text t) before) (overwritten (align_text t) before) before
    kept = sym (ap (λ (b : Bool). cond b (overwritten (align_text t) before) before) no)

    -- 3 for an accepted text
    pub too_short_lem : accepted ≡ text_status t → Answered t before (refusing TooShort 0) before
    too_short_lem a =
        of_parts too_short 0 _ before
        (too_long no ∙ ap (λ (b : Bool). cond b too_short (text_status t)) (eq-eqb (text_status t) accepted (sym a)))
        none_written
        (refused_answer TooShort 0)
        refl
        kept

    -- the text's number for a refused one
    pub refused : (q : Refusal) → number_of q ≡ text_status t → Answered t before (refusing q 0) before
    refused q a =
        of_parts (number_of q) 0 _ before
        (too_long no
        ∙ ap (λ (b : Bool). cond b too_short (text_status t)) (ap (λ (s : ℕ). eqb s accepted) (sym a) ∙ refused_is_other q)
        ∙ sym a)
        none_written
        (refused_answer q 0)
        refl
        kept

  -- ---- written
  module _ (h : length (align_text t) ≤ length before) (after : List ℕ) (w : after ≡ overwritten (align_text t) before) where
    yes : fits (align_text t) before ≡ true
    yes = le-leb (length (align_text t)) (length before) h

    all_written : written_to t before ≡ length (align_text t)
    all_written = ap (λ (b : Bool). cond b (length (align_text t)) 0) yes

    set : after ≡ cond (fits (align_text t) before) (overwritten (align_text t) before) before
    set = w ∙ sym (ap (λ (b : Bool). cond b (overwritten (align_text t) before) before) yes)

    pub written_accepted : accepted ≡ text_status t → Answered t before (Ok (length (align_text t))) after
    written_accepted a =
        of_parts accepted (length (align_text t)) _ after (fitting yes ∙ sym a) all_written
        (accepted_answer accepted (length (align_text t)) refl)
        refl
        set

    pub written_refused : (q : Refusal) → number_of q ≡ text_status t
        → Answered t before (refusing q (length (align_text t))) after
    written_refused q a =
        of_parts (number_of q) (length (align_text t)) _ after (fitting yes ∙ sym a) all_written
        (refused_answer q (length (align_text t)))
        refl
        set

-- what is said to be written fits
pub written_fits : (t before : List ℕ) (r : Result ℕ Refused) (after : List ℕ) → Answered t before r after
    → written_in r ≤ length before
written_fits t before r after w = go (fits (align_text t) before) refl (written_in_lem r _ _ w.told)
  where
    go : (b : Bool) → fits (align_text t) before ≡ b → written_in r ≡ cond b (length (align_text t)) 0
        → written_in r ≤ length before
    go true e g = omega (arith, g, leb-true (length (align_text t)) (length before) e)
    go false e g = omega (arith, g)

-- what a refused call wrote is the line of the number that it answers
pub refused_line : (t before after : List ℕ) (q : Refusal) (n : ℕ) → Answered t before (refusing q n) after → 0 < n
    → take n after ≡ status_text (number_of q)
refused_line t before after q n w h = go (fits (align_text t) before) refl (written_in_lem (refusing q n) _ _ w.told)
  where
    number : number_of q ≡ call_status t before
    number = ap (λ (x : Told ℕ). x.status) w.told

    go : (b : Bool) → fits (align_text t) before ≡ b → n ≡ cond b (length (align_text t)) 0
        → take n after ≡ status_text (number_of q)
    go false e v = absurd (omega (arith, v, h))
    go true e v =
        let f = number ∙ fitting t before e in
        ap (take n) (w.output ∙ ap (λ (b : Bool). cond b (overwritten (align_text t) before) before) e)
        ∙ take_at (align_text t) _ n (sym v)
        ∙ refused_text t (ap (λ (m : ℕ). eqb m accepted) (sym f) ∙ refused_is_other q)
        ∙ ap status_text (sym f)
