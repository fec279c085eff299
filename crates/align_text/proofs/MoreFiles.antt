-- A program that takes more files: a text that a program with a smaller limit does not answer with 2 has the same number
-- and the same answer, and a well-formed text with more files than the limit is answered with 2. With 8 and 16 this is
-- what document 02 says of older programs and their texts.
use mathlib.Core.Path.{◌≡◌, refl, sym, ap, ◌∙◌}
use mathlib.Core.Bool.{Bool, true, false, ◌&&◌, cond}
use mathlib.Core.List.{List, ◌∷◌}
use Rattle.std.specs.Prelude.{Option, None, Some}
use Prim.Native.Nat.{ℕ, ◌≤◌, ◌<◌}
use native.Mathlib.Omega.{arith}
use lib.Dec.{leb}
use lib.ListN.{length}
use borrow.Author.Tests.{le-leb, lt-leb, leb-true, leb-false}
use Rattle.status.specs.Status.{accepted, past_limit, first_failing}
use Rattle.align_input.specs.Input.{Input}
use Rattle.align_input.specs.Parse.{parse}
use Rattle.align_output.specs.Output.{status_text}
use Rattle.align_text.specs.AlignText.{
  max_files,
  max_peptides,
  max_rows,
  within_limits,
  columns_of,
  columns_text,
  input_text_with,
  answer_with,
  align_text_with,
  align_text,
  column_checks,
  input_status_with,
  status_with,
  text_status_with,
  text_status,
}

-- the answer to an input, by whether it is within the limits
abbrev text_by : Input → Bool → List ℕ
text_by d b = cond b (columns_text (columns_of d)) (status_text past_limit)

abbrev status_by : Input → Bool → ℕ
status_by d b = first_failing ((past_limit, b) ∷ column_checks (columns_of d))

-- the limits, by the test of the number of files
abbrev limits_by : Input → Bool → Bool
limits_by d b = leb 1 d.files && b && leb d.peptides max_peptides && leb (length d.rows) max_rows

too_many : (d : Input) → limits_by d false ≡ false
too_many d = go (leb 1 d.files)
  where
    go : (a : Bool) → (a && false && leb d.peptides max_peptides && leb (length d.rows) max_rows) ≡ false
    go true = refl
    go false = refl

-- ---- an input

module _ (most : ℕ) (d : Input) (many : most < d.files) where
  refused : within_limits most d.files d.peptides (length d.rows) ≡ false
  refused = ap (limits_by d) (lt-leb d.files most many) ∙ too_many d

  pub past_text : input_text_with most d ≡ status_text past_limit
  unfolding input_text_with
  past_text = ap (text_by d) refused

  pub past_status : input_status_with most d ≡ past_limit
  unfolding input_status_with
  past_status = ap (status_by d) refused

module _ (most more : ℕ) (d : Input) (few : d.files ≤ most) (grown : most ≤ more) where
  tests_agree : leb d.files most ≡ leb d.files more
  tests_agree = le-leb d.files most few ∙ sym (le-leb d.files more (omega arith))

  pub same_text : input_text_with most d ≡ input_text_with more d
  unfolding input_text_with
  same_text = ap (λ (b : Bool). text_by d (limits_by d b)) tests_agree

  pub same_status : input_status_with most d ≡ input_status_with more d
  unfolding input_status_with
  same_status = ap (λ (b : Bool). status_by d (limits_by d b)) tests_agree

-- ---- a text

pub record SameAnswer (most more : ℕ) (t : List ℕ) : Type 0 where
  pub status : text_status_with more t ≡ text_status_with most t
  pub text : align_text_with more t ≡ align_text_with most t

-- only a text that was answered with 2 can be answered otherwise
pub read_as_before : (most more : ℕ) (t : List ℕ) → most ≤ more → (text_status_with most t ≡ past_limit → ⊥)
    → SameAnswer most more t
unfolding text_status_with align_text_with
read_as_before most more t grown other = go (parse t) refl
  where
    by_test : (d : Input) → parse t ≡ Some d → (b : Bool) → leb d.files most ≡ b → SameAnswer most more t
    by_test d e true h =
        let few = leb-true d.files most h in
        record {
          status =
              ap (status_with more) e ∙ sym (same_status most more d few grown) ∙ sym (ap (status_with most) e);
          text = ap (answer_with more) e ∙ sym (same_text most more d few grown) ∙ sym (ap (answer_with most) e);
        }
    by_test d e false h = absurd (other (ap (status_with most) e ∙ past_status most d (leb-false d.files most h)))

    go : (o : Option Input) → parse t ≡ o → SameAnswer most more t
    go None e =
        record {
          status = ap (status_with more) e ∙ sym (ap (status_with most) e);
          text = ap (answer_with more) e ∙ sym (ap (answer_with most) e);
        }
    go (Some d) e = by_test d e (leb d.files most) refl

-- ---- document 02's two sentences

-- how many files the program took before
abbrev pub files_before : ℕ
files_before = 8

-- a text that was accepted is accepted, with the same answer
pub accepted_before : (t : List ℕ) → text_status_with files_before t ≡ accepted
    → (text_status t ≡ accepted) × (align_text t ≡ align_text_with files_before t)
accepted_before t h =
    let same = read_as_before files_before max_files t (omega arith) (λ e. omega (arith, h, e)) in
    (same.status ∙ h, same.text)

-- a program of before answers 2 to a well-formed text with more files than it takes
pub answered_before : (t : List ℕ) (d : Input) → parse t ≡ Some d → files_before < d.files
    → (text_status_with files_before t ≡ past_limit) × (align_text_with files_before t ≡ status_text past_limit)
unfolding text_status_with align_text_with
answered_before t d e many = (
  ap (status_with files_before) e ∙ past_status files_before d many,
  ap (answer_with files_before) e ∙ past_text files_before d many,
)
