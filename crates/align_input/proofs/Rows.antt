-- The rows from a place of a text on, and the columns that they are stored in, a row at a time.
use mathlib.Core.Path.{◌≡◌, refl, sym, ap, ◌∙◌}
use mathlib.Core.List.{List, [], ◌∷◌}
use Rattle.std.specs.Prelude.{Option, None, Some}
use Rattle.std.specs.Option.{option_map}
use Prim.Native.Nat.{ℕ, zero, suc, ◌+◌, ◌≤◌, ◌<◌}
use native.Mathlib.Numerals.{add-one}
use native.Mathlib.Nat.{le_refl, zero-add}
use native.Mathlib.Omega.{arith}
use lib.ListN.{length, drop, length-drop, length-set, drop_of_length-le}
use lib.Seq.{drop-drop}
use borrow.Author.Tests.{le-leb, lt-leb}
use Rattle.text.specs.declared.line.Line.{Line}
use Rattle.text.specs.Reader.{Read, value, malformed}
use Rattle.text.specs.Answer.{line_at}
use Rattle.text.proofs.Places.{line_none, line_some}
use Rattle.align_input.specs.declared.TextRow.{TextRow}
use Rattle.align_input.specs.declared.Head.{Head}
use Rattle.align_input.specs.Input.{max_bytes}
use Rattle.align_input.specs.Parse.{
  row_read,
  on_row,
  cons_row,
  rows_from,
  rows_of,
  head_read,
  with_rows,
  after_head,
  parse,
}
use Rattle.align_input.specs.Columns.{Columns, Same, stored_row, stored}
use Rattle.align_input.proofs.Grammar.{row_reads, row_some, rows_empty, rows_step}

row_takes : (r : TextRow) (n : ℕ) (s : List ℕ) → row_read s ≡ value r n → 1 ≤ n
row_takes r n s h = omega (arith, (row_reads.sound r n s h).1, row_some r)

-- ---- k needs only be large enough
rows_later : (k j : ℕ) (s : List ℕ)
    → ((t : List ℕ) → length t ≤ k → length t ≤ j → rows_from k t ≡ rows_from j t) → length s ≤ suc k
    → length s ≤ suc j
    → (x : Read TextRow) → row_read s ≡ x
    → on_row x (λ r n. cons_row r (rows_from k (drop n s))) ≡ on_row x (λ r n. cons_row r (rows_from j (drop n s)))
rows_later k j s later h l malformed e = refl
rows_later k j s later h l (value r n) e =
    let p = row_takes r n s e in
    ap (cons_row r) (later (drop n s) (rw length-drop (omega arith)) (rw length-drop (omega arith)))

rows_any : (k j : ℕ) (s : List ℕ) → length s ≤ k → length s ≤ j → rows_from k s ≡ rows_from j s
rows_any zero j [] h l = rows_empty zero ∙ sym (rows_empty j)
rows_any zero j (c ∷ s) h l = absurd (omega arith)
rows_any (suc k) j [] h l = rows_empty (suc k) ∙ sym (rows_empty j)
rows_any (suc k) zero (c ∷ s) h l = absurd (omega arith)
rows_any (suc k) (suc j) (c ∷ s) h l =
    rows_step k (c ∷ s) (omega arith)
    ∙ rows_later k j (c ∷ s) (λ t p q. rows_any k j t p q) h l (row_read (c ∷ s)) refl
    ∙ sym (rows_step j (c ∷ s) (omega arith))

-- ---- a row and then the others
rows_of_step : (s : List ℕ) → 1 ≤ length s → (k : ℕ) → length s ≡ suc k
    → rows_of s ≡ on_row (row_read s) (λ r n. cons_row r (rows_from k (drop n s)))
unfolding rows_of
rows_of_step s h k e = ap (λ (j : ℕ). rows_from j s) e ∙ rows_step k s h

pub rows_bad : (s : List ℕ) → 1 ≤ length s → row_read s ≡ malformed → rows_of s ≡ None
rows_bad s h e = go (length s) refl
  where
    go : (m : ℕ) → length s ≡ m → rows_of s ≡ None
    go zero p = absurd (omega arith)
    go (suc k) p =
        rows_of_step s h k p ∙ ap (λ (x : Read TextRow). on_row x (λ r n. cons_row r (rows_from k (drop n s)))) e

pub rows_more : (s : List ℕ) → 1 ≤ length s → (r : TextRow) (n : ℕ) → row_read s ≡ value r n
    → rows_of s ≡ cons_row r (rows_of (drop n s))
unfolding rows_of
rows_more s h r n e = go (length s) refl
  where
    go : (m : ℕ) → length s ≡ m → rows_from (length s) s ≡ cons_row r (rows_from (length (drop n s)) (drop n s))
    go zero p = absurd (omega arith)
    go (suc k) p =
        let q = row_takes r n s e in
        rows_of_step s h k p
        ∙ ap (λ (x : Read TextRow). on_row x (λ r n. cons_row r (rows_from k (drop n s)))) e
        ∙ ap (cons_row r)
        (rows_any k (length (drop n s)) (drop n s) (rw length-drop (omega arith)) (le_refl (length (drop n s))))

-- ---- the loop: the number of rows, and the columns, from a place of the text on
abbrev pub count_from : ℕ → Option (List TextRow) → Option ℕ
count_from i o = option_map (λ rows. i + length rows) o

count_cons : (i : ℕ) (r : TextRow) (o : Option (List TextRow)) → count_from i (cons_row r o) ≡ count_from (i + 1) o
count_cons i r None = refl
count_cons i r (Some rows) = let e : i + suc (length rows) ≡ i + 1 + length rows = omega arith in ap Some e

pub count_all : (o : Option (List TextRow)) → count_from 0 o ≡ option_map length o
count_all None = refl
count_all (Some rows) = ap Some (zero-add (length rows))

-- the columns once the rows are stored, where there are rows
abbrev pub storing : Columns → ℕ → Option (List TextRow) → Option Columns
storing c i None = None
storing c i (Some rows) = Some (stored c i rows)

storing_cons : (c : Columns) (i : ℕ) (r : TextRow) (o : Option (List TextRow))
    → storing c i (cons_row r o) ≡ storing (stored_row c i r) (i + 1) o
storing_cons c i r None = refl
storing_cons c i r (Some rows) = ap (λ (k : ℕ). Some (stored (stored_row c i r) k rows)) (sym (add-one i))

-- columns are equal where each is
pub columns_eq : {c d : Columns} → c.file ≡ d.file → c.peptide ≡ d.peptide → c.label ≡ d.label → c.q ≡ d.q
    → c.rt ≡ d.rt → c ≡ d
columns_eq {c} {d} a b l q t =
    let of : (f p : List ℕ) → Columns = λ f p. record { file = f; peptide = p; label = c.label; q = c.q; rt = c.rt } in
    let rest : ◌≡◌ {A = Columns} (of d.file d.peptide) d = rw (l, q, t) refl in
    ap (λ (f : List ℕ). of f c.peptide) a ∙ ap (of d.file) b ∙ rest

-- a row that is stored leaves the columns as long as they were
pub same_row : {c d : Columns} (i : ℕ) (r : TextRow) → Same c d → Same c (stored_row d i r)
same_row i r s =
    record {
      file = length-set _ _ _ ∙ s.file;
      peptide = length-set _ _ _ ∙ s.peptide;
      label = length-set _ _ _ ∙ s.label;
      q = length-set _ _ _ ∙ s.q;
      rt = length-set _ _ _ ∙ s.rt;
    }

-- what is left to do from the place at, with i rows before it, gives what the whole gives
module _ (t : List ℕ) (at : ℕ) (h : at < length t) where
  some_left : 1 ≤ length (drop at t)
  some_left = rw length-drop (omega arith)

  pub turn_bad : None ≡ line_at at (row_read (drop at t)) → rows_of (drop at t) ≡ None
  turn_bad e = rows_bad (drop at t) some_left (line_none at (row_read (drop at t)) e)

  module _ (l : Line TextRow) (e : Some l ≡ line_at at (row_read (drop at t))) where
    taken : (n : ℕ) × (row_read (drop at t) ≡ value l.value n) × (l.next ≡ at + n)
    taken = line_some at l (row_read (drop at t)) e

    pub turn_further : at < l.next
    turn_further = omega (arith, taken.2, row_takes l.value taken.0 (drop at t) taken.1)

    turn_rows : rows_of (drop at t) ≡ cons_row l.value (rows_of (drop l.next t))
    turn_rows =
        rows_more (drop at t) some_left l.value taken.0 taken.1
        ∙ ap (λ (s : List ℕ). cons_row l.value (rows_of s))
        (drop-drop taken.0 at t ∙ ap (λ (k : ℕ). drop k t) (sym taken.2))

    pub turn_count : (i : ℕ) → count_from i (rows_of (drop at t)) ≡ count_from (i + 1) (rows_of (drop l.next t))
    turn_count i = ap (count_from i) turn_rows ∙ count_cons i l.value (rows_of (drop l.next t))

    pub turn_columns : (c : Columns) (i : ℕ)
        → storing c i (rows_of (drop at t)) ≡ storing (stored_row c i l.value) (i + 1) (rows_of (drop l.next t))
    turn_columns c i = ap (storing c i) turn_rows ∙ storing_cons c i l.value (rows_of (drop l.next t))

-- nothing is left
rows_of_nil : rows_of [] ≡ Some []
unfolding rows_of
rows_of_nil = rows_empty 0

pub rows_end : (t : List ℕ) (at : ℕ) → length t ≤ at → rows_of (drop at t) ≡ Some []
rows_end t at h = ap rows_of (drop_of_length-le t h) ∙ rows_of_nil

-- ---- the whole text
module _ (t : List ℕ) where
  pub parse_long : max_bytes < length t → parse t ≡ None
  unfolding parse
  parse_long h = simp (lt-leb (length t) max_bytes h)

  module _ (l : length t ≤ max_bytes) where
    parse_short : parse t ≡ after_head (head_read t) t
    unfolding parse
    parse_short = simp (le-leb (length t) max_bytes l)

    pub parse_bad : None ≡ line_at 0 (head_read t) → parse t ≡ None
    parse_bad h = parse_short ∙ ap (λ (x : Read Head). after_head x t) (line_none 0 (head_read t) h)

    module _ (g : Line Head) (h : Some g ≡ line_at 0 (head_read t)) where
      pub parse_head : parse t ≡ with_rows g.value (rows_of (drop g.next t))
      parse_head =
          let w = line_some 0 g (head_read t) h in
          parse_short
          ∙ ap (λ (x : Read Head). after_head x t) w.1
          ∙ ap (λ (k : ℕ). with_rows g.value (rows_of (drop k t))) (sym (w.2 ∙ zero-add w.0))

-- the rows are there, and as many as were counted
pub rows_counted : (k : ℕ) (o : Option (List TextRow)) → Some k ≡ option_map length o
    → (rows : List TextRow) × (o ≡ Some rows) × (k ≡ length rows)
rows_counted k None h = let z : ◌≡◌ {A = ℕ} 0 1 = cc in absurd (omega arith)
rows_counted k (Some rows) h = (rows, refl, (cc))

pub rows_missing : (o : Option (List TextRow)) → None ≡ option_map length o → o ≡ None
rows_missing None h = refl
rows_missing (Some rows) h = cc
