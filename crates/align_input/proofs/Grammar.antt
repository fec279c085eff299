-- The reader takes exactly the texts of the grammar, each as its input.
use mathlib.Core.Path.{◌≡◌, refl, sym, ap, ◌∙◌, subst}
use mathlib.Core.Logic.{◌↔◌}
use mathlib.Core.List.{List, [], ◌∷◌, ◌++◌, map, flatten, append_assoc, append-nil}
use Rattle.std.specs.Prelude.{Option, None, Some}
use Prim.Native.Nat.{ℕ, zero, suc, ◌≤◌, ◌<◌, ◌^◌}
use native.Mathlib.Nat.{le_refl}
use native.Mathlib.Omega.{arith}
use lib.ListN.{length, drop, length-append}
use lib.Seq.{drop-append_seam}
use lib.IntN.{ℤ}
use lib.Signed.{mag}
use lib.Dec.{leb}
use borrow.Author.Tests.{le-leb, leb-true}
use Rattle.text.specs.Decimal.{decimal_of}
use Rattle.text.specs.Reader.{Read, value, malformed, give}
use Rattle.text.specs.Line.{line, line_of}
use Rattle.text.proofs.Cases.{by_bool, some_none}
use Rattle.text.proofs.Lines.{Reads, Continues, then_continues, give_continues}
use Rattle.text.proofs.Numbers.{decimal_line_reads, signed_line_reads, hex_line_reads}
use Rattle.align_input.specs.declared.TextRow.{TextRow}
use Rattle.align_input.specs.Input.{
  Input,
  RowInRange,
  Each,
  nil,
  cons,
  InRange,
  row_text,
  render,
  max_u32,
  max_bytes,
  files_key,
  peptides_key,
  file_key,
  peptide_key,
  label_key,
  q_key,
  rt_key,
}
use Rattle.align_input.specs.declared.Head.{Head}
use Rattle.align_input.specs.Parse.{
  row_read,
  on_row,
  cons_row,
  rows_from,
  rows_of,
  head_read,
  with_rows,
  after_head,
  parse,
}

-- ---- a row: its five lines, one after the other
abbrev Nothing : Type 0
Nothing = Unit {0}

abbrev Parts : Type 0
Parts = ((((Nothing × ℕ) × ℕ) × ℤ) × ℕ) × ℕ

abbrev made : Parts → TextRow
made c = record { file = c.0.0.0.0.1; peptide = c.0.0.0.1; label = c.0.0.1; q = c.0.1; rt = c.1 }

abbrev parts : TextRow → Parts
parts r = (((((tt, r.file), r.peptide), r.label), r.q), r.rt)

abbrev Ok : TextRow → Type 0
Ok r =
    (r.file ≤ max_u32) × ((r.peptide ≤ max_u32) × ((mag r.label < 2 ^ 31) × ((r.q < 16 ^ 8) × ((r.rt < 16 ^ 8) × Nothing))))

row_continues : Continues {C = Nothing} (λ u. row_read) (λ r. tt) row_text Ok (λ s. Nothing)
unfolding row_read row_text flatten line_of
row_continues =
    then_continues _ _ _ (decimal_line_reads file_key refl max_u32) _ _ (λ r. r.file) _ _ _
    (then_continues _ _ _ (decimal_line_reads peptide_key refl max_u32) _ _ (λ r. r.peptide) _ _ _
    (then_continues _ _ _ (signed_line_reads label_key refl) _ _ (λ r. r.label) _ _ _
    (then_continues _ _ _ (hex_line_reads q_key refl 8 (omega arith) (omega arith)) _ _ (λ r. r.q) _ _ _
    (then_continues _ _ _ (hex_line_reads rt_key refl 8 (omega arith) (omega arith)) (λ c t. give (made (c, t))) (λ r. (parts r).0) (λ r. r.rt) _ _ _
    (give_continues made parts (λ r. refl) (λ c. refl))))))

pub row_reads : Reads row_read row_text RowInRange
row_reads =
    record {
      complete = λ r s o. row_continues.complete r s (o.file, (o.peptide, (o.label, (o.q, (o.rt, tt))))) tt;
      sound = λ r n s h.
          let w = row_continues.sound tt r n s h in
          let o = w.1 in
          (record { file = o.0; peptide = o.1.0; label = o.1.1.0; q = o.1.1.1.0; rt = o.1.1.1.1.0 }, w.3, w.4);
    }

pub row_some : (r : TextRow) → 1 ≤ length (row_text r)
unfolding row_text flatten
row_some r = omega arith

-- ---- rows
pub rows_empty : (k : ℕ) → rows_from k [] ≡ Some []
unfolding rows_from
rows_empty zero = refl
rows_empty (suc k) = refl

pub rows_step : (k : ℕ) (s : List ℕ) → 1 ≤ length s
    → rows_from (suc k) s ≡ on_row (row_read s) (λ r n. cons_row r (rows_from k (drop n s)))
unfolding rows_from
rows_step k [] h = absurd (omega arith)
rows_step k (c ∷ s) h = refl

pub rows_row : (k : ℕ) (r : TextRow) (n : ℕ) (s : List ℕ) → 1 ≤ length s → row_read s ≡ value r n
    → rows_from (suc k) s ≡ cons_row r (rows_from k (drop n s))
rows_row k r n s h e =
    rows_step k s h ∙ ap (λ (x : Read TextRow). on_row x (λ r n. cons_row r (rows_from k (drop n s)))) e

abbrev rows_text : List TextRow → List ℕ
rows_text rows = flatten (map row_text rows)

rows_complete : (rows : List TextRow) → Each RowInRange rows → (k : ℕ) → length (rows_text rows) ≤ k
    → rows_from k (rows_text rows) ≡ Some rows
unfolding flatten
rows_complete [] o k h = rows_empty k
rows_complete (r ∷ rows) (cons o os) zero h =
    absurd (omega (arith, row_some r, length-append (row_text r) (rows_text rows)))
rows_complete (r ∷ rows) (cons o os) (suc k) h =
    let n = length (row_text r) in
    let l = length-append (row_text r) (rows_text rows) in
    let p = row_some r in
    rows_row k r n (row_text r ++ rows_text rows) (omega arith) (row_reads.complete r (rows_text rows) o)
    ∙ ap (λ (t : List ℕ). cons_row r (rows_from k t)) (drop-append_seam (row_text r) (rows_text rows))
    ∙ ap (cons_row r) (rows_complete rows os k (omega arith))

abbrev Right : List ℕ → List TextRow → Type 0
Right s rows = Each RowInRange rows × (s ≡ rows_text rows)

right_nil : (rows : List TextRow) → Some [] ≡ Some rows → Right [] rows
unfolding flatten
right_nil rows h = let e : [] ≡ rows = cc in subst (λ (rs : List TextRow). Right [] rs) e (nil, refl)

right_cons : (r : TextRow) (s : List ℕ) (n : ℕ) (rest rows : List TextRow) → row_read s ≡ value r n
    → Right (drop n s) rest → Some (r ∷ rest) ≡ Some rows → Right s rows
unfolding flatten
right_cons r s n rest rows h w e =
    let x = row_reads.sound r n s h in
    let p : r ∷ rest ≡ rows = cc in
    subst (λ (rs : List TextRow). Right s rs) p
    (cons x.0 w.0, x.2 ∙ ap (λ (t : List ℕ). row_text r ++ t) w.1)

module _ (k : ℕ) (s : List ℕ) (rows : List TextRow)
    (later : (t : List ℕ) (rs : List TextRow) → rows_from k t ≡ Some rs → Right t rs) where
  rows_next : (r : TextRow) (n : ℕ) → row_read s ≡ value r n → (o : Option (List TextRow))
      → rows_from k (drop n s) ≡ o → cons_row r o ≡ Some rows → Right s rows
  rows_next r n e None f g = some_none (Some rows) rows refl (sym g)
  rows_next r n e (Some rest) f g = right_cons r s n rest rows e (later (drop n s) rest f) g

  rows_first : (x : Read TextRow) → row_read s ≡ x
      → on_row x (λ r n. cons_row r (rows_from k (drop n s))) ≡ Some rows → Right s rows
  rows_first malformed e g = some_none (Some rows) rows refl (sym g)
  rows_first (value r n) e g = rows_next r n e (rows_from k (drop n s)) refl g

rows_sound : (k : ℕ) (s : List ℕ) (rows : List TextRow) → rows_from k s ≡ Some rows → Right s rows
unfolding rows_from
rows_sound zero [] rows h = right_nil rows h
rows_sound zero (c ∷ s) rows h = some_none (Some rows) rows refl (sym h)
rows_sound (suc k) [] rows h = right_nil rows h
rows_sound (suc k) (c ∷ s) rows h =
    rows_first k (c ∷ s) rows (λ t rs. rows_sound k t rs) (row_read (c ∷ s)) refl h

rows_of_sound : (s : List ℕ) (rows : List TextRow) → rows_of s ≡ Some rows → Right s rows
unfolding rows_of
rows_of_sound s rows h = rows_sound (length s) s rows h

-- ---- the two lines before them
head_text : Head → List ℕ
head_text h = flatten (line files_key (decimal_of h.files) ∷ line peptides_key (decimal_of h.peptides) ∷ [])

abbrev HeadOk : Head → Type 0
HeadOk h = (h.files ≤ max_u32) × ((h.peptides ≤ max_u32) × Nothing)

head_continues : Continues {C = Nothing} (λ u. head_read) (λ h. tt) head_text HeadOk (λ s. Nothing)
unfolding head_read head_text flatten line_of
head_continues =
    then_continues _ _ _ (decimal_line_reads files_key refl max_u32) _ _ (λ h. h.files) _ _ _
    (then_continues _ _ _ (decimal_line_reads peptides_key refl max_u32) (λ c p. give (record { files = c.1; peptides = p })) (λ h. (tt, h.files)) (λ h. h.peptides) _ _ _
    (give_continues (λ c. record { files = c.0.1; peptides = c.1 }) (λ h. ((tt, h.files), h.peptides)) (λ h. refl) (λ c. refl)))

head_reads : Reads head_read head_text HeadOk
head_reads =
    record {
      complete = λ h s o. head_continues.complete h s o tt;
      sound = λ h n s e. let w = head_continues.sound tt h n s e in (w.1, w.3, w.4);
    }

-- the text of an input: that of its head and then that of its rows
render_is : (d : Input)
    → render d ≡ head_text (record { files = d.files; peptides = d.peptides }) ++ rows_text d.rows
unfolding render head_text flatten
render_is d =
    let a = line files_key (decimal_of d.files) in
    let b = line peptides_key (decimal_of d.peptides) in
    sym
    (append_assoc a (b ++ []) (rows_text d.rows) ∙ ap (λ (t : List ℕ). a ++ (t ++ rows_text d.rows)) (append-nil b))

-- ---- the whole text
module _ (d : Input) (o : InRange d) (l : length (render d) ≤ max_bytes) where
  abbrev h : Head
  h = record { files = d.files; peptides = d.peptides }

  abbrev rest : List ℕ
  rest = rows_text d.rows

  whole : after_head (head_read (head_text h ++ rest)) (head_text h ++ rest) ≡ Some d
  unfolding rows_of
  whole =
      ap (λ (x : Read Head). after_head x (head_text h ++ rest))
      (head_reads.complete h rest (o.files, (o.peptides, tt)))
      ∙ ap (λ (t : List ℕ). with_rows h (rows_of t)) (drop-append_seam (head_text h) rest)
      ∙ ap (with_rows h) (rows_complete d.rows o.rows (length rest) (le_refl (length rest)))

  pub parse_complete : parse (render d) ≡ Some d
  unfolding parse
  parse_complete =
      simp (le-leb (length (render d)) max_bytes l)
      (subst (λ (t : List ℕ). after_head (head_read t) t ≡ Some d) (sym (render_is d)) whole)

module _ (t : List ℕ) (d : Input) where
  abbrev Whole : Type 0
  Whole = (t ≡ render d) × InRange d

  rows_whole : (h : Head) (n : ℕ) → head_read t ≡ value h n → (o : Option (List TextRow))
      → rows_of (drop n t) ≡ o → with_rows h o ≡ Some d → Whole
  rows_whole h n e None f g = some_none (Some d) d refl (sym g)
  rows_whole h n e (Some rows) f g =
      let w = head_reads.sound h n t e in
      let x = rows_of_sound (drop n t) rows f in
      let p : record { files = h.files; peptides = h.peptides; rows = rows } ≡ d = cc in
      let made : Input = record { files = h.files; peptides = h.peptides; rows = rows } in (
        w.2 ∙ ap (λ (s : List ℕ). head_text h ++ s) x.1 ∙ sym (render_is made) ∙ ap render p,
        subst InRange p (record { files = w.0.0; peptides = w.0.1.0; rows = x.0 }),
      )

  head_whole : (x : Read Head) → head_read t ≡ x → after_head x t ≡ Some d → Whole
  head_whole malformed e g = some_none (Some d) d refl (sym g)
  head_whole (value h n) e g = rows_whole h n e (rows_of (drop n t)) refl g

  parse_sound : parse t ≡ Some d → (t ≡ render d) × InRange d × (length t ≤ max_bytes)
  unfolding parse
  parse_sound h =
      by_bool (leb (length t) max_bytes)
      (λ b. let w = head_whole (head_read t) refl (simp b at h) in (w.0, w.1, leb-true (length t) max_bytes b))
      (λ b. some_none (parse t) d h (simp b))

  -- a text is read, as d, exactly if it is the text of d, d is in range and the text is not too long
  pub grammar : (parse t ≡ Some d) ↔ ((t ≡ render d) × InRange d × (length t ≤ max_bytes))
  grammar = (
    parse_sound,
    λ w. ap parse w.0 ∙ parse_complete d w.1 (subst (λ (s : List ℕ). length s ≤ max_bytes) w.0 w.2),
  )
