-- Reading a text of the align program. That it takes exactly the texts of the grammar, each as its input, is proved
-- (`proofs/Grammar.antt`). Definitions only.
use Rattle.std.specs.Prelude.{ℕ, zero, suc, cond, List, [], ◌∷◌, leb, length, drop}
use Rattle.std.specs.Prelude.{Option, None, Some}
use Rattle.text.specs.Reader.{Read, value, malformed, Reader, give, ◌>>=◌}
use Rattle.text.specs.Line.{decimal_line, signed_line, hex_line}
use Rattle.align_input.specs.declared.TextRow.{TextRow}
use Rattle.align_input.specs.declared.Head.{Head}
use Rattle.align_input.specs.Input.{
  Input,
  files_key,
  peptides_key,
  file_key,
  peptide_key,
  label_key,
  q_key,
  rt_key,
  max_u32,
  max_bytes,
}

-- the five lines of a row
unfoldable pub row_read : Reader TextRow
unfolding decimal_line signed_line hex_line
row_read = do
  f ← decimal_line file_key max_u32
  p ← decimal_line peptide_key max_u32
  l ← signed_line label_key
  q ← hex_line q_key 8
  t ← hex_line rt_key 8
  give record { file = f; peptide = p; label = l; q = q; rt = t }

abbrev pub on_row : Read TextRow → (TextRow → ℕ → Option (List TextRow)) → Option (List TextRow)
on_row malformed f = None
on_row (value r n) f = f r n

abbrev pub cons_row : TextRow → Option (List TextRow) → Option (List TextRow)
cons_row r None = None
cons_row r (Some rows) = Some (r ∷ rows)

-- the rows of the rest of a text, to its end, of which there are at most k
unfoldable pub rows_from : ℕ → List ℕ → Option (List TextRow)
unfolding row_read
rows_from zero [] = Some []
rows_from zero (c ∷ s) = None
rows_from (suc k) [] = Some []
rows_from (suc k) (c ∷ s) = on_row (row_read (c ∷ s)) (λ r n. cons_row r (rows_from k (drop n (c ∷ s))))

-- the rows of the rest of a text: a row takes a byte or more
unfoldable pub rows_of : List ℕ → Option (List TextRow)
unfolding rows_from
rows_of s = rows_from (length s) s

-- the two lines before the rows
unfoldable pub head_read : Reader Head
unfolding decimal_line
head_read = do
  f ← decimal_line files_key max_u32
  p ← decimal_line peptides_key max_u32
  give record { files = f; peptides = p }

abbrev pub with_rows : Head → Option (List TextRow) → Option Input
with_rows h None = None
with_rows h (Some rows) = Some (record { files = h.files; peptides = h.peptides; rows = rows })

abbrev pub after_head : Read Head → List ℕ → Option Input
after_head malformed t = None
after_head (value h n) t = with_rows h (rows_of (drop n t))

-- the input that a text is the text of
unfoldable pub parse : List ℕ → Option Input
unfolding head_read rows_of
parse t = cond (leb (length t) max_bytes) (after_head (head_read t) t) None
