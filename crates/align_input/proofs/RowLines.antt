-- A row and the two lines before the rows, read line by line: what is left to read from the place reached gives what
-- the whole gives.
use Rattle.std.proofs.Common.{◌≡◌, ℕ, ◌<◌, ◌^◌, List, Some, None, drop, ◌∙◌, arith}
use lib.IntN.{ℤ}
use lib.Signed.{mag}
use Rattle.text.specs.declared.line.Line.{Line}
use Rattle.text.specs.Reader.{Reader, give, ◌>>=◌}
use Rattle.text.specs.Line.{line_of, decimal_line, signed_line, hex_line}
use Rattle.text.specs.Answer.{line_at}
use Rattle.text.proofs.Numbers.{signed_line_reads, hex_line_reads}
use Rattle.text.proofs.Places.{line_some, chain_none, chain_some, given}
use Rattle.align_input.specs.declared.TextRow.{TextRow}
use Rattle.align_input.specs.declared.Head.{Head}
use Rattle.align_input.specs.Input.{files_key, peptides_key, file_key, peptide_key, label_key, q_key, rt_key, max_u32}
use Rattle.align_input.specs.Parse.{row_read, head_read}

-- a line of eight hex digits at a place gives a pattern of 32 bits
pub pattern_lt : (t key : List ℕ) (at : ℕ) (l : Line ℕ) → line_of key ≡ None
    → Some l ≡ line_at at (hex_line key 8 (drop at t)) → l.value < 2 ^ 32
pattern_lt t key at l k h =
    let w = line_some at l (hex_line key 8 (drop at t)) h in
    ((hex_line_reads key k 8 (omega arith) (omega arith)).sound l.value w.0 (drop at t) w.1).0

-- a line of a signed number gives one of 32 bits
pub label_lt : (t key : List ℕ) (at : ℕ) (l : Line ℤ) → line_of key ≡ None
    → Some l ≡ line_at at (signed_line key (drop at t)) → mag l.value < 2 ^ 31
label_lt t key at l k h =
    let w = line_some at l (signed_line key (drop at t)) h in
    ((signed_line_reads key k).sound l.value w.0 (drop at t) w.1).0

-- ---- a row: what is left to read after one line, after two, and so on
abbrev rest5 : ℕ → ℕ → ℤ → ℕ → ℕ → Reader TextRow
rest5 f p l q t = give (record { file = f; peptide = p; label = l; q = q; rt = t })

abbrev rest4 : ℕ → ℕ → ℤ → ℕ → Reader TextRow
rest4 f p l q = hex_line rt_key 8 >>= rest5 f p l q

abbrev rest3 : ℕ → ℕ → ℤ → Reader TextRow
rest3 f p l = hex_line q_key 8 >>= rest4 f p l

abbrev rest2 : ℕ → ℕ → Reader TextRow
rest2 f p = signed_line label_key >>= rest3 f p

abbrev rest1 : ℕ → Reader TextRow
rest1 f = decimal_line peptide_key max_u32 >>= rest2 f

module _ (t : List ℕ) (at : ℕ) where
  pub no_file : None ≡ line_at at (decimal_line file_key max_u32 (drop at t)) → None ≡ line_at at (row_read (drop at t))
  unfolding row_read
  no_file h = chain_none t (decimal_line file_key max_u32) rest1 at h

  module _ (f : Line ℕ) (h1 : Some f ≡ line_at at (decimal_line file_key max_u32 (drop at t))) where
    after1 : line_at f.next (rest1 f.value (drop f.next t)) ≡ line_at at (row_read (drop at t))
    unfolding row_read
    after1 = chain_some t (decimal_line file_key max_u32) rest1 at f h1

    pub no_peptide : None ≡ line_at f.next (decimal_line peptide_key max_u32 (drop f.next t))
        → None ≡ line_at at (row_read (drop at t))
    no_peptide h = chain_none t (decimal_line peptide_key max_u32) (rest2 f.value) f.next h ∙ after1

    module _ (p : Line ℕ) (h2 : Some p ≡ line_at f.next (decimal_line peptide_key max_u32 (drop f.next t))) where
      after2 : line_at p.next (rest2 f.value p.value (drop p.next t)) ≡ line_at at (row_read (drop at t))
      after2 = chain_some t (decimal_line peptide_key max_u32) (rest2 f.value) f.next p h2 ∙ after1

      pub no_label : None ≡ line_at p.next (signed_line label_key (drop p.next t))
          → None ≡ line_at at (row_read (drop at t))
      no_label h = chain_none t (signed_line label_key) (rest3 f.value p.value) p.next h ∙ after2

      module _ (l : Line ℤ) (h3 : Some l ≡ line_at p.next (signed_line label_key (drop p.next t))) where
        after3 : line_at l.next (rest3 f.value p.value l.value (drop l.next t)) ≡ line_at at (row_read (drop at t))
        after3 = chain_some t (signed_line label_key) (rest3 f.value p.value) p.next l h3 ∙ after2

        pub no_q : None ≡ line_at l.next (hex_line q_key 8 (drop l.next t)) → None ≡ line_at at (row_read (drop at t))
        no_q h = chain_none t (hex_line q_key 8) (rest4 f.value p.value l.value) l.next h ∙ after3

        module _ (q : Line ℕ) (h4 : Some q ≡ line_at l.next (hex_line q_key 8 (drop l.next t))) where
          after4 : line_at q.next (rest4 f.value p.value l.value q.value (drop q.next t))
              ≡ line_at at (row_read (drop at t))
          after4 = chain_some t (hex_line q_key 8) (rest4 f.value p.value l.value) l.next q h4 ∙ after3

          pub no_rt : None ≡ line_at q.next (hex_line rt_key 8 (drop q.next t))
              → None ≡ line_at at (row_read (drop at t))
          no_rt h = chain_none t (hex_line rt_key 8) (rest5 f.value p.value l.value q.value) q.next h ∙ after4

          pub whole_row : (r : Line ℕ) → Some r ≡ line_at q.next (hex_line rt_key 8 (drop q.next t))
              → Some (record { value = record { file = f.value; peptide = p.value; label = l.value; q = q.value; rt = r.value }; next = r.next })
              ≡ line_at at (row_read (drop at t))
          whole_row r h5 =
              given r.next _ (drop r.next t)
              ∙ chain_some t (hex_line rt_key 8) (rest5 f.value p.value l.value q.value) q.next r h5
              ∙ after4

-- ---- the two lines before the rows
abbrev later2 : ℕ → ℕ → Reader Head
later2 f p = give (record { files = f; peptides = p })

abbrev later1 : ℕ → Reader Head
later1 f = decimal_line peptides_key max_u32 >>= later2 f

module _ (t : List ℕ) where
  pub no_files : None ≡ line_at 0 (decimal_line files_key max_u32 t) → None ≡ line_at 0 (head_read t)
  unfolding head_read
  no_files h = chain_none t (decimal_line files_key max_u32) later1 0 h

  module _ (f : Line ℕ) (h1 : Some f ≡ line_at 0 (decimal_line files_key max_u32 t)) where
    after_files : line_at f.next (later1 f.value (drop f.next t)) ≡ line_at 0 (head_read t)
    unfolding head_read
    after_files = chain_some t (decimal_line files_key max_u32) later1 0 f h1

    pub no_peptides : None ≡ line_at f.next (decimal_line peptides_key max_u32 (drop f.next t))
        → None ≡ line_at 0 (head_read t)
    no_peptides h = chain_none t (decimal_line peptides_key max_u32) (later2 f.value) f.next h ∙ after_files

    pub whole_head : (p : Line ℕ) → Some p ≡ line_at f.next (decimal_line peptides_key max_u32 (drop f.next t))
        → Some (record { value = record { files = f.value; peptides = p.value }; next = p.next }) ≡ line_at 0 (head_read t)
    whole_head p h2 =
        given p.next _ (drop p.next t)
        ∙ chain_some t (decimal_line peptides_key max_u32) (later2 f.value) f.next p h2
        ∙ after_files
