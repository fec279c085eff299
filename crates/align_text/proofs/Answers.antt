-- The answer to a text, by what was read of it: malformed, past a limit, or columns.
use mathlib.Core.Path.{◌≡◌, refl, sym, ap, ◌∙◌}
use mathlib.Core.Bool.{Bool, true, false, ◌&&◌, cond}
use mathlib.Core.List.{List, map}
use Rattle.std.specs.Prelude.{Option, None, Some}
use Rattle.std.specs.Option.{option_map}
use Prim.Native.Nat.{ℕ, ◌≤◌}
use native.Mathlib.Omega.{arith}
use lib.Dec.{leb}
use lib.IntN.{ℤ}
use lib.ListN.{length, take, length-map, length-take}
use lib.Seq.{sets, length-sets, sets-eq, take_at}
use lib.Ieee.{Float}
use borrow.Author.Tests.{leb-true}
use Rattle.status.proofs.Laws.{and_true}
use Rattle.status.specs.Status.{malformed, past_limit}
use Rattle.retention_alignment.specs.Call as Call
use Rattle.align_input.specs.declared.TextRow.{TextRow}
use Rattle.align_input.specs.declared.Sizes.{Sizes}
use Rattle.align_input.specs.Input.{Input}
use Rattle.align_input.specs.Parse.{parse}
use Rattle.align_input.specs.Columns.{Columns, sizes_of, q_of, rt_of, stored}
use Rattle.align_output.specs.Output.{status_text}
use Rattle.align_text.specs.Ready.{Ready}
use Rattle.align_text.specs.AlignText.{
  max_files,
  max_peptides,
  max_rows,
  within_limits,
  columns_of,
  columns_text,
  input_text_with,
  answer_with,
  align_text_with,
  align_text,
  columns_status,
  input_status_with,
  status_with,
  text_status_with,
  text_status,
}

pub malformed_is : (t : List ℕ) → None ≡ option_map sizes_of (parse t) → malformed ≡ text_status t
unfolding text_status_with
malformed_is t h = go (parse t) h
  where
    go : (o : Option Input) → None ≡ option_map sizes_of o → malformed ≡ status_with max_files o
    go None e = refl
    go (Some d) e = let z : ◌≡◌ {A = ℕ} 0 1 = cc in absurd (omega arith)

input_eq : {fs fs' ps ps' : List ℕ} {l l' : List ℤ} {q q' t t' : List Float} {f f' p p' : ℕ}
    → fs ≡ fs' → ps ≡ ps' → l ≡ l' → q ≡ q' → t ≡ t' → f ≡ f' → p ≡ p'
    → ◌≡◌ {A = Call.Input} (record { file = fs; peptide = ps; label = l; q = q; rt = t; files = f; peptides = p }) (record { file = fs'; peptide = ps'; label = l'; q = q'; rt = t'; files = f'; peptides = p' })
input_eq a b c d e f g = cc

-- what was read
pub record Given (t : List ℕ) (f p k : ℕ) : Type 0 where
  pub input : Input
  pub parsed : parse t ≡ Some input
  pub files : f ≡ input.files
  pub peptides : p ≡ input.peptides
  pub rows : k ≡ length input.rows

pub given_by : (t : List ℕ) (z : Sizes) → Some z ≡ option_map sizes_of (parse t) → Given t z.files z.peptides z.rows
given_by t z h = go (parse t) refl h
  where
    go : (o : Option Input) → parse t ≡ o → Some z ≡ option_map sizes_of o → Given t z.files z.peptides z.rows
    go None e g = let y : ◌≡◌ {A = ℕ} 0 1 = cc in absurd (omega arith)
    go (Some d) e g =
        let x : z ≡ sizes_of d = cc in
        record {
          input = d;
          parsed = e;
          files = ap (λ (y : Sizes). y.files) x;
          peptides = ap (λ (y : Sizes). y.peptides) x;
          rows = ap (λ (y : Sizes). y.rows) x;
        }

-- the first cells, once vs is stored there
pub first_cells : {A : Type 0} (k : ℕ) (z l vs : List A) → l ≡ sets z 0 vs → length vs ≡ k → k ≤ length l
    → take k l ≡ vs
first_cells k z l vs e n room =
    let m : length z ≡ length l = sym (ap length e ∙ length-sets z 0 vs) in
    ap (take k) (e ∙ sets-eq vs z 0 (omega arith)) ∙ take_at vs _ k n

-- what the limits say
pub record Within (f p k : ℕ) : Type 0 where
  pub some_files : 1 ≤ f
  pub files : f ≤ max_files
  pub peptides : p ≤ max_peptides
  pub rows : k ≤ max_rows

pub within : (f p k : ℕ) → within_limits max_files f p k ≡ true → Within f p k
within f p k h =
    let a = and_true (leb 1 f && leb f max_files && leb p max_peptides) (leb k max_rows) h in
    let b = and_true (leb 1 f && leb f max_files) (leb p max_peptides) a.0 in
    let c = and_true (leb 1 f) (leb f max_files) b.0 in
    record {
      some_files = leb-true 1 f c.0;
      files = leb-true f max_files c.1;
      peptides = leb-true p max_peptides b.1;
      rows = leb-true k max_rows a.1;
    }

module _ (t : List ℕ) (f p k : ℕ) (g : Given t f p k) where
  abbrev d : Input
  d = g.input

  within_is : within_limits max_files d.files d.peptides (length d.rows) ≡ within_limits max_files f p k
  within_is =
      ap (λ (x : ℕ). within_limits max_files x d.peptides (length d.rows)) (sym g.files)
      ∙ ap (λ (x : ℕ). within_limits max_files f x (length d.rows)) (sym g.peptides)
      ∙ ap (within_limits max_files f p) (sym g.rows)

  answer_is : align_text t ≡ cond (within_limits max_files f p k) (columns_text (columns_of d)) (status_text past_limit)
  unfolding align_text_with input_text_with
  answer_is =
      ap (answer_with max_files) g.parsed
      ∙ ap (λ (b : Bool). cond b (columns_text (columns_of d)) (status_text past_limit)) within_is

  status_is : text_status t ≡ cond (within_limits max_files f p k) (columns_status (columns_of d)) past_limit
  unfolding text_status_with input_status_with columns_status
  status_is = ap (status_with max_files) g.parsed ∙ ap (λ (b : Bool). cond b (columns_status (columns_of d)) past_limit) within_is

  pub limited_is : within_limits max_files f p k ≡ false → past_limit ≡ text_status t
  limited_is h = sym (status_is ∙ ap (λ (b : Bool). cond b (columns_status (columns_of d)) past_limit) h)

-- columns with a cell for each of n rows
pub record Long (n : ℕ) (c : Columns) : Type 0 where
  pub file : n ≤ length c.file
  pub peptide : n ≤ length c.peptide
  pub label : n ≤ length c.label
  pub q : n ≤ length c.q
  pub rt : n ≤ length c.rt

-- rows that are stored leave a column as long as it was
as_long : {A : Type 0} (k : ℕ) (get : TextRow → A) (rows : List TextRow) (z l : List A) → l ≡ sets z 0 (map get rows)
    → k ≤ max_rows → max_rows ≤ length z → k ≤ length l
as_long k get rows z l e h room = omega (arith, ap length e, length-sets z 0 (map get rows))

-- the first rows of columns, as the alignment takes them
abbrev pub front : Sizes → Columns → Call.Input
front z c =
    record {
      file = take z.rows c.file;
      peptide = take z.rows c.peptide;
      label = take z.rows c.label;
      q = take z.rows c.q;
      rt = take z.rows c.rt;
      files = z.files;
      peptides = z.peptides;
    }

-- the columns that the rows of a text within the limits were stored in
pub record RowsIn (t : List ℕ) (z : Sizes) (c : Columns) : Type 0 where
  pub file : z.rows ≡ length (take z.rows c.file)
  pub peptide : z.rows ≡ length (take z.rows c.peptide)
  pub label : z.rows ≡ length (take z.rows c.label)
  pub q : z.rows ≡ length (take z.rows c.q)
  pub rt : z.rows ≡ length (take z.rows c.rt)
  pub ready : Ready (front z c)
  pub status : columns_status (front z c) ≡ text_status t
  pub text : columns_text (front z c) ≡ align_text t

-- columns that have a cell for each row have the text's number and text
module _ (t : List ℕ) (z : Sizes) (g : Given t z.files z.peptides z.rows)
    (h : within_limits max_files z.files z.peptides z.rows ≡ true) (zs c : Columns) (e : c ≡ stored zs 0 g.input.rows)
    (long : Long z.rows c) where
  counted : {A : Type 0} (get : TextRow → A) → length (map get g.input.rows) ≡ z.rows
  counted get = length-map g.input.rows get ∙ sym g.rows

  -- the columns' first cells are the rows
  columns_is : front z c ≡ columns_of g.input
  unfolding columns_of
  columns_is =
      input_eq
      (first_cells z.rows zs.file c.file _ (ap (λ (x : Columns). x.file) e) (counted (λ r. r.file)) long.file)
      (first_cells z.rows zs.peptide c.peptide _ (ap (λ (x : Columns). x.peptide) e) (counted (λ r. r.peptide)) long.peptide)
      (first_cells z.rows zs.label c.label _ (ap (λ (x : Columns). x.label) e) (counted (λ r. r.label)) long.label)
      (first_cells z.rows zs.q c.q _ (ap (λ (x : Columns). x.q) e) (counted q_of) long.q)
      (first_cells z.rows zs.rt c.rt _ (ap (λ (x : Columns). x.rt) e) (counted rt_of) long.rt)
      g.files g.peptides

  pub aligned_is : (columns_status (front z c) ≡ text_status t) × (columns_text (front z c) ≡ align_text t)
  aligned_is = (
    ap columns_status columns_is
        ∙ sym (status_is t z.files z.peptides z.rows g ∙ ap (λ (b : Bool). cond b (columns_status (columns_of g.input)) past_limit) h),
    ap columns_text columns_is
        ∙ sym (answer_is t z.files z.peptides z.rows g ∙ ap (λ (b : Bool). cond b (columns_text (columns_of g.input)) (status_text past_limit)) h),
  )

module _ (t : List ℕ) (z : Sizes) (a : Some z ≡ option_map sizes_of (parse t))
    (h : within_limits max_files z.files z.peptides z.rows ≡ true) (zs c : Columns)
    (stores : (d : Input) → parse t ≡ Some d → c ≡ stored zs 0 d.rows) (room : Long max_rows zs) where
  abbrev g : Given t z.files z.peptides z.rows
  g = given_by t z a

  abbrev rows : List TextRow
  rows = g.input.rows

  e : c ≡ stored zs 0 rows
  e = stores g.input g.parsed

  abbrev fits : Within z.files z.peptides z.rows
  fits = within z.files z.peptides z.rows h

  long : Long z.rows c
  long =
      record {
        file = as_long z.rows (λ r. r.file) rows zs.file c.file (ap (λ (x : Columns). x.file) e) fits.rows room.file;
        peptide = as_long z.rows (λ r. r.peptide) rows zs.peptide c.peptide (ap (λ (x : Columns). x.peptide) e) fits.rows room.peptide;
        label = as_long z.rows (λ r. r.label) rows zs.label c.label (ap (λ (x : Columns). x.label) e) fits.rows room.label;
        q = as_long z.rows q_of rows zs.q c.q (ap (λ (x : Columns). x.q) e) fits.rows room.q;
        rt = as_long z.rows rt_of rows zs.rt c.rt (ap (λ (x : Columns). x.rt) e) fits.rows room.rt;
      }

  pub rows_in : RowsIn t z c
  rows_in =
      let lf : z.rows ≡ length (take z.rows c.file) = omega (arith, length-take z.rows c.file, long.file) in
      let lp : z.rows ≡ length (take z.rows c.peptide) = omega (arith, length-take z.rows c.peptide, long.peptide) in
      let ll : z.rows ≡ length (take z.rows c.label) = omega (arith, length-take z.rows c.label, long.label) in
      let lq : z.rows ≡ length (take z.rows c.q) = omega (arith, length-take z.rows c.q, long.q) in
      let lt : z.rows ≡ length (take z.rows c.rt) = omega (arith, length-take z.rows c.rt, long.rt) in
      record {
        file = lf;
        peptide = lp;
        label = ll;
        q = lq;
        rt = lt;
        ready =
            record {
              peptide = sym lp ∙ lf;
              label = sym ll ∙ lf;
              q = sym lq ∙ lf;
              rt = sym lt ∙ lf;
              some_files = fits.some_files;
              files = fits.files;
              peptides = fits.peptides;
              rows = omega (arith, lf, fits.rows);
            };
        status = (aligned_is t z g h zs c e long).0;
        text = (aligned_is t z g h zs c e long).1;
      }
