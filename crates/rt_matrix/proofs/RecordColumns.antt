-- The files' records and the columns that they are written over: the place where laws name the fields.
use mathlib.Core.Path.{◌≡◌, refl, sym, ap, ◌∙◌}
use mathlib.Core.Bool.{true, false, ◌&&◌}
use mathlib.Core.List.{List, [], ◌∷◌, ◌++◌, map}
use Prim.Native.Nat.{ℕ, zero, suc, ◌+◌, ◌≤◌, ◌<◌}
use native.Mathlib.Nat.{le_of_suc-le-suc, not-suc-le-zero}
use native.Mathlib.Numerals.{add-one}
use native.Mathlib.Omega.{arith}
use borrow.Author.Tests.{le-leb, leb-true}
use lib.Dec.{leb}
use lib.ListN.{length, get_or, take, drop, set, length-set, length-append, length-drop, length-map, get_or-map}
use lib.Seq.{take_at}
use lib.Ieee.{nan}
use Rattle.status.proofs.Laws.{and_true}
use Rattle.matrix.specs.Lists.{overwritten}
use Rattle.matrix.proofs.Lists.{overwrite_suc, overwrite_all}
use Rattle.rt_matrix.specs.Columns.{
  FileColumns,
  columns_of,
  written_over,
  first_of,
  in_front,
  stored_at,
  EachFrom,
  file_room,
  each_long,
}
use Rattle.rt_matrix.specs.declared.Alignment.{Alignment}

-- what stands past the end of a list of records
abbrev pub no_record : Alignment
no_record =
    record {
      max_rt = nan;
      slope = nan;
      intercept = nan;
      used = 0;
      max_rt_exact = false;
      slope_exact = false;
      intercept_exact = false;
    }

-- ---- records written over columns

-- a field of records of which the first f are written over a column, and one more
field_more : {A : Type 0} (g : Alignment → A) (f : ℕ) (records : List Alignment) (old : List A) → f < length records
    → length records ≤ length old
    → set (take f (map g records) ++ drop f old) f (g (get_or records f no_record))
    ≡ take (f + 1) (map g records) ++ drop (f + 1) old
field_more g f records old h l =
    ap (set (take f (map g records) ++ drop f old) f) (sym (get_or-map g records f no_record))
    ∙ overwrite_suc (map g records) old f (g no_record) (omega (arith, length-map records g)) (omega arith)
    ∙ rw add-one refl

-- a store keeps the lengths
pub stored_from : (n f : ℕ) (a : Alignment) (c : FileColumns) → EachFrom n c → EachFrom n (stored_at f a c)
stored_from n f a c l =
    record {
      max_rt = simp length-set l.max_rt;
      slope = simp length-set l.slope;
      intercept = simp length-set l.intercept;
      used = simp length-set l.used;
      max_rt_exact = simp length-set l.max_rt_exact;
      slope_exact = simp length-set l.slope_exact;
      intercept_exact = simp length-set l.intercept_exact;
    }

-- of the records the first f
abbrev pub some_written : ℕ → List Alignment → FileColumns → FileColumns
some_written f records c = in_front f (first_of f (columns_of records)) c

module _ (records : List Alignment) (c : FileColumns) where
  pub none_written : c ≡ some_written 0 records c
  none_written = refl

  -- one more
  pub written_more : (f : ℕ) → f < length records → EachFrom (length records) c
      → stored_at f (get_or records f no_record) (some_written f records c) ≡ some_written (f + 1) records c
  written_more f h l =
      let max_rt_is = field_more (λ a. a.max_rt) f records c.max_rt h l.max_rt in
      let slope_is = field_more (λ a. a.slope) f records c.slope h l.slope in
      let intercept_is = field_more (λ a. a.intercept) f records c.intercept h l.intercept in
      let used_is = field_more (λ a. a.used) f records c.used h l.used in
      let max_rt_exact_is = field_more (λ a. a.max_rt_exact) f records c.max_rt_exact h l.max_rt_exact in
      let slope_exact_is = field_more (λ a. a.slope_exact) f records c.slope_exact h l.slope_exact in
      let intercept_exact_is = field_more (λ a. a.intercept_exact) f records c.intercept_exact h l.intercept_exact in
      λ k.
      record {
        max_rt = max_rt_is k;
        slope = slope_is k;
        intercept = intercept_is k;
        used = used_is k;
        max_rt_exact = max_rt_exact_is k;
        slope_exact = slope_exact_is k;
        intercept_exact = intercept_exact_is k;
      }

  -- all
  pub all_written : (f : ℕ) → length records ≡ f → some_written f records c ≡ written_over (columns_of records) c
  all_written f e =
      let max_rt_is = overwrite_all (columns_of records).max_rt c.max_rt f (length-map records (λ a. a.max_rt) ∙ e) in
      let slope_is = overwrite_all (columns_of records).slope c.slope f (length-map records (λ a. a.slope) ∙ e) in
      let intercept_is = overwrite_all (columns_of records).intercept c.intercept f (length-map records (λ a. a.intercept) ∙ e) in
      let used_is = overwrite_all (columns_of records).used c.used f (length-map records (λ a. a.used) ∙ e) in
      let max_rt_exact_is = overwrite_all (columns_of records).max_rt_exact c.max_rt_exact f (length-map records (λ a. a.max_rt_exact) ∙ e) in
      let slope_exact_is = overwrite_all (columns_of records).slope_exact c.slope_exact f (length-map records (λ a. a.slope_exact) ∙ e) in
      let intercept_exact_is = overwrite_all (columns_of records).intercept_exact c.intercept_exact f (length-map records (λ a. a.intercept_exact) ∙ e) in
      λ k.
      record {
        max_rt = max_rt_is k;
        slope = slope_is k;
        intercept = intercept_is k;
        used = used_is k;
        max_rt_exact = max_rt_exact_is k;
        slope_exact = slope_exact_is k;
        intercept_exact = intercept_exact_is k;
      }

-- a list that is written over another leaves it as long
overwritten_long : {A : Type 0} (n : ℕ) (new old : List A) → n ≤ length old → n ≤ length (overwritten new old)
overwritten_long n new old h =
    omega (arith, length-append new (drop (length new) old), length-drop (length new) old)

pub written_from : (n : ℕ) (new c : FileColumns) → EachFrom n c → EachFrom n (written_over new c)
written_from n new c l =
    record {
      max_rt = overwritten_long n new.max_rt c.max_rt l.max_rt;
      slope = overwritten_long n new.slope c.slope l.slope;
      intercept = overwritten_long n new.intercept c.intercept l.intercept;
      used = overwritten_long n new.used c.used l.used;
      max_rt_exact = overwritten_long n new.max_rt_exact c.max_rt_exact l.max_rt_exact;
      slope_exact = overwritten_long n new.slope_exact c.slope_exact l.slope_exact;
      intercept_exact = overwritten_long n new.intercept_exact c.intercept_exact l.intercept_exact;
    }

-- a field of a record that was written over a column
pub written_at : {A : Type 0} (g : Alignment → A) (records : List Alignment) (old : List A) (f : ℕ) (d : A) (e : Alignment)
    → f < length records → get_or (overwritten (map g records) old) f d ≡ g (get_or records f e)
written_at g records old f d e h =
    front (map g records) (drop (length (map g records)) old) f d (omega (arith, length-map records g))
    ∙ same_at g records f d e h
  where
    front : {A : Type 0} (xs ys : List A) (f : ℕ) (d : A) → f < length xs → get_or (xs ++ ys) f d ≡ get_or xs f d
    front [] ys f d h = absurd (not-suc-le-zero h)
    front (x ∷ xs) ys zero d h = refl
    front (x ∷ xs) ys (suc f) d h = front xs ys f d (le_of_suc-le-suc h)

    same_at : {A : Type 0} (g : Alignment → A) (rs : List Alignment) (f : ℕ) (d : A) (e : Alignment) → f < length rs
        → get_or (map g rs) f d ≡ g (get_or rs f e)
    same_at g [] f d e h = absurd (not-suc-le-zero h)
    same_at g (r ∷ rs) zero d e h = refl
    same_at g (r ∷ rs) (suc f) d e h = same_at g rs f d e (le_of_suc-le-suc h)

-- ---- parts of columns

-- columns that are long enough for more files
pub from_less : (more n : ℕ) (c : FileColumns) → n ≤ more → EachFrom more c → EachFrom n c
from_less more n c h l =
    record {
      max_rt = omega (arith, l.max_rt);
      slope = omega (arith, l.slope);
      intercept = omega (arith, l.intercept);
      used = omega (arith, l.used);
      max_rt_exact = omega (arith, l.max_rt_exact);
      slope_exact = omega (arith, l.slope_exact);
      intercept_exact = omega (arith, l.intercept_exact);
    }

-- columns that were written over
module _ (n : ℕ) (c : FileColumns) where
  -- the first cells of columns that were written over
  pub first_written : (records : List Alignment) → length records ≡ n
      → first_of n (written_over (columns_of records) c) ≡ columns_of records
  first_written records l =
      let max_rt_is = take_at (columns_of records).max_rt _ n (length-map records (λ a. a.max_rt) ∙ l) in
      let slope_is = take_at (columns_of records).slope _ n (length-map records (λ a. a.slope) ∙ l) in
      let intercept_is = take_at (columns_of records).intercept _ n (length-map records (λ a. a.intercept) ∙ l) in
      let used_is = take_at (columns_of records).used _ n (length-map records (λ a. a.used) ∙ l) in
      let max_rt_exact_is = take_at (columns_of records).max_rt_exact _ n (length-map records (λ a. a.max_rt_exact) ∙ l) in
      let slope_exact_is = take_at (columns_of records).slope_exact _ n (length-map records (λ a. a.slope_exact) ∙ l) in
      let intercept_exact_is = take_at (columns_of records).intercept_exact _ n (length-map records (λ a. a.intercept_exact) ∙ l) in
      λ k.
      record {
        max_rt = max_rt_is k;
        slope = slope_is k;
        intercept = intercept_is k;
        used = used_is k;
        max_rt_exact = max_rt_exact_is k;
        slope_exact = slope_exact_is k;
        intercept_exact = intercept_exact_is k;
      }

-- ---- check 3 of the columns

pub long_columns : (n : ℕ) (c : FileColumns) → each_long n (file_room c) ≡ true → EachFrom n c
long_columns n c e =
    let max_rt = leb n (length c.max_rt) in
    let slope = leb n (length c.slope) in
    let intercept = leb n (length c.intercept) in
    let used = leb n (length c.used) in
    let max_rt_exact = leb n (length c.max_rt_exact) in
    let slope_exact = leb n (length c.slope_exact) in
    let intercept_exact = leb n (length c.intercept_exact) in
    let all = and_true (max_rt && slope && intercept && used && max_rt_exact && slope_exact) intercept_exact e in
    let six = and_true (max_rt && slope && intercept && used && max_rt_exact) slope_exact all.0 in
    let five = and_true (max_rt && slope && intercept && used) max_rt_exact six.0 in
    let four = and_true (max_rt && slope && intercept) used five.0 in
    let line = and_true (max_rt && slope) intercept four.0 in
    let front = and_true max_rt slope line.0 in
    record {
      max_rt = leb-true n (length c.max_rt) front.0;
      slope = leb-true n (length c.slope) front.1;
      intercept = leb-true n (length c.intercept) line.1;
      used = leb-true n (length c.used) four.1;
      max_rt_exact = leb-true n (length c.max_rt_exact) five.1;
      slope_exact = leb-true n (length c.slope_exact) six.1;
      intercept_exact = leb-true n (length c.intercept_exact) all.1;
    }

pub columns_long : (n : ℕ) (c : FileColumns) → EachFrom n c → each_long n (file_room c) ≡ true
columns_long n c l =
    simp (
      le-leb n (length c.max_rt) l.max_rt,
      le-leb n (length c.slope) l.slope,
      le-leb n (length c.intercept) l.intercept,
      le-leb n (length c.used) l.used,
      le-leb n (length c.max_rt_exact) l.max_rt_exact,
      le-leb n (length c.slope_exact) l.slope_exact,
      le-leb n (length c.intercept_exact) l.intercept_exact,
    )
