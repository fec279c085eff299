-- Columns of one length as one list of records: its cells, a record stored in it, and its columns again. Laws name the
-- fields here and in `RecordColumns`.
use mathlib.Core.Path.{◌≡◌, refl, sym, ap, ap₂, ◌∙◌}
use mathlib.Core.Bool.{Bool, false}
use mathlib.Core.List.{List, ◌++◌, map, zip, zip_with}
use Prim.Native.Nat.{ℕ, ◌<◌}
use native.Mathlib.Omega.{arith}
use lib.ListN.{length, get_or, drop, set, length-map, get_or-map}
use lib.Seq.{length-take-le}
use lib.Ieee.{Float, nan}
use Rattle.matrix.proofs.Lists.{
  length_zip_with,
  get_d_zip_with,
  zip_with_set,
  length_zip,
  get_d_zip,
  zip_set,
  same_cells,
}
use Rattle.rt_matrix.specs.Columns.{
  FileColumns,
  columns_of,
  record_by,
  records_of,
  stored_at,
  written_over,
  first_of,
  in_front,
  EachOf,
  EachFrom,
}
use Rattle.rt_matrix.specs.declared.Alignment.{Alignment}
use Rattle.rt_matrix.proofs.RecordColumns.{no_record}

-- the record at a place
abbrev pub record_at : FileColumns → ℕ → Alignment
record_at c f =
    record {
      max_rt = get_or c.max_rt f nan;
      slope = get_or c.slope f nan;
      intercept = get_or c.intercept f nan;
      used = get_or c.used f 0;
      max_rt_exact = get_or c.max_rt_exact f false;
      slope_exact = get_or c.slope_exact f false;
      intercept_exact = get_or c.intercept_exact f false;
    }

-- two columns of n cells side by side
module _ {A B : Type 0} (n : ℕ) (xs : List A) (ys : List B) (hx : length xs ≡ n) (hy : length ys ≡ n) where
  pair_long : length (zip xs ys) ≡ n
  pair_long = length_zip xs ys (omega arith) ∙ hx

  pair_at : (f : ℕ) (x : A) (y : B) → f < n → get_or (zip xs ys) f (x, y) ≡ (get_or xs f x, get_or ys f y)
  pair_at f x y h = get_d_zip xs ys f x y (omega arith) (omega arith)

module _ (c : FileColumns) where
  -- the columns of the numbers, and those of the flags
  abbrev numbers : List ((Float × Float) × (Float × ℕ))
  numbers = zip (zip c.max_rt c.slope) (zip c.intercept c.used)

  abbrev flags : List ((Bool × Bool) × Bool)
  flags = zip (zip c.max_rt_exact c.slope_exact) c.intercept_exact

  pub records_set : (f : ℕ) (a : Alignment) → records_of (stored_at f a c) ≡ set (records_of c) f a
  records_set f a =
      ap₂ (zip_with record_by)
      (ap₂ zip
      (zip_set c.max_rt c.slope f a.max_rt a.slope)
      (zip_set c.intercept c.used f a.intercept a.used)
      ∙ zip_set (zip c.max_rt c.slope) (zip c.intercept c.used) f _ _)
      (ap (λ (l : List (Bool × Bool)). zip l (set c.intercept_exact f a.intercept_exact))
      (zip_set c.max_rt_exact c.slope_exact f a.max_rt_exact a.slope_exact)
      ∙ zip_set (zip c.max_rt_exact c.slope_exact) c.intercept_exact f _ _)
      ∙ zip_with_set record_by numbers flags f _ _

  module _ (n : ℕ) (e : EachOf n c) where
    lines_long : length (zip c.max_rt c.slope) ≡ n
    lines_long = pair_long n c.max_rt c.slope e.max_rt e.slope

    counts_long : length (zip c.intercept c.used) ≡ n
    counts_long = pair_long n c.intercept c.used e.intercept e.used

    exacts_long : length (zip c.max_rt_exact c.slope_exact) ≡ n
    exacts_long = pair_long n c.max_rt_exact c.slope_exact e.max_rt_exact e.slope_exact

    numbers_long : length numbers ≡ n
    numbers_long = pair_long n (zip c.max_rt c.slope) (zip c.intercept c.used) lines_long counts_long

    flags_long : length flags ≡ n
    flags_long = pair_long n (zip c.max_rt_exact c.slope_exact) c.intercept_exact exacts_long e.intercept_exact

    pub length_records : length (records_of c) ≡ n
    length_records =
        length_zip_with record_by numbers flags (omega (arith, numbers_long, flags_long)) ∙ numbers_long

    numbers_at : (f : ℕ) → f < n
        → get_or numbers f ((nan, nan), (nan, 0))
        ≡ ((get_or c.max_rt f nan, get_or c.slope f nan), (get_or c.intercept f nan, get_or c.used f 0))
    numbers_at f h =
        pair_at n (zip c.max_rt c.slope) (zip c.intercept c.used) lines_long counts_long f (nan, nan) (nan, 0) h
        ∙ ap₂ (λ (p : Float × Float) (q : Float × ℕ). (p, q))
        (pair_at n c.max_rt c.slope e.max_rt e.slope f nan nan h)
        (pair_at n c.intercept c.used e.intercept e.used f nan 0 h)

    flags_at : (f : ℕ) → f < n
        → get_or flags f ((false, false), false)
        ≡ ((get_or c.max_rt_exact f false, get_or c.slope_exact f false), get_or c.intercept_exact f false)
    flags_at f h =
        pair_at n (zip c.max_rt_exact c.slope_exact) c.intercept_exact exacts_long e.intercept_exact f
        (false, false) false h
        ∙ ap (λ (p : Bool × Bool). (p, get_or c.intercept_exact f false))
        (pair_at n c.max_rt_exact c.slope_exact e.max_rt_exact e.slope_exact f false false h)

    pub records_at : (f : ℕ) (d : Alignment) → f < n → get_or (records_of c) f d ≡ record_at c f
    records_at f d h =
        get_d_zip_with record_by numbers flags f ((nan, nan), (nan, 0)) ((false, false), false) d
        (omega (arith, numbers_long))
        (omega (arith, flags_long))
        ∙ ap₂ record_by (numbers_at f h) (flags_at f h)

    -- a field of all records is the column whose cells are that field
    column_is : {A : Type 0} (g : Alignment → A) (column : List A) → length column ≡ n
        → ((f : ℕ) → g (record_at c f) ≡ get_or column f (g no_record))
        → map g (records_of c) ≡ column
    column_is g column l cell =
        let long : length (map g (records_of c)) ≡ n = length-map (records_of c) g ∙ length_records in
        same_cells (map g (records_of c)) column (g no_record) (long ∙ sym l)
        (λ f h.
        get_or-map g (records_of c) f no_record
        ∙ ap g (records_at f no_record (omega (arith, long)))
        ∙ cell f)

    -- the columns of records that were made of columns of one length
    pub columns_are : columns_of (records_of c) ≡ c
    columns_are =
        let max_rt_is = column_is (λ a. a.max_rt) c.max_rt e.max_rt (λ f. refl) in
        let slope_is = column_is (λ a. a.slope) c.slope e.slope (λ f. refl) in
        let intercept_is = column_is (λ a. a.intercept) c.intercept e.intercept (λ f. refl) in
        let used_is = column_is (λ a. a.used) c.used e.used (λ f. refl) in
        let max_rt_exact_is = column_is (λ a. a.max_rt_exact) c.max_rt_exact e.max_rt_exact (λ f. refl) in
        let slope_exact_is = column_is (λ a. a.slope_exact) c.slope_exact e.slope_exact (λ f. refl) in
        let intercept_exact_is =
        column_is (λ a. a.intercept_exact) c.intercept_exact e.intercept_exact (λ f. refl) in
        λ k.
        record {
          max_rt = max_rt_is k;
          slope = slope_is k;
          intercept = intercept_is k;
          used = used_is k;
          max_rt_exact = max_rt_exact_is k;
          slope_exact = slope_exact_is k;
          intercept_exact = intercept_exact_is k;
        }

-- columns that have n cells at least: their first n, and back in front of the rest
module _ (n : ℕ) (c : FileColumns) where
  pub first_each : EachFrom n c → EachOf n (first_of n c)
  first_each l =
      record {
        max_rt = length-take-le n c.max_rt l.max_rt;
        slope = length-take-le n c.slope l.slope;
        intercept = length-take-le n c.intercept l.intercept;
        used = length-take-le n c.used l.used;
        max_rt_exact = length-take-le n c.max_rt_exact l.max_rt_exact;
        slope_exact = length-take-le n c.slope_exact l.slope_exact;
        intercept_exact = length-take-le n c.intercept_exact l.intercept_exact;
      }

  pub in_front_lem : (part : FileColumns) (records : List Alignment) → EachOf n part → records_of part ≡ records
      → in_front n part c ≡ written_over (columns_of records) c
  in_front_lem part records e w =
      let same : part ≡ columns_of records = sym (columns_are part n e) ∙ ap columns_of w in
      let max_rt_is = ap (λ k. part.max_rt ++ drop k c.max_rt) (sym e.max_rt) in
      let slope_is = ap (λ k. part.slope ++ drop k c.slope) (sym e.slope) in
      let intercept_is = ap (λ k. part.intercept ++ drop k c.intercept) (sym e.intercept) in
      let used_is = ap (λ k. part.used ++ drop k c.used) (sym e.used) in
      let max_rt_exact_is = ap (λ k. part.max_rt_exact ++ drop k c.max_rt_exact) (sym e.max_rt_exact) in
      let slope_exact_is = ap (λ k. part.slope_exact ++ drop k c.slope_exact) (sym e.slope_exact) in
      let intercept_exact_is = ap (λ k. part.intercept_exact ++ drop k c.intercept_exact) (sym e.intercept_exact) in
      let over : in_front n part c ≡ written_over part c =
      λ k.
      record {
        max_rt = max_rt_is k;
        slope = slope_is k;
        intercept = intercept_is k;
        used = used_is k;
        max_rt_exact = max_rt_exact_is k;
        slope_exact = slope_exact_is k;
        intercept_exact = intercept_exact_is k;
      } in
      over ∙ ap (λ (d : FileColumns). written_over d c) same
