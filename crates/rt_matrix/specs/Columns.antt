-- The files' records as columns, a slice for each field: a field that the record gains is added here. Definitions only.
use Rattle.std.specs.Prelude.{ℕ, ◌≤◌, ◌≡◌, Bool, ◌&&◌, leb, length, take, drop, set, Float}
use Rattle.std.specs.Borrow.{MutBor}
use mathlib.Core.List.{List, ◌++◌, map, zip, zip_with}
use Rattle.params.specs.Slice.{MutHeld, Change, change, MutSlice}
use Rattle.matrix.specs.Lists.{overwritten}
use Rattle.rt_matrix.specs.declared.Alignment.{Alignment}
use Rattle.rt_matrix.specs.declared.FileColumns.{FileColumns as FileSlices}

pub record FileColumns : Type 0 where
  pub max_rt : List Float
  pub slope : List Float
  pub intercept : List Float
  pub used : List ℕ
  pub max_rt_exact : List Bool
  pub slope_exact : List Bool
  pub intercept_exact : List Bool

-- the lengths of the columns
pub record FileRoom : Type 0 where
  pub max_rt : ℕ
  pub slope : ℕ
  pub intercept : ℕ
  pub used : ℕ
  pub max_rt_exact : ℕ
  pub slope_exact : ℕ
  pub intercept_exact : ℕ

-- ---- as the parameter of a function that takes the slices together

-- in a `requires`
abbrev pub held_columns : FileSlices → FileColumns
held_columns c =
    record {
      max_rt = c.max_rt.now;
      slope = c.slope.now;
      intercept = c.intercept.now;
      used = c.used.now;
      max_rt_exact = c.max_rt_exact.now;
      slope_exact = c.slope_exact.now;
      intercept_exact = c.intercept_exact.now;
    }

-- in an `ensures`
abbrev pub changed_columns : Change (MutBor FileSlices) → Change FileColumns
changed_columns c = change (held_columns c.entry.now) (held_columns c.exit.now)

-- each slice is the one that was lent
abbrev pub SameNames : (before after : FileSlices) → Type 0
SameNames before after =
    (after.max_rt.ghost_name ≡ before.max_rt.ghost_name)
    × (after.slope.ghost_name ≡ before.slope.ghost_name)
    × (after.intercept.ghost_name ≡ before.intercept.ghost_name)
    × (after.used.ghost_name ≡ before.used.ghost_name)
    × (after.max_rt_exact.ghost_name ≡ before.max_rt_exact.ghost_name)
    × (after.slope_exact.ghost_name ≡ before.slope_exact.ghost_name)
    × (after.intercept_exact.ghost_name ≡ before.intercept_exact.ghost_name)

abbrev pub SameSlices : Change (MutBor FileSlices) → Type 0
SameSlices c = SameNames c.entry.now c.exit.now

-- ---- as the parameters of a function that takes them one by one

-- in a `requires`
abbrev pub file_columns_at : (max_rt slope intercept : MutHeld Float) (used : MutHeld ℕ)
    (max_rt_exact slope_exact intercept_exact : MutHeld Bool) → FileColumns
file_columns_at max_rt slope intercept used max_rt_exact slope_exact intercept_exact =
    record {
      max_rt = max_rt.now;
      slope = slope.now;
      intercept = intercept.now;
      used = used.now;
      max_rt_exact = max_rt_exact.now;
      slope_exact = slope_exact.now;
      intercept_exact = intercept_exact.now;
    }

-- in an `ensures`
abbrev pub file_columns_of : (max_rt slope intercept : MutSlice Float) (used : MutSlice ℕ)
    (max_rt_exact slope_exact intercept_exact : MutSlice Bool) → Change FileColumns
file_columns_of max_rt slope intercept used max_rt_exact slope_exact intercept_exact =
    change
    (file_columns_at max_rt.entry slope.entry intercept.entry used.entry
    max_rt_exact.entry slope_exact.entry intercept_exact.entry)
    (file_columns_at max_rt.exit slope.exit intercept.exit used.exit
    max_rt_exact.exit slope_exact.exit intercept_exact.exit)

-- ---- columns and records

-- the fields of records
abbrev pub columns_of : List Alignment → FileColumns
columns_of records =
    record {
      max_rt = map (λ (a : Alignment). a.max_rt) records;
      slope = map (λ (a : Alignment). a.slope) records;
      intercept = map (λ (a : Alignment). a.intercept) records;
      used = map (λ (a : Alignment). a.used) records;
      max_rt_exact = map (λ (a : Alignment). a.max_rt_exact) records;
      slope_exact = map (λ (a : Alignment). a.slope_exact) records;
      intercept_exact = map (λ (a : Alignment). a.intercept_exact) records;
    }

-- the record of its numbers, a longest time with a slope and an intercept with a count, and of its three flags
abbrev pub record_by : (Float × Float) × (Float × ℕ) → (Bool × Bool) × Bool → Alignment
record_by p e =
    record {
      max_rt = p.0.0;
      slope = p.0.1;
      intercept = p.1.0;
      used = p.1.1;
      max_rt_exact = e.0.0;
      slope_exact = e.0.1;
      intercept_exact = e.1;
    }

-- the records whose fields are these columns
abbrev pub records_of : FileColumns → List Alignment
records_of c =
    zip_with record_by
    (zip (zip c.max_rt c.slope) (zip c.intercept c.used))
    (zip (zip c.max_rt_exact c.slope_exact) c.intercept_exact)

-- ---- column by column

-- a record in the place n
abbrev pub stored_at : ℕ → Alignment → FileColumns → FileColumns
stored_at n a c =
    record {
      max_rt = set c.max_rt n a.max_rt;
      slope = set c.slope n a.slope;
      intercept = set c.intercept n a.intercept;
      used = set c.used n a.used;
      max_rt_exact = set c.max_rt_exact n a.max_rt_exact;
      slope_exact = set c.slope_exact n a.slope_exact;
      intercept_exact = set c.intercept_exact n a.intercept_exact;
    }

-- new cells written over the old ones
abbrev pub written_over : (new old : FileColumns) → FileColumns
written_over new old =
    record {
      max_rt = overwritten new.max_rt old.max_rt;
      slope = overwritten new.slope old.slope;
      intercept = overwritten new.intercept old.intercept;
      used = overwritten new.used old.used;
      max_rt_exact = overwritten new.max_rt_exact old.max_rt_exact;
      slope_exact = overwritten new.slope_exact old.slope_exact;
      intercept_exact = overwritten new.intercept_exact old.intercept_exact;
    }

-- the first n cells
abbrev pub first_of : ℕ → FileColumns → FileColumns
first_of n c =
    record {
      max_rt = take n c.max_rt;
      slope = take n c.slope;
      intercept = take n c.intercept;
      used = take n c.used;
      max_rt_exact = take n c.max_rt_exact;
      slope_exact = take n c.slope_exact;
      intercept_exact = take n c.intercept_exact;
    }

-- cells in front of what is left after the first n
abbrev pub in_front : ℕ → (part whole : FileColumns) → FileColumns
in_front n part whole =
    record {
      max_rt = part.max_rt ++ drop n whole.max_rt;
      slope = part.slope ++ drop n whole.slope;
      intercept = part.intercept ++ drop n whole.intercept;
      used = part.used ++ drop n whole.used;
      max_rt_exact = part.max_rt_exact ++ drop n whole.max_rt_exact;
      slope_exact = part.slope_exact ++ drop n whole.slope_exact;
      intercept_exact = part.intercept_exact ++ drop n whole.intercept_exact;
    }

-- ---- lengths

-- just n cells each
pub record EachOf (n : ℕ) (c : FileColumns) : Type 0 where
  pub max_rt : length c.max_rt ≡ n
  pub slope : length c.slope ≡ n
  pub intercept : length c.intercept ≡ n
  pub used : length c.used ≡ n
  pub max_rt_exact : length c.max_rt_exact ≡ n
  pub slope_exact : length c.slope_exact ≡ n
  pub intercept_exact : length c.intercept_exact ≡ n

-- n cells at least
pub record EachFrom (n : ℕ) (c : FileColumns) : Type 0 where
  pub max_rt : n ≤ length c.max_rt
  pub slope : n ≤ length c.slope
  pub intercept : n ≤ length c.intercept
  pub used : n ≤ length c.used
  pub max_rt_exact : n ≤ length c.max_rt_exact
  pub slope_exact : n ≤ length c.slope_exact
  pub intercept_exact : n ≤ length c.intercept_exact

-- the lengths
abbrev pub file_room : FileColumns → FileRoom
file_room c =
    record {
      max_rt = length c.max_rt;
      slope = length c.slope;
      intercept = length c.intercept;
      used = length c.used;
      max_rt_exact = length c.max_rt_exact;
      slope_exact = length c.slope_exact;
      intercept_exact = length c.intercept_exact;
    }

-- each is n at least: check 3 of the files' records
abbrev pub each_long : ℕ → FileRoom → Bool
each_long n room =
    leb n room.max_rt
    && leb n room.slope
    && leb n room.intercept
    && leb n room.used
    && leb n room.max_rt_exact
    && leb n room.slope_exact
    && leb n room.intercept_exact
