-- What a function does to a listing of a row's cells. Definitions only.
use Rattle.std.specs.Prelude.{◌≡◌, List, ℕ, ◌+◌, ◌≤◌, Float, length}
use Rattle.embedding.specs.declared.listing.Listing.{Listing}
use Rattle.embedding.specs.Listing.{Appended}

-- there is room for k entries more
abbrev pub HasRoom : ℕ → Listing → Type 0
HasRoom k a = (a.len + k ≤ length a.places.now) × (a.len + k ≤ length a.values.now)

-- the same slices are lent, as long as they were
pub record IsLent (a b : Listing) : Type 0 where
  pub same_places : b.places.ghost_name ≡ a.places.ghost_name
  pub same_values : b.values.ghost_name ≡ a.values.ghost_name
  pub places_length : length b.places.now ≡ length a.places.now
  pub values_length : length b.values.now ≡ length a.values.now

-- a block of cells, the first of which is at place `at` of the row, is listed behind what was listed
abbrev pub Listed : ℕ → List Float → Listing → Listing → Type 0
Listed at cells a b = Appended at cells a.len b.len a.places.now b.places.now a.values.now b.values.now
