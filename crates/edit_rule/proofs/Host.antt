-- Demand 3 for a host that passes the peptides that occur: specs/Host.antt says what is supposed and claimed. A number
-- stands at its place, so the places at the two ends rise together and the tables say the same of them.
use mathlib.Core.Path.{◌≡◌, refl, sym, ap, ◌∙◌}
use mathlib.Core.Bool.{Bool, true, false, cond, false≢true}
use mathlib.Core.List.{List, [], ◌∷◌, map}
use Prim.Native.Nat.{ℕ, suc, ◌≤◌, ◌<◌}
use native.Mathlib.Nat.{lt_of_not-le}
use native.Mathlib.Decide.{dec_le}
use native.Mathlib.Omega.{arith}
use lib.Dec.{eqb, ltb}
use lib.ListN.{length, get_or, length-map}
use borrow.Author.Tests.{eqb-true, ltb-true, lt-ltb, le-ltb}
use Rattle.status.specs.Checks.{every}
use Rattle.status.proofs.Laws.{and_true}
use Rattle.feature.specs.Feature.{Row, training}
use Rattle.edits.specs.Edits.{no_row, row_at}
use Rattle.edits.proofs.Edits.{training_kept}
use Rattle.embedding.specs.Count.{how_many, one_of}
use Rattle.run.specs.Fitted.{longest}
use Rattle.run.specs.Call.{rows}
use Rattle.edit_rule.specs.Ends.{passed_at}
use Rattle.edit_rule.specs.Peptides.{Peptide, peptide_at, renumbered, has, SameTraining, SameButNumber}
use Rattle.edit_rule.specs.Host.{rising, place_in, HostEnd, HostEdited, HostUnmoved}
use Rattle.edit_rule.proofs.Shown.{get_d_mapped}
use Rattle.edit_rule.proofs.Renumbered.{every_has, or_second, has_at, training_has, Old, has_old}
use Rattle.edit_rule.proofs.Renumbered.{training_renumbered, longest_renumbered, renumbered_twice}
use Rattle.edit_rule.proofs.Peptides.{renumbered_same, peptides_unmoved}

-- ---- places

-- one number: 1 where it is below p
abbrev counts : ℕ → ℕ → ℕ
counts k p = cond (ltb k p) 1 0

counts_below : (k p : ℕ) → k < p → counts k p ≡ 1
counts_below k p h = rw (lt-ltb k p h)

counts_above : (k p : ℕ) → p ≤ k → counts k p ≡ 0
counts_above k p h = rw (le-ltb k p h)

counts_grows : (k p q : ℕ) → p ≤ q → counts k p ≤ counts k q
counts_grows k p q h = by (dec_le p k)
  where
    by : Dec (p ≤ k) → counts k p ≤ counts k q
    by (yes l) = omega (arith, counts_above k p l)
    by (no l) = let g = lt_of_not-le l in omega (arith, counts_below k p g, counts_below k q (omega arith))

-- of a larger number the place is no smaller
place_grows : (ks : List ℕ) (p q : ℕ) → p ≤ q → place_in ks p ≤ place_in ks q
unfolding how_many
place_grows [] p q h = omega arith
place_grows (k ∷ ks) p q h = omega (arith, counts_grows k p q h, place_grows ks p q h)

-- and it is larger where the smaller number is in the list
place_rises : (ks : List ℕ) (p q : ℕ) → one_of ks p ≡ true → p < q → place_in ks p < place_in ks q
unfolding how_many one_of
place_rises [] p q u h = absurd (false≢true u)
place_rises (k ∷ ks) p q u h = by (place_rises ks p q) (eqb p k) refl
  where
    by : (one_of ks p ≡ true → p < q → place_in ks p < place_in ks q) → (b : Bool) → eqb p k ≡ b
        → place_in (k ∷ ks) p < place_in (k ∷ ks) q
    by rest true e =
        let x = eqb-true p k e in
        omega (arith, counts_above k p (omega arith), counts_below k q (omega arith), place_grows ks p q (omega arith))
    by rest false e =
        let l : place_in ks p < place_in ks q = rest (or_second (eqb p k) (one_of ks p) e u) h in
        omega (arith, counts_grows k p q (omega arith))

-- none is smaller than one below all
first_place : (ks : List ℕ) (p : ℕ) → every (λ x. ltb p x) ks ≡ true → place_in ks p ≡ 0
unfolding how_many every
first_place [] p h = refl
first_place (k ∷ ks) p h =
    let s = and_true (ltb p k) (every (λ x. ltb p x) ks) h in
    omega (arith, counts_above k p (omega (arith, ltb-true p k s.0)), first_place ks p s.1)

-- where numbers rise each stands at its place
record Stands (ks : List ℕ) (p : ℕ) : Type 0 where
  within : place_in ks p < length ks
  there : get_or ks (place_in ks p) 0 ≡ p

stands : (ks : List ℕ) (p : ℕ) → rising ks ≡ true → one_of ks p ≡ true → Stands ks p
unfolding rising one_of how_many
stands [] p r u = absurd (false≢true u)
stands (k ∷ ks) p r u = by (stands ks p) (eqb p k) refl
  where
    s : (every (λ x. ltb k x) ks ≡ true) × (rising ks ≡ true)
    s = and_true (every (λ x. ltb k x) ks) (rising ks) r

    by : (rising ks ≡ true → one_of ks p ≡ true → Stands ks p) → (b : Bool) → eqb p k ≡ b → Stands (k ∷ ks) p
    by rest true e =
        let x = eqb-true p k e in
        let z : place_in (k ∷ ks) p ≡ 0 =
        omega (arith, counts_above k p (omega arith), ap (place_in ks) x, first_place ks k s.0) in
        record { within = omega arith; there = ap (λ (n : ℕ). get_or (k ∷ ks) n 0) z ∙ sym x }
    by rest false e =
        let u' : one_of ks p ≡ true = or_second (eqb p k) (one_of ks p) e u in
        let t = rest s.1 u' in
        let above : k < p = ltb-true k p (every_has (λ x. ltb k x) ks p s.0 u') in
        let z : place_in (k ∷ ks) p ≡ suc (place_in ks p) = omega (arith, counts_below k p above) in
        record { within = omega (arith, t.within); there = ap (λ (n : ℕ). get_or (k ∷ ks) n 0) z ∙ t.there }

-- ---- an end

module _ (host : ℕ → Peptide) (e : HostEnd host) where
  -- from a number to its place
  abbrev place : ℕ → ℕ
  place = place_in e.numbers

  -- the number of a row is among those passed, and stands at its place
  number_listed : (p : ℕ) → has e.found p ≡ true → one_of e.numbers p ≡ true
  number_listed p h = every_has (one_of e.numbers) (map (λ (r : Row). r.peptide) e.found) p e.listed h

  number_stands : (p : ℕ) → has e.found p ≡ true → Stands e.numbers p
  number_stands p h = stands e.numbers p e.sorted (number_listed p h)

  -- what the table says of a row's peptide is what the host says
  says : (p : ℕ) → has e.found p ≡ true → peptide_at (passed_at e.end).table (place p) ≡ host p
  says p h = let s = number_stands p h in e.table (place p) s.within ∙ ap host s.there

  training_placed : training (rows (passed_at e.end)) ≡ map (renumbered place) (training e.found)
  training_placed = ap training e.placed ∙ training_renumbered place e.found

  longest_found : (files : ℕ) → longest files (rows (passed_at e.end)) ≡ longest files e.found
  longest_found files = ap (longest files) e.placed ∙ longest_renumbered place files e.found

  -- the host's number of a peptide that a training row has
  number_of : (p : ℕ) → has (training (rows (passed_at e.end))) p ≡ true → Old place (training e.found) p
  number_of p u =
      has_old place (training e.found) p (ap (λ (rs : List Row). has rs p) (sym training_placed) ∙ u)

  row_count : length (rows (passed_at e.end)) ≡ length e.found
  row_count = ap length e.placed ∙ length-map e.found (renumbered place)

  row_at_lem : (k : ℕ) → k < length e.found
      → row_at (rows (passed_at e.end)) k ≡ renumbered place (row_at e.found k)
  row_at_lem k l =
      ap (λ (rs : List Row). row_at rs k) e.placed ∙ get_d_mapped (renumbered place) e.found k no_row no_row l

-- ---- the two ends

module _ (host : ℕ → Peptide) (a b : HostEnd host) (s : HostEdited a b) where
  found_training : training b.found ≡ training a.found
  found_training = ap training s.edited ∙ training_kept s.edits a.found s.outside

  -- a training row's number, at both ends
  abbrev Trained : ℕ → Type 0
  Trained h = has (training a.found) h ≡ true

  at_a : (h : ℕ) → Trained h → has a.found h ≡ true
  at_a h u = training_has a.found h u

  at_b : (h : ℕ) → Trained h → has b.found h ≡ true
  at_b h u = training_has b.found h (ap (λ (rs : List Row). has rs h) found_training ∙ u)

  -- from a place in a's table to the place in b's
  abbrev number : ℕ → ℕ
  number p = place_in b.numbers (get_or a.numbers p 0)

  number_is : (h : ℕ) → Trained h → number (place_in a.numbers h) ≡ place_in b.numbers h
  number_is h u = ap (place_in b.numbers) (number_stands host a h (at_a h u)).there

  abbrev InTraining : ℕ → Type 0
  InTraining p = has (training (rows (passed_at a.end))) p ≡ true

  number_rises : (p q : ℕ) → InTraining p → InTraining q → p < q → number p < number q
  number_rises p q u w l = by (number_of host a p u) (number_of host a q w)
    where
      by : Old (place_in a.numbers) (training a.found) p → Old (place_in a.numbers) (training a.found) q
          → number p < number q
      by (h, x, e) (k, y, f) =
          let m : number p ≡ place_in b.numbers h = ap number (sym e) ∙ number_is h x in
          let n : number q ≡ place_in b.numbers k = ap number (sym f) ∙ number_is k y in
          let g : place_in b.numbers h < place_in b.numbers k =
          place_rises b.numbers h k (number_listed host b h (at_b h x)) (less (dec_le k h)) in
          omega arith
        where
          less : Dec (k ≤ h) → h < k
          less (yes z) = absurd (omega (arith, place_grows a.numbers k h z))
          less (no z) = lt_of_not-le z

  kept : (p : ℕ) → InTraining p
      → peptide_at (passed_at b.end).table (number p) ≡ peptide_at (passed_at a.end).table p
  kept p u = by (number_of host a p u)
    where
      by : Old (place_in a.numbers) (training a.found) p
          → peptide_at (passed_at b.end).table (number p) ≡ peptide_at (passed_at a.end).table p
      by (h, x, e) =
          ap (peptide_at (passed_at b.end).table) (ap number (sym e) ∙ number_is h x)
          ∙ says host b h (at_b h x)
          ∙ sym (says host a h (at_a h x))
          ∙ ap (peptide_at (passed_at a.end).table) e

  same_training : SameTraining (passed_at a.end) (passed_at b.end)
  same_training =
      let t = s.longest_times in
      record {
        number = number;
        training_rows =
            training_placed host b
            ∙ ap (map (renumbered (place_in b.numbers))) found_training
            ∙ renumbered_twice (place_in b.numbers) number (place_in a.numbers) (training a.found)
            (λ h u. sym (number_is h u))
            ∙ sym (ap (map (renumbered number)) (training_placed host a));
        rises = number_rises;
        kept = kept;
        longest_times =
            record {
              files = t.files;
              longests =
                  longest_found host b (passed_at b.end).files
                  ∙ t.longests
                  ∙ sym (longest_found host a (passed_at a.end).files);
            };
      }

  same_row : (k l : ℕ) → k < length a.found → l < length b.found → row_at a.found k ≡ row_at b.found l
      → SameButNumber (passed_at a.end).table (passed_at b.end).table
      (row_at (rows (passed_at a.end)) k) (row_at (rows (passed_at b.end)) l)
  same_row k l hk hl e =
      rw (row_at_lem host a k hk, row_at_lem host b l hl)
      (renumbered_same
      (passed_at a.end).table (passed_at b.end).table (place_in a.numbers) (place_in b.numbers)
      (row_at a.found k) (row_at b.found l) e
      (says host b (row_at b.found l).peptide (has_at b.found l hl)
      ∙ ap (λ (r : Row). host r.peptide) (sym e)
      ∙ sym (says host a (row_at a.found k).peptide (has_at a.found k hk))))

  -- demand 3, by the host's rows
  pub host_unmoved : HostUnmoved a b
  host_unmoved =
      let u = peptides_unmoved a.end b.end same_training in
      record {
        training_rows = found_training;
        fitted_numbers = u.fitted_numbers;
        untouched = λ k l hk hl e.
            u.untouched k l (omega (arith, row_count host a)) (omega (arith, row_count host b))
            (same_row k l hk hl e);
        first_end = u.first_end;
        second_end = u.second_end;
      }
