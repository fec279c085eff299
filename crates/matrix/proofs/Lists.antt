-- Laws of lists, for any elements: a table, a list made anew from one beside it, one written over another, two
-- zipped, two with the same elements, and one element again and again.
use mathlib.Core.Path.{◌≡◌, refl, sym, ap, ap₂, ◌∙◌}
use mathlib.Core.List.{List, [], ◌∷◌, ◌++◌, map, zip, zip_with, append_assoc, append-nil}
use Prim.Native.Nat.{ℕ, zero, suc, ◌+◌, ◌-◌, ◌≤◌, ◌<◌, zero-le, suc-le-suc}
use native.Mathlib.Nat.{le_of_suc-le-suc, not-suc-le-zero}
use native.Mathlib.Omega.{arith}
use lib.ListN.{length, get_or, set, take, drop, replicate, take-append-drop, drop_of_length-le, length-replicate}
use lib.Seq.{take-length, length-take-le, drop-append-le}
use Rattle.matrix.specs.Lists.{tabulate, zipped, overwritten}
use Rattle.matrix.proofs.Laws.{Wide}

-- ---- a list made anew from one beside it

module _ {A B : Type 0} (g : A → B → A) where
  pub length_zipped : (dst : List A) (src : List B) → length (zipped g dst src) ≡ length dst
  unfolding zipped
  length_zipped [] src = refl
  length_zipped (d ∷ dst) [] = refl
  length_zipped (d ∷ dst) (s ∷ src) = ap suc (length_zipped dst src)

  pub get_d_zipped : (dst : List A) (src : List B) (k : ℕ) (a : A) (b : B) → k < length dst → k < length src
      → get_or (zipped g dst src) k a ≡ g (get_or dst k a) (get_or src k b)
  unfolding zipped
  get_d_zipped [] src k a b h l = absurd (not-suc-le-zero h)
  get_d_zipped (d ∷ dst) [] k a b h l = absurd (not-suc-le-zero l)
  get_d_zipped (d ∷ dst) (s ∷ src) zero a b h l = refl
  get_d_zipped (d ∷ dst) (s ∷ src) (suc k) a b h l =
      get_d_zipped dst src k a b (le_of_suc-le-suc h) (le_of_suc-le-suc l)

  pub drop_zipped : (j : ℕ) (dst : List A) (src : List B)
      → drop j (zipped g dst src) ≡ zipped g (drop j dst) (drop j src)
  unfolding zipped
  drop_zipped zero dst src = refl
  drop_zipped (suc j) [] src = refl
  drop_zipped (suc j) (d ∷ dst) [] = alone (drop j dst)
    where
      alone : (l : List A) → l ≡ zipped g l []
      alone [] = refl
      alone (a ∷ l) = refl
  drop_zipped (suc j) (d ∷ dst) (s ∷ src) = drop_zipped j dst src

  -- the lists' last cells are done by themselves
  pub zipped_snoc : (xs : List A) (x : A) (ys : List B) (y : B) → length xs ≡ length ys
      → zipped g (xs ++ x ∷ []) (ys ++ y ∷ []) ≡ zipped g xs ys ++ g x y ∷ []
  unfolding zipped
  zipped_snoc [] x [] y h = refl
  zipped_snoc [] x (b ∷ ys) y h = absurd (omega arith)
  zipped_snoc (a ∷ xs) x [] y h = absurd (omega arith)
  zipped_snoc (a ∷ xs) x (b ∷ ys) y h = ap {B = List A} (λ r. g a b ∷ r) (zipped_snoc xs x ys y (omega arith))

-- cells that the second list gives alone: the second list, where it is as long
abbrev pub over : {A : Type 0} → A → A → A
over a b = b

pub zipped_over : {A : Type 0} (dst src : List A) → length dst ≡ length src → zipped over dst src ≡ src
unfolding zipped
zipped_over [] [] e = refl
zipped_over [] (s ∷ src) e = absurd (omega arith)
zipped_over (d ∷ dst) [] e = absurd (omega arith)
zipped_over (d ∷ dst) (s ∷ src) e = ap (λ r. s ∷ r) (zipped_over dst src (omega arith))

-- ---- a table

module _ {A : Type 0} where
  pub length_tabulate : (n : ℕ) (f : ℕ → A) → length (tabulate n f) ≡ n
  unfolding tabulate
  length_tabulate zero f = refl
  length_tabulate (suc n) f = ap suc (length_tabulate n (λ i. f (suc i)))

  pub get_d_tabulate : (n : ℕ) (f : ℕ → A) (k : ℕ) (d : A) → k < n → get_or (tabulate n f) k d ≡ f k
  unfolding tabulate
  get_d_tabulate zero f k d h = absurd (not-suc-le-zero h)
  get_d_tabulate (suc n) f zero d h = refl
  get_d_tabulate (suc n) f (suc k) d h = get_d_tabulate n (λ i. f (suc i)) k d (le_of_suc-le-suc h)

  -- two tables are equal by their cells
  pub tabulate_same : (n : ℕ) (f g : ℕ → A) → ((i : ℕ) → i < n → f i ≡ g i)
      → tabulate n f ≡ tabulate n g
  unfolding tabulate
  tabulate_same zero f g h = refl
  tabulate_same (suc n) f g h =
      cc
      (h 0 (suc-le-suc zero-le), tabulate_same n (λ i. f (suc i)) (λ i. g (suc i)) (λ i l. h (suc i) (suc-le-suc l)))

  -- one cell more
  pub tabulate_snoc : (n : ℕ) (f : ℕ → A) → tabulate (suc n) f ≡ tabulate n f ++ f n ∷ []
  unfolding tabulate
  tabulate_snoc zero f = refl
  tabulate_snoc (suc n) f = ap (λ (r : List A). f 0 ∷ r) (tabulate_snoc n (λ i. f (suc i)))

  -- the cells from j on
  pub drop_tabulate : (j n : ℕ) (f : ℕ → A) → drop j (tabulate n f) ≡ tabulate (n - j) (λ k. f (j + k))
  unfolding tabulate
  drop_tabulate zero n f =
      ap (λ (k : ℕ). tabulate k f) {x = n} {y = n - 0} (omega arith)
      ∙ tabulate_same (n - 0) f (λ k. f (0 + k)) (λ k l. ap f {x = k} {y = 0 + k} (omega arith))
  drop_tabulate (suc j) zero f =
      ap (λ (k : ℕ). tabulate k (λ i. f (suc j + i))) {x = 0} {y = 0 - suc j} (omega arith)
  drop_tabulate (suc j) (suc n) f =
      drop_tabulate j n (λ i. f (suc i))
      ∙ ap (λ (k : ℕ). tabulate k (λ i. f (suc (j + i)))) {x = n - j} {y = suc n - suc j} (omega arith)
      ∙ tabulate_same (suc n - suc j) _ _ (λ k l. ap f {x = suc (j + k)} {y = suc j + k} (omega arith))

  -- a list is the table of its cells
  pub tabulate_cells : (n : ℕ) (xs : List A) (d : A) → length xs ≡ n → tabulate n (λ i. get_or xs i d) ≡ xs
  unfolding tabulate
  tabulate_cells zero [] d e = refl
  tabulate_cells zero (x ∷ xs) d e = absurd (omega arith)
  tabulate_cells (suc n) [] d e = absurd (omega arith)
  tabulate_cells (suc n) (x ∷ xs) d e = ap (λ (t : List A). x ∷ t) (tabulate_cells n xs d (omega arith))

  pub tabulate_constant : (n : ℕ) (a : A) → tabulate n (λ i. a) ≡ replicate n a
  unfolding tabulate
  tabulate_constant zero a = refl
  tabulate_constant (suc n) a = ap {B = List A} (λ r. a ∷ r) (tabulate_constant n a)

  -- a function of each cell
  pub map_tabulate : {B : Type 0} (g : A → B) (n : ℕ) (f : ℕ → A)
      → map g (tabulate n f) ≡ tabulate n (λ i. g (f i))
  unfolding tabulate
  map_tabulate g zero f = refl
  map_tabulate {B} g (suc n) f = ap {B = List B} (λ r. g (f 0) ∷ r) (map_tabulate g n (λ i. f (suc i)))

  -- a table with a list beside it that is long enough
  pub zipped_tabulate : {B : Type 0} (g : A → B → A) (b : B) (n : ℕ) (f : ℕ → A) (xs : List B)
      → n ≤ length xs
      → zipped g (tabulate n f) xs ≡ tabulate n (λ i. g (f i) (get_or xs i b))
  unfolding tabulate zipped
  zipped_tabulate g b zero f xs h = refl
  zipped_tabulate g b (suc n) f [] h = absurd (not-suc-le-zero h)
  zipped_tabulate g b (suc n) f (x ∷ xs) h =
      ap {B = List A} (λ r. g (f 0) x ∷ r) (zipped_tabulate g b n (λ i. f (suc i)) xs (le_of_suc-le-suc h))

  pub wide_tabulate : (w n : ℕ) (f : ℕ → List A) → ((i : ℕ) → length (f i) ≡ w) → Wide w (tabulate n f)
  unfolding tabulate
  wide_tabulate w zero f h = tt
  wide_tabulate w (suc n) f h = (h 0, wide_tabulate w n (λ i. f (suc i)) (λ i. h (suc i)))

-- ---- a list written over another, from its first cell on

module _ {A : Type 0} where
  -- one cell more
  pub overwrite_suc : (new old : List A) (k : ℕ) (d : A) → k < length new → k < length old
      → set (take k new ++ drop k old) k (get_or new k d) ≡ take (suc k) new ++ drop (suc k) old
  overwrite_suc [] old k d h l = absurd (not-suc-le-zero h)
  overwrite_suc (x ∷ new) [] k d h l = absurd (not-suc-le-zero l)
  overwrite_suc (x ∷ new) (y ∷ old) zero d h l = refl
  overwrite_suc (x ∷ new) (y ∷ old) (suc k) d h l =
      ap (λ (t : List A). x ∷ t) (overwrite_suc new old k d (le_of_suc-le-suc h) (le_of_suc-le-suc l))

  -- all cells
  pub overwrite_all : (new old : List A) (k : ℕ) → length new ≡ k
      → take k new ++ drop k old ≡ overwritten new old
  overwrite_all new old k e = rw (← e, take-length)

  -- a part that was lent and written comes back in front of the rest
  pub overwrite_front : (new part old : List A) (k : ℕ) → part ≡ new → length part ≡ k
      → part ++ drop k old ≡ overwritten new old
  overwrite_front new part old k e l = rw (← e, l)

  -- a part that was written over, in the whole
  pub overwrite_part : (new old : List A) (k : ℕ) → length new ≤ k → k ≤ length old
      → overwritten new (take k old) ++ drop k old ≡ overwritten new old
  overwrite_part new old k h l =
      let n : ℕ = length new in
      let e : drop n (take k old) ++ drop k old ≡ drop n old =
      sym (drop-append-le n (take k old) (drop k old) (rw (length-take-le k old l) h))
      ∙ ap (drop n) (take-append-drop k old) in
      append_assoc new (drop n (take k old)) (drop k old) ∙ ap (λ (t : List A). new ++ t) e

  -- a list that is written over one of its length
  pub overwrite_whole : (new old : List A) → length new ≡ length old → overwritten new old ≡ new
  overwrite_whole new old e =
      ap (λ (t : List A). new ++ t) (drop_of_length-le old {i = length new} (omega arith)) ∙ append-nil new

-- ---- two lists zipped

module _ {A B C : Type 0} (f : A → B → C) where
  pub length_zip_with : (xs : List A) (ys : List B) → length xs ≤ length ys
      → length (zip_with f xs ys) ≡ length xs
  unfolding zip_with
  length_zip_with [] ys h = refl
  length_zip_with (x ∷ xs) [] h = absurd (not-suc-le-zero h)
  length_zip_with (x ∷ xs) (y ∷ ys) h = ap suc (length_zip_with xs ys (le_of_suc-le-suc h))

  pub get_d_zip_with : (xs : List A) (ys : List B) (k : ℕ) (a : A) (b : B) (c : C) → k < length xs → k < length ys
      → get_or (zip_with f xs ys) k c ≡ f (get_or xs k a) (get_or ys k b)
  unfolding zip_with
  get_d_zip_with [] ys k a b c h l = absurd (not-suc-le-zero h)
  get_d_zip_with (x ∷ xs) [] k a b c h l = absurd (not-suc-le-zero l)
  get_d_zip_with (x ∷ xs) (y ∷ ys) zero a b c h l = refl
  get_d_zip_with (x ∷ xs) (y ∷ ys) (suc k) a b c h l =
      get_d_zip_with xs ys k a b c (le_of_suc-le-suc h) (le_of_suc-le-suc l)

  -- a store in both
  pub zip_with_set : (xs : List A) (ys : List B) (k : ℕ) (x : A) (y : B)
      → zip_with f (set xs k x) (set ys k y) ≡ set (zip_with f xs ys) k (f x y)
  unfolding zip_with
  zip_with_set [] ys k x y = refl
  zip_with_set (a ∷ xs) [] zero x y = refl
  zip_with_set (a ∷ xs) [] (suc k) x y = refl
  zip_with_set (a ∷ xs) (b ∷ ys) zero x y = refl
  zip_with_set (a ∷ xs) (b ∷ ys) (suc k) x y = ap (λ (r : List C). f a b ∷ r) (zip_with_set xs ys k x y)

  -- none beside some
  pub zip_with_none : (xs : List A) → zip_with f xs [] ≡ []
  unfolding zip_with
  zip_with_none [] = refl
  zip_with_none (x ∷ xs) = refl

  -- what follows in the second list does not matter where the first ends before
  pub zip_with_append : (xs : List A) (ys more : List B) → length xs ≤ length ys
      → zip_with f xs (ys ++ more) ≡ zip_with f xs ys
  unfolding zip_with
  zip_with_append [] ys more h = refl
  zip_with_append (x ∷ xs) [] more h = absurd (not-suc-le-zero h)
  zip_with_append (x ∷ xs) (y ∷ ys) more h =
      ap (λ (t : List C). f x y ∷ t) (zip_with_append xs ys more (le_of_suc-le-suc h))

  -- two columns of one list of rows
  pub zip_with_map : {R : Type 0} (g : R → A) (h : R → B) (rows : List R)
      → zip_with f (map g rows) (map h rows) ≡ map (λ r. f (g r) (h r)) rows
  unfolding zip_with
  zip_with_map g h [] = refl
  zip_with_map g h (r ∷ rows) = ap (λ (t : List C). f (g r) (h r) ∷ t) (zip_with_map g h rows)

module _ {A B : Type 0} where
  abbrev pair : A → B → A × B
  pair a b = (a, b)

  pub length_zip : (xs : List A) (ys : List B) → length xs ≤ length ys → length (zip xs ys) ≡ length xs
  unfolding zip
  length_zip xs ys e = length_zip_with pair xs ys e

  pub get_d_zip : (xs : List A) (ys : List B) (k : ℕ) (a : A) (b : B) → k < length xs → k < length ys
      → get_or (zip xs ys) k (a, b) ≡ (get_or xs k a, get_or ys k b)
  unfolding zip
  get_d_zip xs ys k a b h l = get_d_zip_with pair xs ys k a b (a, b) h l

  pub zip_set : (xs : List A) (ys : List B) (k : ℕ) (x : A) (y : B)
      → zip (set xs k x) (set ys k y) ≡ set (zip xs ys) k (x, y)
  unfolding zip
  zip_set xs ys k x y = zip_with_set pair xs ys k x y

-- ---- lists of one length with the same elements

pub same_cells : {A : Type 0} (xs ys : List A) (d : A) → length xs ≡ length ys
    → ((k : ℕ) → k < length xs → get_or xs k d ≡ get_or ys k d) → xs ≡ ys
same_cells [] [] d l h = refl
same_cells [] (y ∷ ys) d l h = absurd (omega arith)
same_cells (x ∷ xs) [] d l h = absurd (omega arith)
same_cells {A} (x ∷ xs) (y ∷ ys) d l h =
    ap₂ (λ (z : A) (zs : List A). z ∷ zs) (h 0 (omega arith))
    (same_cells xs ys d (omega arith) (λ k lt. h (suc k) (omega arith)))

-- ---- one element again and again

module _ {A : Type 0} where
  pub get_d_same : (n k : ℕ) (a : A) → get_or (replicate n a) k a ≡ a
  get_d_same zero k a = refl
  get_d_same (suc n) zero a = refl
  get_d_same (suc n) (suc k) a = get_d_same n k a

  pub take_replicate : (n m : ℕ) (a : A) → n ≤ m → take n (replicate m a) ≡ replicate n a
  take_replicate zero m a h = refl
  take_replicate (suc n) zero a h = absurd (not-suc-le-zero h)
  take_replicate (suc n) (suc m) a h = ap (λ (l : List A). a ∷ l) (take_replicate n m a (le_of_suc-le-suc h))

  pub length_take_replicate : (n m : ℕ) (a : A) → n ≤ m → length (take n (replicate m a)) ≡ n
  length_take_replicate n m a h = ap length (take_replicate n m a h) ∙ length-replicate n a
