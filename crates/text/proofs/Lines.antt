-- Lines and readers both ways.
use mathlib.Core.Path.{◌≡◌, refl, sym, ap, ◌∙◌, subst}
use mathlib.Core.Bool.{true, false}
use mathlib.Core.List.{List, [], ◌∷◌, ◌++◌, append_assoc}
use Rattle.std.specs.Prelude.{Option, None, Some}
use Prim.Native.Nat.{ℕ, suc, ◌+◌}
use native.Mathlib.Omega.{arith}
use native.Mathlib.Numerals.{add-one}
use lib.Dec.{eqb}
use lib.ListN.{length, drop, length-append}
use lib.Seq.{drop-append_seam, append_snoc, drop-drop}
use borrow.Author.Tests.{eqb-true, eq-eqb}
use Rattle.text.specs.Reader.{Read, value, malformed, Reader, further, onward, ◌>>=◌, give}
use Rattle.text.specs.Line.{longer_by, line_of, starts_with, keyed, first_line}
use Rattle.float.proofs.Order.{and_true}
use Rattle.text.proofs.Cases.{by_bool, by_option, some_none}

-- ---- the first line
longer_none : (c : ℕ) (o : Option (List ℕ)) → longer_by c o ≡ None → o ≡ None
longer_none c None h = refl
longer_none c (Some l) h = some_none (Some (c ∷ l)) (c ∷ l) refl h

-- c is no LF, and there is none in l
clean_cons : (c : ℕ) (l : List ℕ) → line_of (c ∷ l) ≡ None → (eqb c 10 ≡ false) × (line_of l ≡ None)
unfolding line_of
clean_cons c l h =
    by_bool (eqb c 10) (λ t. some_none (line_of (c ∷ l)) [] (simp t) h)
    (λ t. (t, longer_none c (line_of l) (simp t at h)))

pub line_of_lem : (l s : List ℕ) → line_of l ≡ None → line_of (l ++ 10 ∷ s) ≡ Some l
unfolding line_of
line_of_lem [] s h = refl
line_of_lem (c ∷ l) s h = let d = clean_cons c l h in simp (d.0, line_of_lem l s d.1)

pub clean_append : (k l : List ℕ) → line_of k ≡ None → line_of l ≡ None → line_of (k ++ l) ≡ None
unfolding line_of
clean_append [] l h g = g
clean_append (c ∷ k) l h g = let d = clean_cons c k h in simp (d.0, clean_append k l d.1 g)

pub line_is : (s l : List ℕ) → line_of s ≡ Some l → s ≡ l ++ 10 ∷ drop (suc (length l)) s
unfolding line_of
line_is [] l h = some_none None l h refl
line_is (c ∷ s) l h =
    by_bool (eqb c 10)
    (λ t.
    let e : [] ≡ l = cc in
    subst (λ (m : List ℕ). c ∷ s ≡ m ++ 10 ∷ drop (suc (length m)) (c ∷ s)) e
    (ap (λ (x : ℕ). x ∷ s) (eqb-true c 10 t)))
    (λ t.
    by_option (line_of s) (λ o. some_none (line_of (c ∷ s)) l h (simp (t, o)))
    (λ m o.
    let e : c ∷ m ≡ l = cc in
    subst (λ (m : List ℕ). c ∷ s ≡ m ++ 10 ∷ drop (suc (length m)) (c ∷ s)) e
    (ap (λ (x : List ℕ). c ∷ x) (line_is s m o))))

-- ---- a key
pub starts_append : (key s : List ℕ) → starts_with key (key ++ s) ≡ true
unfolding starts_with
starts_append [] s = refl
starts_append (k ∷ key) s = simp (eq-eqb k k refl, starts_append key s)

pub starts_is : (key s : List ℕ) → starts_with key s ≡ true → s ≡ key ++ drop (length key) s
unfolding starts_with
starts_is [] s h = refl
starts_is (k ∷ key) [] h = let z : ◌≡◌ {A = ℕ} 0 1 = cc in absurd (omega arith)
starts_is (k ∷ key) (c ∷ s) h =
    let t = and_true (eqb c k) (starts_with key s) h in
    ap (λ (x : ℕ). x ∷ s) (eqb-true c k t.0) ∙ ap (λ (x : List ℕ). k ∷ x) (starts_is key s t.1)

-- ---- what a reader reads, both ways

-- read takes the texts of the values that are Ok, each as its value, and no other text
pub record Spells {A : Type 0} (read : List ℕ → Option A) (text : A → List ℕ) (Ok : A → Type 0) : Type 0 where
  pub complete : (a : A) → Ok a → read (text a) ≡ Some a
  pub sound : (a : A) (s : List ℕ) → read s ≡ Some a → Ok a × (s ≡ text a)
  -- such a text has no LF
  pub clean : (a : A) → Ok a → line_of (text a) ≡ None

-- read takes off the front of a text the texts of the values that are Ok, each as its value, and nothing else
pub record Reads {A : Type 0} (read : Reader A) (text : A → List ℕ) (Ok : A → Type 0) : Type 0 where
  pub complete : (a : A) (s : List ℕ) → Ok a → read (text a ++ s) ≡ value a (length (text a))
  pub sound : (a : A) (n : ℕ) (s : List ℕ) → read s ≡ value a n
      → Ok a × (n ≡ length (text a)) × (s ≡ text a ++ drop n s)

module _ {A : Type 0} (read : List ℕ → Option A) (text : A → List ℕ) (Ok : A → Type 0) (key : List ℕ)
    (k : line_of key ≡ None) (r : Spells read text Ok) where
  keyed_sound : (a : A) (s : List ℕ) → keyed key read s ≡ Some a → Ok a × (s ≡ key ++ text a)
  unfolding keyed
  keyed_sound a s h =
      by_bool (starts_with key s)
      (λ t. let w = r.sound a (drop (length key) s) (simp t at h) in (w.0, starts_is key s t ∙ ap (λ (x : List ℕ). key ++ x) w.1))
      (λ t. some_none (keyed key read s) a h (simp t))

  pub keyed_spells : Spells (keyed key read) (λ a. key ++ text a) Ok
  unfolding keyed
  keyed_spells =
      record {
        complete = λ a o. simp (starts_append key (text a), drop-append_seam key (text a)) (r.complete a o);
        sound = keyed_sound;
        clean = λ a o. clean_append key (text a) k (r.clean a o);
      }

pub value_malformed : {A P : Type 0} (a : A) (n : ℕ) → malformed ≡ value a n → P
value_malformed a n h = let z : ◌≡◌ {A = ℕ} 0 1 = cc in absurd (omega arith)

-- what the first line is, where a value is read from it
first_sound : {A : Type 0} (read : List ℕ → Option A) (a : A) (n : ℕ) (s : List ℕ)
    → first_line read s ≡ value a n
    → (l : List ℕ) × (line_of s ≡ Some l) × (read l ≡ Some a) × (n ≡ length l + 1)
unfolding first_line
first_sound read a n s h =
    by_option (line_of s) (λ o. value_malformed a n (simp o at h))
    (λ l o.
    by_option (read l) (λ p. value_malformed a n (simp (o, p) at h))
    (λ b p.
    let e : value b (length l + 1) ≡ value a n = simp (o, p) at h in
    (l, o, (cc), (cc))))

module _ {A : Type 0} (read : List ℕ → Option A) (text : A → List ℕ) (Ok : A → Type 0)
    (r : Spells read text Ok) where
  first_complete : (a : A) (s : List ℕ) → Ok a
      → first_line read (text a ++ (10 ∷ []) ++ s) ≡ value a (length (text a ++ (10 ∷ [])))
  unfolding first_line
  first_complete a s o =
      simp
      (append_snoc (text a) 10 s, line_of_lem (text a) s (r.clean a o), r.complete a o, length-append (text a) (10 ∷ []))

  pub first_reads : Reads (first_line read) (λ a. text a ++ (10 ∷ [])) Ok
  first_reads =
      record {
        complete = first_complete;
        sound = λ a n s h.
            let f = first_sound read a n s h in
            let w = r.sound a f.0 f.2 in (
              w.0,
              f.3 ∙ ap (λ (x : List ℕ). length x + 1) w.1 ∙ sym (length-append (text a) (10 ∷ [])),
              line_is s f.0 f.1
                  ∙ ap (λ (k : ℕ). f.0 ++ 10 ∷ drop k s) (sym (f.3 ∙ add-one (length f.0)))
                  ∙ ap (λ (x : List ℕ). x ++ 10 ∷ drop n s) w.1
                  ∙ sym (append_snoc (text a) 10 (drop n s)),
            );
      }

-- ---- a reader and then another
bind_sound : {A B : Type 0} (r : Reader A) (f : A → Reader B) (b : B) (k : ℕ) (s : List ℕ)
    → (r >>= f) s ≡ value b k
    → (a : A) × (n : ℕ) × (m : ℕ) × (r s ≡ value a n) × (f a (drop n s) ≡ value b m) × (k ≡ n + m)
bind_sound {A} r f b k s = go (r s) refl
  where
    more : (a : A) (n : ℕ) → r s ≡ value a n → (x : Read _) → f a (drop n s) ≡ x
        → further n x ≡ value b k
        → (a : A) × (n : ℕ) × (m : ℕ) × (r s ≡ value a n) × (f a (drop n s) ≡ value b m) × (k ≡ n + m)
    more a n e (value c m) g h = (a, n, m, e, (cc), (cc))
    more a n e malformed g h = value_malformed b k h

    go : (x : Read A) → r s ≡ x → onward x f s ≡ value b k
        → (a : A) × (n : ℕ) × (m : ℕ) × (r s ≡ value a n) × (f a (drop n s) ≡ value b m) × (k ≡ n + m)
    go (value a n) e h = more a n e (f a (drop n s)) refl h
    go malformed e h = value_malformed b k h

bind_complete : {A B : Type 0} (r : Reader A) (f : A → Reader B) (a : A) (b : B) (n m : ℕ) (s : List ℕ)
    → r s ≡ value a n → f a (drop n s) ≡ value b m → (r >>= f) s ≡ value b (n + m)
bind_complete r f a b n m s h g = simp (h, g)

-- f makes of each part of a value that is Ok a reader of the rest of that value's text, where what comes after it may
-- follow
pub record Continues {C B : Type 0} (f : C → Reader B) (part : B → C) (text : B → List ℕ) (Ok : B → Type 0) (After : List ℕ → Type 0) : Type 0 where
  pub complete : (b : B) (s : List ℕ) → Ok b → After s → f (part b) (text b ++ s) ≡ value b (length (text b))
  pub sound : (c : C) (b : B) (n : ℕ) (s : List ℕ) → f c s ≡ value b n
      → (part b ≡ c) × Ok b × After (drop n s) × (n ≡ length (text b)) × (s ≡ text b ++ drop n s)

-- one part more, read first
module _ {A B C : Type 0} (r : Reader A) (head : A → List ℕ) (OkA : A → Type 0) (reads : Reads r head OkA)
    (f : C → A → Reader B) (outer : B → C) (part : B → A) (text : B → List ℕ) (Ok : B → Type 0) (After : List ℕ → Type 0)
    (rest : Continues {C = C × A} (λ c. f c.0 c.1) (λ b. (outer b, part b)) text Ok After) where
  then_complete : (b : B) (s : List ℕ) → OkA (part b) × Ok b → After s
      → (r >>= f (outer b)) (head (part b) ++ text b ++ s) ≡ value b (length (head (part b) ++ text b))
  then_complete b s o w =
      let a = part b in
      let n = length (head a) in
      let e : head a ++ text b ++ s ≡ head a ++ (text b ++ s) = append_assoc (head a) (text b) s in
      let d : drop n (head a ++ text b ++ s) ≡ text b ++ s =
      ap (drop n) e ∙ drop-append_seam (head a) (text b ++ s) in
      bind_complete r (f (outer b)) a b n (length (text b)) (head a ++ text b ++ s)
      (ap r e ∙ reads.complete a (text b ++ s) o.0)
      (ap (f (outer b) a) d ∙ rest.complete b s o.1 w)
      ∙ ap (λ (k : ℕ). value b k) (sym (length-append (head a) (text b)))

  then_sound : (c : C) (b : B) (k : ℕ) (s : List ℕ) → (r >>= f c) s ≡ value b k
      → (outer b ≡ c) × (OkA (part b) × Ok b) × After (drop k s) × (k ≡ length (head (part b) ++ text b)) × (s ≡ head (part b) ++ text b ++ drop k s)
  then_sound c b k s h =
      let w = bind_sound r (f c) b k s h in
      let a = w.0 in
      let n = w.1 in
      let m = w.2 in
      let x = reads.sound a n s w.3 in
      let y = rest.sound (c, a) b m (drop n s) w.4 in
      let pa : part b ≡ a = ap (λ p. p.1) y.0 in
      let dk : drop m (drop n s) ≡ drop k s = drop-drop m n s ∙ ap (λ (i : ℕ). drop i s) (sym w.5) in (
        ap (λ p. p.0) y.0,
        (subst OkA (sym pa) x.0, y.1),
        subst After dk y.2,
        rw length-append (omega (arith, ap (λ (z : A). length (head z)) pa, x.1, y.3, w.5)),
        x.2
            ∙ ap (λ (z : A). head z ++ drop n s) (sym pa)
            ∙ ap (λ (z : List ℕ). head (part b) ++ z) (y.4 ∙ ap (λ (z : List ℕ). text b ++ z) dk)
            ∙ sym (append_assoc (head (part b)) (text b) (drop k s)),
      )

  pub then_continues : Continues (λ c. r >>= f c) outer (λ b. head (part b) ++ text b) (λ b. OkA (part b) × Ok b) After
  then_continues = record { complete = then_complete; sound = then_sound }

-- the value is whole
pub give_continues : {C B : Type 0} (make : C → B) (part : B → C) → ((b : B) → make (part b) ≡ b)
    → ((c : C) → part (make c) ≡ c)
    → Continues (λ c. give (make c)) part (λ b. []) (λ b. Unit {0}) (λ s. Unit {0})
give_continues make part back forth =
    record {
      complete = λ b s o w. ap (λ x. value x 0) (back b);
      sound = λ c b n s h.
          let e : make c ≡ b = cc in
          let z : n ≡ 0 = cc in
          (ap part (sym e) ∙ forth c, tt, tt, z, ap (λ (k : ℕ). drop k s) (sym z));
    }
