-- A chain of readers, each from the place after the one before.
use Rattle.std.proofs.Common.{◌≡◌, ℕ, ◌+◌, List, Some, None, drop, refl, sym, ap, ◌∙◌, add-zero, add_assoc, arith}
use lib.Seq.{drop-drop}
use Rattle.text.specs.declared.line.Line.{Line}
use Rattle.text.specs.Reader.{Read, value, malformed, Reader, further, onward, give, ◌>>=◌}
use Rattle.text.specs.Answer.{line_at}

-- ---- what the answer of a reader tells of what was read
pub line_none : {A : Type 0} (at : ℕ) (x : Read A) → None ≡ line_at at x → x ≡ malformed
line_none at (value v n) h = cc
line_none at malformed h = refl

pub line_some : {A : Type 0} (at : ℕ) (l : Line A) (x : Read A) → Some l ≡ line_at at x
    → (n : ℕ) × (x ≡ value l.value n) × (l.next ≡ at + n)
line_some at l (value v n) h =
    let e : l ≡ record { value = v; next = at + n } = cc in
    (n, ap (λ w. value w n) (sym (ap (λ (k : Line _). k.value) e)), ap (λ (k : Line _). k.next) e)
line_some at l malformed h = let z : ◌≡◌ {A = ℕ} 0 1 = cc in absurd (omega arith)

-- ---- the answer of a chain: that of its rest, from the place after its first reader

-- `answer at x` is any answer for what was read from at on
module _ {A B R : Type 0} (answer : ℕ → Read B → R)
    (slide : (at n : ℕ) (x : Read B) → answer at (further n x) ≡ answer (at + n) x)
    (t : List ℕ) (r : Reader A) (f : A → Reader B) (at : ℕ) where
  pub answer_none : r (drop at t) ≡ malformed → answer at ((r >>= f) (drop at t)) ≡ answer at malformed
  answer_none h = ap (λ (x : Read A). answer at (onward x f (drop at t))) h

  pub answer_some : (a : A) (next : ℕ) → (n : ℕ) × (r (drop at t) ≡ value a n) × (next ≡ at + n)
      → answer at ((r >>= f) (drop at t)) ≡ answer next (f a (drop next t))
  answer_some a next w =
      ap (λ (x : Read A). answer at (onward x f (drop at t))) w.1
      ∙ slide at w.0 (f a (drop w.0 (drop at t)))
      ∙ ap (λ (s : List ℕ). answer (at + w.0) (f a s)) (drop-drop w.0 at t)
      ∙ ap (λ (k : ℕ). answer k (f a (drop k t))) (sym w.2)

-- the readers' own
slide : {A : Type 0} (at n : ℕ) (x : Read A) → line_at at (further n x) ≡ line_at (at + n) x
slide at n (value a m) = ap (λ k. Some (record { value = a; next = k })) (sym (add_assoc at n m))
slide at n malformed = refl

module _ {A B : Type 0} (t : List ℕ) (r : Reader A) (f : A → Reader B) (at : ℕ) where
  pub chain_none : None ≡ line_at at (r (drop at t)) → None ≡ line_at at ((r >>= f) (drop at t))
  chain_none h = sym (answer_none line_at slide t r f at (line_none at (r (drop at t)) h))

  pub chain_some : (l : Line A) → Some l ≡ line_at at (r (drop at t))
      → line_at l.next (f l.value (drop l.next t)) ≡ line_at at ((r >>= f) (drop at t))
  chain_some l h =
      sym (answer_some line_at slide t r f at l.value l.next (line_some at l (r (drop at t)) h))

pub given : {A : Type 0} (at : ℕ) (a : A) (s : List ℕ) → Some (record { value = a; next = at }) ≡ line_at at (give a s)
given at a s = ap (λ k. Some (record { value = a; next = k })) (sym (add-zero at))
