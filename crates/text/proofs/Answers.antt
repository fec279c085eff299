-- What the functions that read answer, for what the definitions give.
use Rattle.std.proofs.Common.{◌≡◌, ℕ, suc, ◌+◌, ◌-◌, ◌≤◌, ◌<◌, Bool, List, [], ◌∷◌, Option, Some, None, length, take, drop, eqb, nat_eq, ◌==◌, true, false, refl, sym, ap, ◌∙◌, arith, add-zero, eq-eqb, ne_eqb}
use lib.Seq.{take-append_seam}
use lib.ListN.{length-drop, length-append}
use Rattle.std.specs.List.{position, position_from}
use Rattle.std.specs.Option.{option_map}
use Rattle.std.specs.Cmp.Lexicographic.{pointwise}
use Rattle.std.proofs.lemmas.Iterator.Adapters.{position_from-zero}
use Rattle.text.specs.Line.{longer_by, line_of, starts_with, keyed, in_line, line_read, first_line}
use Rattle.text.specs.declared.line.Line.{Line}
use Rattle.text.specs.Answer.{line_end, line_at}
use Rattle.text.proofs.Cases.{by_bool}
use Rattle.text.proofs.Lines.{line_is}

-- ---- where a line ends: at the first LF
abbrev pub is_lf : ℕ → Bool
is_lf c = c == 10

longer_end : (c i : ℕ) (o : Option (List ℕ)) → line_end i (longer_by c o) ≡ line_end (i + 1) o
longer_end c i None = refl
longer_end c i (Some l) = let e : i + suc (length l) ≡ i + 1 + length l = omega arith in ap Some e

-- by the first byte: the line ends there, or where the rest does
module _ (i c : ℕ) (s : List ℕ) where
  pub end_here : c ≡ 10 → line_end i (line_of (c ∷ s)) ≡ Some i
  unfolding line_of
  end_here h = simp (eq-eqb c 10 h, add-zero i)

  pub end_more : (c ≡ 10 → ⊥) → line_end i (line_of (c ∷ s)) ≡ line_end (i + 1) (line_of s)
  unfolding line_of
  end_more h = simp (ne_eqb c 10 h) (longer_end c i (line_of s))

end_from : (i : ℕ) (s : List ℕ) → line_end i (line_of s) ≡ position_from is_lf i s
unfolding line_of
end_from i [] = refl
end_from i (c ∷ s) =
    by_bool (eqb c 10) (λ t. simp (t, add-zero i))
    (λ t. simp t (longer_end c i (line_of s) ∙ end_from (i + 1) s))

position_more : (at i : ℕ) (s : List ℕ)
    → position_from is_lf (at + i) s ≡ option_map (λ n. at + n) (position_from is_lf i s)
position_more at i [] = refl
position_more at i (c ∷ s) =
    let e : at + i + 1 ≡ at + (i + 1) = omega arith in
    by_bool (eqb c 10) (λ t. simp t)
    (λ t. simp t (ap (λ k. position_from is_lf k s) e ∙ position_more at (i + 1) s))

pub end_position : (at : ℕ) (s : List ℕ) → line_end at (line_of s) ≡ option_map (λ n. at + n) (position is_lf s)
end_position at s =
    end_from at s
    ∙ ap (λ k. position_from is_lf k s) (sym (add-zero at))
    ∙ position_more at 0 s
    ∙ ap (option_map (λ n. at + n)) (sym (position_from-zero is_lf s))

pub end_some : (at e : ℕ) (o : Option (List ℕ)) → Some e ≡ line_end at o → (l : List ℕ) × (o ≡ Some l) × (e ≡ at + length l)
end_some at e None h = let z : ◌≡◌ {A = ℕ} 0 1 = cc in absurd (omega arith)
end_some at e (Some l) h = (l, refl, (cc))

pub end_none : (at : ℕ) (o : Option (List ℕ)) → None ≡ line_end at o → o ≡ None
end_none at None h = refl
end_none at (Some l) h = cc

-- ---- whether a text begins with a key
pub starts_pointwise : (key s : List ℕ) → pointwise nat_eq (take (length key) s) key ≡ starts_with key s
unfolding starts_with
starts_pointwise [] s = refl
starts_pointwise (k ∷ key) [] = refl
starts_pointwise (k ∷ key) (c ∷ s) = simp (starts_pointwise key s)

-- ---- what stands behind the key in the line that begins at a place
module _ (text : List ℕ) (at : ℕ) (key : List ℕ) where
  pub value_none : None ≡ line_end at (line_of (drop at text))
      → line_at at (first_line (keyed key Some) (drop at text)) ≡ None
  unfolding first_line
  value_none h = ap (λ o. line_at at (in_line (keyed key Some) o)) (end_none at (line_of (drop at text)) h)

  module _ (e : ℕ) (h : Some e ≡ line_end at (line_of (drop at text))) where
    line_l : (l : List ℕ) × (line_of (drop at text) ≡ Some l) × (e ≡ at + length l)
    line_l = end_some at e (line_of (drop at text)) h

    pub end_le : at ≤ e
    end_le = omega (arith, line_l.2)

    pub end_within : e < length text
    end_within =
        let l = line_l.0 in
        let e = ap length (line_is (drop at text) l line_l.1) in
        omega (arith, simp (length-drop, length-append) at e, line_l.2)

    part_is : take (e - at) (drop at text) ≡ line_l.0
    part_is =
        let l = line_l.0 in
        let k : e - at ≡ length l = omega (arith, line_l.2) in
        ap (λ (n : ℕ). take n (drop at text)) k
        ∙ ap (take (length l)) (line_is (drop at text) l line_l.1)
        ∙ take-append_seam l (10 ∷ drop (suc (length l)) (drop at text))

    starts_is_key : (b : Bool) → pointwise nat_eq (take (length key) (take (e - at) (drop at text))) key ≡ b
        → starts_with key line_l.0 ≡ b
    starts_is_key b t =
        sym (starts_pointwise key line_l.0)
        ∙ ap (λ s. pointwise nat_eq (take (length key) s) key) (sym part_is)
        ∙ t

    pub value_other : pointwise nat_eq (take (length key) (take (e - at) (drop at text))) key ≡ false
        → line_at at (first_line (keyed key Some) (drop at text)) ≡ None
    unfolding first_line keyed
    value_other t =
        ap (λ o. line_at at (in_line (keyed key Some) o)) line_l.1
        ∙ simp (starts_is_key false t)

    pub value_some : pointwise nat_eq (take (length key) (take (e - at) (drop at text))) key ≡ true
        → line_at at (first_line (keyed key Some) (drop at text))
        ≡ Some (record { value = drop (length key) (take (e - at) (drop at text)); next = e + 1 })
    unfolding first_line keyed
    value_some t =
        let n : at + (length line_l.0 + 1) ≡ e + 1 = omega (arith, line_l.2) in
        ap (λ o. line_at at (in_line (keyed key Some) o)) line_l.1
        ∙ simp (starts_is_key true t, n, part_is)

-- ---- what is made of what stands behind the key
abbrev pub with_next : {A : Type 0} → ℕ → Option A → Option (Line A)
with_next n None = None
with_next n (Some a) = Some (record { value = a; next = n })

abbrev pub read_on : {A : Type 0} → (List ℕ → Option A) → Option (Line (List ℕ)) → Option (Line A)
read_on reading None = None
read_on reading (Some l) = with_next l.next (reading l.value)

module _ {A : Type 0} (reading : List ℕ → Option A) (at : ℕ) (key : List ℕ) where
  line_on : (n : ℕ) (o : Option A) → line_at at (line_read n o) ≡ with_next (at + (n + 1)) o
  line_on n None = refl
  line_on n (Some a) = refl

  on_line : (o : Option (List ℕ))
      → line_at at (in_line (keyed key reading) o) ≡ read_on reading (line_at at (in_line (keyed key Some) o))
  unfolding keyed
  on_line None = refl
  on_line (Some l) =
      by_bool (starts_with key l) (λ t. simp t (line_on (length l) (reading (drop (length key) l)))) (λ t. simp t)

  -- reading a line is reading what stands behind its key
  pub line_reading : (s : List ℕ)
      → read_on reading (line_at at (first_line (keyed key Some) s)) ≡ line_at at (first_line (keyed key reading) s)
  unfolding first_line
  line_reading s = sym (on_line (line_of s))
