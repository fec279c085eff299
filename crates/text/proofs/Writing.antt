-- One text appended after another is the two appended as one text, and room for both is room for each.
use Rattle.std.proofs.Common.{◌≡◌, ℕ, ◌+◌, ◌≤◌, List, ◌++◌, [], length, append_assoc, append-nil, length-append, sym, ap, ◌∙◌, arith}

module _ (s a b : List ℕ) where
  pub room_first : (N : ℕ) → length s + length (a ++ b) ≤ N → length s + length a ≤ N
  room_first N r = omega (arith, length-append a b)

  module _ (t : List ℕ) (p : t ≡ s ++ a) where
    pub room_next : (N : ℕ) → length s + length (a ++ b) ≤ N → length t + length b ≤ N
    room_next N r = let e = ap length p ∙ length-append s a in omega (arith, e, length-append a b)

    pub pushed_then : (u : List ℕ) → u ≡ t ++ b → u ≡ s ++ (a ++ b)
    pushed_then u q = q ∙ ap (λ (x : List ℕ). x ++ b) p ∙ append_assoc s a b

-- ---- a text that is appended piece by piece: of all, which goes behind s, a and then b are left, and go behind t
module _ (t a b s all : List ℕ) (left : t ++ (a ++ b) ≡ s ++ all) where
  pub left_room : (N : ℕ) → length s + length all ≤ N → length t + length a ≤ N
  left_room N r =
      let e = ap length left in
      omega (arith, simp length-append at e)

  pub left_next : (u : List ℕ) → u ≡ t ++ a → u ++ b ≡ s ++ all
  left_next u p = ap (λ (x : List ℕ). x ++ b) p ∙ append_assoc t a b ∙ left

-- nothing is left
pub left_none : (t b s all : List ℕ) → b ≡ [] → t ++ b ≡ s ++ all → t ≡ s ++ all
left_none t b s all e left = sym (append-nil t) ∙ ap (λ (x : List ℕ). t ++ x) (sym e) ∙ left
