-- The answers of the functions that read, for what the definitions give. Definitions only.
use Rattle.std.specs.Prelude.{ℕ, ◌+◌, ◌≡◌, List, drop, length, Option, Some, None}
use Rattle.std.specs.Borrow.{Bor}
use Rattle.text.specs.declared.line.Line.{Line}
use Rattle.text.specs.Reader.{Read, value, malformed}
use Rattle.text.specs.Line.{first_line, keyed}

-- where a line that begins at at ends
abbrev pub line_end : ℕ → Option (List ℕ) → Option ℕ
line_end at None = None
line_end at (Some l) = Some (at + length l)

-- what was read from at on, and the place after it
abbrev pub line_at : {A : Type 0} → ℕ → Read A → Option (Line A)
line_at at (value v n) = Some (record { value = v; next = at + n })
line_at at malformed = None

-- what a line's value is in the text
abbrev pub seen : Option (Line (Bor (List ℕ))) → Option (Line (List ℕ))
seen None = None
seen (Some l) = Some (record { value = l.value.now; next = l.next })

-- r is what stands behind key in the line that begins at at, where it begins with key
abbrev pub ValueLine : List ℕ → ℕ → List ℕ → Option (Line (Bor (List ℕ))) → Type 0
ValueLine text at key r = seen r ≡ line_at at (first_line (keyed key Some) (drop at text))
