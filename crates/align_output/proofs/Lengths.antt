-- How long the parts of an answer are, and the next part of a run of them.
use mathlib.Core.Path.{◌≡◌, refl, ap}
use mathlib.Core.List.{List, [], ◌∷◌, ◌++◌, flatten}
use Prim.Native.Nat.{ℕ, suc, ◌+◌, ◌*◌, ◌^◌, ◌≤◌, ◌<◌}
use native.Mathlib.Omega.{arith}
use lib.ListN.{length, drop, get_or, length-append, drop_of_length-le}
use lib.Ieee.{Float, nan, binary32, to_bits}
use Rattle.float.specs.Hex.{hex_of}
use Rattle.float.proofs.Digits.{length_hex_of}
use Rattle.text.specs.Decimal.{decimal_of}
use Rattle.text.specs.Line.{line}
use Rattle.text.proofs.Decimals.{decimal_length}
use Rattle.text.proofs.Lists.{drop_next}
use Rattle.align_output.specs.Output.{
  status_key,
  file_key,
  max_key,
  slope_key,
  intercept_key,
  used_key,
  aligned_key,
  status_text,
  float_line,
  file_text,
  files_text,
  aligned_text,
  accepted_text,
}
use Rattle.align_output.specs.declared.Printed.{Printed}
use Rattle.align_output.proofs.PrintedColumns.{none_printed}

line_length : (key v : List ℕ) → length (line key v) ≡ length key + length v + 1
line_length key v = simp length-append (omega arith)

pub float_length : (key : List ℕ) (x : Float) → length (float_line key x) ≡ length key + 9
unfolding float_line
float_length key x = omega (arith, line_length key (hex_of 8 (to_bits binary32 x)), length_hex_of 8 (to_bits binary32 x))

pub decimal_line_length : (key : List ℕ) (n : ℕ) → n < 2 ^ 32
    → length (line key (decimal_of n)) ≤ length key + 11
decimal_line_length key n h = omega (arith, line_length key (decimal_of n), decimal_length 9 n (omega arith))

pub status_length : (n : ℕ) → n < 2 ^ 32 → length (status_text n) ≤ 18
unfolding status_text
status_length n h = decimal_line_length status_key n h

appended : (a b c d e : List ℕ)
    → length (a ++ (b ++ (c ++ (d ++ (e ++ []))))) ≡ length a + length b + length c + length d + length e
appended a b c d e =
    omega (
      arith,
      length-append a (b ++ (c ++ (d ++ (e ++ [])))),
      length-append b (c ++ (d ++ (e ++ []))),
      length-append c (d ++ (e ++ [])),
      length-append d (e ++ []),
      length-append e [],
    )

pub file_length : (i : ℕ) (a : Printed) → i < 2 ^ 32 → a.used < 2 ^ 32 → length (file_text i a) ≤ 80
unfolding file_text flatten
file_length i a h u =
    omega (
      arith,
      appended (line file_key (decimal_of i)) (float_line max_key a.max_rt) (float_line slope_key a.slope)
          (float_line intercept_key a.intercept) (line used_key (decimal_of a.used)),
      decimal_line_length file_key i h,
      float_length max_key a.max_rt,
      float_length slope_key a.slope,
      float_length intercept_key a.intercept,
      decimal_line_length used_key a.used u,
    )

-- files whose counts are of 32 bits
abbrev pub Counted : List Printed → Type 0
Counted files = (k : ℕ) → k < length files → (get_or files k none_printed).used < 2 ^ 32

pub files_length : (i : ℕ) (files : List Printed) → i + length files ≤ 2 ^ 32 → Counted files
    → length (files_text i files) ≤ 80 * length files
unfolding files_text
files_length i [] h u = omega arith
files_length i (a ∷ files) h u =
    omega (
      arith,
      length-append (file_text i a) (files_text (i + 1) files),
      file_length i a (omega arith) (u 0 (omega arith)),
      files_length (i + 1) files (omega arith) (λ k l. u (suc k) (omega (arith, l))),
    )

pub aligned_length : (ts : List Float) → length (aligned_text ts) ≡ 17 * length ts
unfolding aligned_text flatten
aligned_length [] = refl
aligned_length (t ∷ ts) =
    omega (
      arith,
      length-append (float_line aligned_key t) (aligned_text ts),
      float_length aligned_key t,
      aligned_length ts,
    )

pub accepted_length : (files : List Printed) (ts : List Float) → length files ≤ 2 ^ 32 → Counted files
    → length (accepted_text files ts) ≤ 18 + 80 * length files + 17 * length ts
unfolding accepted_text flatten
accepted_length files ts h u =
    omega (
      arith,
      length-append (status_text 0) (files_text 0 files ++ (aligned_text ts ++ [])),
      length-append (files_text 0 files) (aligned_text ts ++ []),
      length-append (aligned_text ts) [],
      status_length 0 (omega arith),
      files_length 0 files (omega arith) u,
      aligned_length ts,
    )

-- ---- the first of what is left
pub files_next : (files : List Printed) (d : Printed) (i : ℕ) → i < length files
    → files_text i (drop i files) ≡ file_text i (get_or files i d) ++ files_text (i + 1) (drop (i + 1) files)
unfolding files_text
files_next files d i h = ap (files_text i) (drop_next d files i h)

pub files_end : (files : List Printed) (i : ℕ) → length files ≤ i → files_text i (drop i files) ≡ []
unfolding files_text
files_end files i h = ap (files_text i) (drop_of_length-le files h)

pub aligned_next : (ts : List Float) (i : ℕ) → i < length ts
    → aligned_text (drop i ts) ≡ float_line aligned_key (get_or ts i nan) ++ aligned_text (drop (i + 1) ts)
unfolding aligned_text flatten
aligned_next ts i h = ap aligned_text (drop_next nan ts i h)

pub aligned_end : (ts : List Float) (i : ℕ) → length ts ≤ i → aligned_text (drop i ts) ≡ []
unfolding aligned_text flatten
aligned_end ts i h = ap aligned_text (drop_of_length-le ts h)
