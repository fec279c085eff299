-- `align_output::write_file` meets its contract: five lines, one behind the other.
use Rattle.std.proofs.Common.{◌≡◌, ℕ, ◌+◌, ◌≤◌, List, [], ◌++◌, length, append-nil, sym, ap, ◌∙◌, refl, subst, rules}
use mathlib.Core.List.{flatten}
use Rattle.text.specs.Decimal.{decimal_of}
use Rattle.text.specs.Line.{line}
use Rattle.text.proofs.Writing.{room_first, room_next, pushed_then}
use Rattle.align_output.specs.Output.{file_key, max_key, slope_key, intercept_key, used_key, float_line, file_text}
use Rattle.align_output.specs.declared.Printed.{Printed}
use Rattle.align_output.proofs.write_file.Goals as goal

-- what is left after one line, after two, and so on
abbrev left4 : Printed → List ℕ
left4 a = line used_key (decimal_of a.used) ++ []

abbrev left3 : Printed → List ℕ
left3 a = float_line intercept_key a.intercept ++ left4 a

abbrev left2 : Printed → List ℕ
left2 a = float_line slope_key a.slope ++ left3 a

abbrev left1 : Printed → List ℕ
left1 a = float_line max_key a.max_rt ++ left2 a

abbrev all : ℕ → Printed → List ℕ
all i a = line file_key (decimal_of i) ++ left1 a

all_is : (i : ℕ) (a : Printed) → all i a ≡ file_text i a
unfolding file_text flatten
all_is i a = refl

module _ (N i : ℕ) (a : Printed) (s : List ℕ) (r : length s + length (file_text i a) ≤ N) where
  room : length s + length (all i a) ≤ N
  room = subst (λ (x : List ℕ). length s + length x ≤ N) (sym (all_is i a)) r

  room1 : length s + length (line file_key (decimal_of i)) ≤ N
  room1 = room_first s (line file_key (decimal_of i)) (left1 a) N room

  module _ (t1 : List ℕ) (p1 : t1 ≡ s ++ line file_key (decimal_of i)) where
    after1 : length t1 + length (left1 a) ≤ N
    after1 = room_next s (line file_key (decimal_of i)) (left1 a) t1 p1 N room

    room2 : length t1 + length (float_line max_key a.max_rt) ≤ N
    room2 = room_first t1 (float_line max_key a.max_rt) (left2 a) N after1

    module _ (t2 : List ℕ) (p2 : t2 ≡ t1 ++ float_line max_key a.max_rt) where
      after2 : length t2 + length (left2 a) ≤ N
      after2 = room_next t1 (float_line max_key a.max_rt) (left2 a) t2 p2 N after1

      room3 : length t2 + length (float_line slope_key a.slope) ≤ N
      room3 = room_first t2 (float_line slope_key a.slope) (left3 a) N after2

      module _ (t3 : List ℕ) (p3 : t3 ≡ t2 ++ float_line slope_key a.slope) where
        after3 : length t3 + length (left3 a) ≤ N
        after3 = room_next t2 (float_line slope_key a.slope) (left3 a) t3 p3 N after2

        room4 : length t3 + length (float_line intercept_key a.intercept) ≤ N
        room4 = room_first t3 (float_line intercept_key a.intercept) (left4 a) N after3

        module _ (t4 : List ℕ) (p4 : t4 ≡ t3 ++ float_line intercept_key a.intercept) where
          room5 : length t4 + length (line used_key (decimal_of a.used)) ≤ N
          room5 =
              room_first t4 (line used_key (decimal_of a.used)) [] N
              (room_next t3 (float_line intercept_key a.intercept) (left4 a) t4 p4 N after3)

          whole : (t5 : List ℕ) → t5 ≡ t4 ++ line used_key (decimal_of a.used) → t5 ≡ s ++ file_text i a
          whole t5 p5 =
              pushed_then s _ (left1 a) t1 p1 t5
              (pushed_then t1 _ (left2 a) t2 p2 t5
              (pushed_then t2 _ (left3 a) t3 p3 t5
              (pushed_then t3 _ (left4 a) t4 p4 t5
              (p5 ∙ ap (λ (x : List ℕ). t4 ++ x) (sym (append-nil (line used_key (decimal_of a.used))))))))
              ∙ ap (λ (x : List ℕ). s ++ x) (all_is i a)

pub push_decimal_line-requires : goal.push_decimal_line-requires
push_decimal_line-requires g c = (search rules, room1 g.row.N c.args.i c.args.a c.args.out.now c.requires)

pub write_float-requires : goal.write_float-requires
write_float-requires g c = (search rules, room2 g.row.N c.args.i c.args.a c.args.out.now c.requires _ c.push_decimal_line.ensures)

pub write_float-requires-2 : goal.write_float-requires-2
write_float-requires-2 g c =
    (search rules, room3 g.row.N c.args.i c.args.a c.args.out.now c.requires _ c.push_decimal_line.ensures _ c.write_float.ensures)

pub write_float-requires-3 : goal.write_float-requires-3
write_float-requires-3 g c =
    (search rules, room4 g.row.N c.args.i c.args.a c.args.out.now c.requires _ c.push_decimal_line.ensures _ c.write_float.ensures _ c.write_float-2.ensures)

pub push_decimal_line-requires-2 : goal.push_decimal_line-requires-2
push_decimal_line-requires-2 g c =
    (search rules, room5 g.row.N c.args.i c.args.a c.args.out.now c.requires _ c.push_decimal_line.ensures _ c.write_float.ensures _ c.write_float-2.ensures _ c.write_float-3.ensures)

pub returns : goal.returns
returns g c =
    whole g.row.N c.args.i c.args.a c.args.out.now c.requires _ c.push_decimal_line.ensures _ c.write_float.ensures _ c.write_float-2.ensures _ c.write_float-3.ensures _ c.push_decimal_line-2.ensures
