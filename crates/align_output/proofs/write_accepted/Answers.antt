-- `align_output::write_accepted` meets its contract: status, files and rows, one behind the other.
use Rattle.std.proofs.Common.{◌≡◌, ℕ, ◌+◌, ◌≤◌, List, [], ◌++◌, length, append-nil, sym, ap, ◌∙◌, refl, subst, rules}
use mathlib.Core.List.{flatten}
use lib.Ieee.{Float}
use Rattle.text.proofs.Writing.{room_first, room_next, pushed_then}
use Rattle.align_output.specs.Output.{printed_at, status_text, files_text, aligned_text, accepted_text}
use Rattle.align_output.specs.declared.Printed.{Printed}
use Rattle.align_output.proofs.write_accepted.Goals as goal

-- what is left after one part, after two
abbrev left2 : List Float → List ℕ
left2 times = aligned_text times ++ []

abbrev left1 : List Printed → List Float → List ℕ
left1 files times = files_text 0 files ++ left2 times

all_is : (files : List Printed) (times : List Float) → status_text 0 ++ left1 files times ≡ accepted_text files times
unfolding accepted_text flatten
all_is files times = refl

module _ (N : ℕ) (files : List Printed) (times : List Float) (s : List ℕ) (r : length s + length (accepted_text files times) ≤ N) where
  room : length s + length (status_text 0 ++ left1 files times) ≤ N
  room = subst (λ (x : List ℕ). length s + length x ≤ N) (sym (all_is files times)) r

  room1 : length s + length (status_text 0) ≤ N
  room1 = room_first s (status_text 0) (left1 files times) N room

  module _ (t1 : List ℕ) (p1 : t1 ≡ s ++ status_text 0) where
    after1 : length t1 + length (left1 files times) ≤ N
    after1 = room_next s (status_text 0) (left1 files times) t1 p1 N room

    room2 : length t1 + length (files_text 0 files) ≤ N
    room2 = room_first t1 (files_text 0 files) (left2 times) N after1

    module _ (t2 : List ℕ) (p2 : t2 ≡ t1 ++ files_text 0 files) where
      room3 : length t2 + length (aligned_text times) ≤ N
      room3 =
          room_first t2 (aligned_text times) [] N (room_next t1 (files_text 0 files) (left2 times) t2 p2 N after1)

      whole : (t3 : List ℕ) → t3 ≡ t2 ++ aligned_text times → t3 ≡ s ++ accepted_text files times
      whole t3 p3 =
          pushed_then s _ (left1 files times) t1 p1 t3
          (pushed_then t1 _ (left2 times) t2 p2 t3 (p3 ∙ ap (λ (x : List ℕ). t2 ++ x) (sym (append-nil (aligned_text times)))))
          ∙ ap (λ (x : List ℕ). s ++ x) (all_is files times)

pub write_status-requires : goal.write_status-requires
write_status-requires g c =
    (search rules, room1 g.row.N (printed_at c.args.files) c.args.aligned.now c.args.out.now c.requires)

pub write_files-requires : goal.write_files-requires
write_files-requires g c =
    (search rules, room2 g.row.N (printed_at c.args.files) c.args.aligned.now c.args.out.now c.requires _ c.write_status.ensures)

pub write_aligned-requires : goal.write_aligned-requires
write_aligned-requires g c =
    (search rules, room3 g.row.N (printed_at c.args.files) c.args.aligned.now c.args.out.now c.requires _ c.write_status.ensures _ c.write_files.ensures)

pub returns : goal.returns
returns g c =
    whole g.row.N (printed_at c.args.files) c.args.aligned.now c.args.out.now c.requires _ c.write_status.ensures _ c.write_files.ensures _ c.write_aligned.ensures
