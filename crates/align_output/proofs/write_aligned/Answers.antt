-- `align_output::write_aligned` meets its contract. The loop's invariant: what is written, and the lines of the times
-- that are left behind it, are what was written before, and the lines of all behind it.
use Rattle.std.proofs.Common.{◌≡◌, ℕ, ◌+◌, ◌<◌, List, ◌++◌, length, drop, get_or, sym, ap, ◌∙◌, rules}
use lib.Ieee.{Float, nan}
use Rattle.text.proofs.Writing.{left_room, left_next, left_none}
use Rattle.align_output.specs.Output.{aligned_key, float_line, aligned_text}
use Rattle.align_output.proofs.Lengths.{aligned_next, aligned_end}
use Rattle.align_output.proofs.write_aligned.Goals as goal

-- at a turn of the loop
turn : (ts : List Float) (i : ℕ) (t all : List ℕ) → i < length ts → t ++ aligned_text (drop i ts) ≡ all
    → t ++ (float_line aligned_key (get_or ts i nan) ++ aligned_text (drop (i + 1) ts)) ≡ all
turn ts i t all h left = ap (λ (x : List ℕ). t ++ x) (sym (aligned_next ts i h)) ∙ left

pub write_float-requires : goal.write_float-requires
write_float-requires g c =
    let l = c.loop-time in
    let ts = c.args.aligned.now in
    (search rules, left_room l.out _ _ c.args.out.now (aligned_text ts) (turn ts l.time-index l.out _ c.loop-time-test.true l.invariant) g.row.N c.requires)

pub loop-time-preserved : goal.loop-time-preserved
loop-time-preserved g c =
    let l = c.loop-time in
    let ts = c.args.aligned.now in
    left_next l.out _ _ c.args.out.now (aligned_text ts) (turn ts l.time-index l.out _ c.loop-time-test.true l.invariant) _ c.write_float.ensures

pub returns : goal.returns
returns g c =
    let l = c.loop-time in
    let ts = c.args.aligned.now in
    left_none l.out _ c.args.out.now (aligned_text ts) (aligned_end ts l.time-index c.loop-time-test.false) l.invariant
