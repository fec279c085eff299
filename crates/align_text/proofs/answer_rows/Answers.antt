-- `align_text::answer_rows` meets its contract: by the alignment's answer, whose parts are written if it is accepted.
use Rattle.std.proofs.Common.{◌≡◌, ℕ, ◌+◌, ◌≤◌, List, ◌++◌, length, sym, ap, ◌∙◌, arith, rules}
use Rattle.retention_alignment.specs.Call.{Input, held_input}
use Rattle.retention_alignment.proofs.Rows.{length_rows}
use Rattle.align_text.specs.AlignText.{columns_text}
use Rattle.align_text.specs.Ready.{Ready}
use Rattle.align_text.proofs.Aligning.{not_refused, number_is, max_rts_long, slopes_long, intercepts_long, counts_long, accepted_is}
use Rattle.align_text.proofs.Longest.{columns_short}
use Rattle.align_text.proofs.answer_rows.Goals as goal

-- there is room for the answer
bounded : (i : Input) → Ready i → (text : List ℕ) → text ≡ columns_text i → (n : ℕ) → n + 5650 ≤ 8192
    → n + length text ≤ 8192
bounded i d text e n r =
    let k = length_rows i.file i.peptide i.rt d.peptide d.rt in
    omega (arith, ap length e, columns_short i d.files d.peptides (omega (arith, k, d.rows)))

pub returns-then-is_err-clause-number : goal.returns-then-is_err-clause-number
returns-then-is_err-clause-number c =
    number_is (held_input c.args.observed) c.requires.ready _ _ _ c.global_alignment-answer.ensures.aligned
    (record {
      workspace = omega arith;
      records =
          record {
            max_rt = omega arith;
            slope = omega arith;
            intercept = omega arith;
            used = omega arith;
            max_rt_exact = omega arith;
            slope_exact = omega arith;
            intercept_exact = omega arith;
          };
      aligned = omega arith;
    })

pub slice_bounds-printed-end : goal.slice_bounds-printed-end
slice_bounds-printed-end c =
    sym
    (max_rts_long (held_input c.args.observed) c.requires.ready _ _ _ c.global_alignment-answer.ensures.aligned
    (record {
      workspace = omega arith;
      records =
          record {
            max_rt = omega arith;
            slope = omega arith;
            intercept = omega arith;
            used = omega arith;
            max_rt_exact = omega arith;
            slope_exact = omega arith;
            intercept_exact = omega arith;
          };
      aligned = omega arith;
    })
    (not_refused c.global_alignment-answer.result c.if-is_err.ensures.value))

pub slice_bounds-printed-end-2 : goal.slice_bounds-printed-end-2
slice_bounds-printed-end-2 c =
    sym
    (slopes_long (held_input c.args.observed) c.requires.ready _ _ _ c.global_alignment-answer.ensures.aligned
    (record {
      workspace = omega arith;
      records =
          record {
            max_rt = omega arith;
            slope = omega arith;
            intercept = omega arith;
            used = omega arith;
            max_rt_exact = omega arith;
            slope_exact = omega arith;
            intercept_exact = omega arith;
          };
      aligned = omega arith;
    })
    (not_refused c.global_alignment-answer.result c.if-is_err.ensures.value))

pub slice_bounds-printed-end-3 : goal.slice_bounds-printed-end-3
slice_bounds-printed-end-3 c =
    sym
    (intercepts_long (held_input c.args.observed) c.requires.ready _ _ _ c.global_alignment-answer.ensures.aligned
    (record {
      workspace = omega arith;
      records =
          record {
            max_rt = omega arith;
            slope = omega arith;
            intercept = omega arith;
            used = omega arith;
            max_rt_exact = omega arith;
            slope_exact = omega arith;
            intercept_exact = omega arith;
          };
      aligned = omega arith;
    })
    (not_refused c.global_alignment-answer.result c.if-is_err.ensures.value))

pub slice_bounds-printed-end-4 : goal.slice_bounds-printed-end-4
slice_bounds-printed-end-4 c =
    sym
    (counts_long (held_input c.args.observed) c.requires.ready _ _ _ c.global_alignment-answer.ensures.aligned
    (record {
      workspace = omega arith;
      records =
          record {
            max_rt = omega arith;
            slope = omega arith;
            intercept = omega arith;
            used = omega arith;
            max_rt_exact = omega arith;
            slope_exact = omega arith;
            intercept_exact = omega arith;
          };
      aligned = omega arith;
    })
    (not_refused c.global_alignment-answer.result c.if-is_err.ensures.value))

pub invariant_of-printed : goal.invariant_of-printed
invariant_of-printed c =
    let m = max_rts_long (held_input c.args.observed) c.requires.ready _ _ _ c.global_alignment-answer.ensures.aligned
    (record {
      workspace = omega arith;
      records =
          record {
            max_rt = omega arith;
            slope = omega arith;
            intercept = omega arith;
            used = omega arith;
            max_rt_exact = omega arith;
            slope_exact = omega arith;
            intercept_exact = omega arith;
          };
      aligned = omega arith;
    })
    (not_refused c.global_alignment-answer.result c.if-is_err.ensures.value) in
    record {
      slopes = slopes_long (held_input c.args.observed) c.requires.ready _ _ _ c.global_alignment-answer.ensures.aligned
          (record {
            workspace = omega arith;
            records =
                record {
                  max_rt = omega arith;
                  slope = omega arith;
                  intercept = omega arith;
                  used = omega arith;
                  max_rt_exact = omega arith;
                  slope_exact = omega arith;
                  intercept_exact = omega arith;
                };
            aligned = omega arith;
          })
          (not_refused c.global_alignment-answer.result c.if-is_err.ensures.value) ∙ sym m;
      intercepts = intercepts_long (held_input c.args.observed) c.requires.ready _ _ _ c.global_alignment-answer.ensures.aligned
          (record {
            workspace = omega arith;
            records =
                record {
                  max_rt = omega arith;
                  slope = omega arith;
                  intercept = omega arith;
                  used = omega arith;
                  max_rt_exact = omega arith;
                  slope_exact = omega arith;
                  intercept_exact = omega arith;
                };
            aligned = omega arith;
          })
          (not_refused c.global_alignment-answer.result c.if-is_err.ensures.value) ∙ sym m;
      counts = counts_long (held_input c.args.observed) c.requires.ready _ _ _ c.global_alignment-answer.ensures.aligned
          (record {
            workspace = omega arith;
            records =
                record {
                  max_rt = omega arith;
                  slope = omega arith;
                  intercept = omega arith;
                  used = omega arith;
                  max_rt_exact = omega arith;
                  slope_exact = omega arith;
                  intercept_exact = omega arith;
                };
            aligned = omega arith;
          })
          (not_refused c.global_alignment-answer.result c.if-is_err.ensures.value) ∙ sym m;
      few = omega (arith, m, c.requires.ready.files);
    }

pub write_accepted-requires : goal.write_accepted-requires
write_accepted-requires c =
    let e = accepted_is (held_input c.args.observed) c.requires.ready _ _ _ c.global_alignment-answer.ensures.aligned
    (record {
      workspace = omega arith;
      records =
          record {
            max_rt = omega arith;
            slope = omega arith;
            intercept = omega arith;
            used = omega arith;
            max_rt_exact = omega arith;
            slope_exact = omega arith;
            intercept_exact = omega arith;
          };
      aligned = omega arith;
    })
    (not_refused c.global_alignment-answer.result c.if-is_err.ensures.value) in
    (search rules, bounded (held_input c.args.observed) c.requires.ready _ e _ c.requires.room)

pub returns-clause-number : goal.returns-clause-number
returns-clause-number c =
    sym (not_refused c.global_alignment-answer.result c.if-is_err.ensures.value)
    ∙ number_is (held_input c.args.observed) c.requires.ready _ _ _ c.global_alignment-answer.ensures.aligned
    (record {
      workspace = omega arith;
      records =
          record {
            max_rt = omega arith;
            slope = omega arith;
            intercept = omega arith;
            used = omega arith;
            max_rt_exact = omega arith;
            slope_exact = omega arith;
            intercept_exact = omega arith;
          };
      aligned = omega arith;
    })

pub returns-clause-accepted : goal.returns-clause-accepted
returns-clause-accepted c =
    let e = accepted_is (held_input c.args.observed) c.requires.ready _ _ _ c.global_alignment-answer.ensures.aligned
    (record {
      workspace = omega arith;
      records =
          record {
            max_rt = omega arith;
            slope = omega arith;
            intercept = omega arith;
            used = omega arith;
            max_rt_exact = omega arith;
            slope_exact = omega arith;
            intercept_exact = omega arith;
          };
      aligned = omega arith;
    })
    (not_refused c.global_alignment-answer.result c.if-is_err.ensures.value) in
    c.write_accepted.ensures ∙ ap (λ (x : List ℕ). c.args.out.now ++ x) e
