-- `records::record_of` meets its contract: by whether the list reaches the file.
use mathlib.Core.Path.{◌≡◌, sym, ap, ◌∙◌}
use mathlib.Core.Bool.{Bool, cond}
use native.Mathlib.Nat.{le_refl}
use Rattle.std.specs.Prelude.{Option, Result, Ok, Err, ok_or, option_map, unwrap_or}
use Rattle.std.specs.Borrow.{Bor}
use Rattle.std.proofs.lemmas.Result.{err_from_is_err_and}
use Rattle.status.specs.declared.Refusal.{Refusal}
use Rattle.status.specs.declared.Refusal.TheVariants.{BadFile}
use Rattle.rt_matrix.specs.declared.Alignment.{Alignment}
use Rattle.retention_alignment.specs.Alignments.{no_alignment}
use Rattle.records.specs.Record.{record_at}
use Rattle.records.proofs.Calls.{lookup}
use Rattle.records.proofs.record_of.Goals as goal

-- what is found, by whether the list reaches the file
abbrev by : Bool → Alignment → Result Alignment Refusal
by b a = cond b (Ok a) (Err BadFile)

pub returns-in_err-found : goal.returns-in_err-found
returns-in_err-found c =
    let a = c.args in
    let p = err_from_is_err_and c.from_residual.result c.from_residual.ensures.1 in
    let refusal = c.in_err-found.ensures.value
    ∙ ap (λ (o : Option (Bor Alignment)). ok_or o BadFile) c.in_err-found.ensures.ok_part in
    let bad : c.in_err-found.field-0.0 ≡ BadFile = cc in
    let short = c.in_err-found.ensures.variant ∙ c.get.ensures.lookup.0 in
    rw (p.1, p.2, bad)
    (lookup a.records.now a.file (Err BadFile) (ap (λ (b : Bool). by b (record_at a.records.now a.file)) short))

pub returns : goal.returns
returns c =
    let a = c.args in
    let there = c.in_ok-found.ensures.variant ∙ c.get.ensures.lookup.0 in
    let is = ap (λ (o : Option (Bor Alignment)). unwrap_or (option_map (λ (x : Bor Alignment). x.now) o) no_alignment)
    (sym c.in_ok-found.ensures.ok_part)
    ∙ c.get.ensures.lookup.4 (le_refl a.file) no_alignment in
    lookup a.records.now a.file _
    (ap (λ (r : Alignment). Ok r) (c.canonical.ensures ∙ is)
    ∙ ap (λ (b : Bool). by b (record_at a.records.now a.file)) there)
