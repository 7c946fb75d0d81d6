-- The first process that has the name.
use Rattle.std.proofs.Common.{◌≡◌, ◌∙◌, ap, sym, arith, true, ℕ, List, Some}
use Rattle.std.specs.Str.{bytes_eq}
use Rattle.apex_machine.specs.table.Table.{ProcessConfig, no_process, process_config}
use Rattle.apex_names.specs.Processes.{has_name}
use Rattle.apex_names.proofs.Places.{found_at, found_nowhere}
use Rattle.apex_names.proofs.processes.process_named.Goals as goal

pub returns-then-eq : goal.returns-then-eq
returns-then-eq c =
    let table = c.args.table.now in
    let name = c.args.name.now in
    let place = c.loop-place.place in
    let is : c.name.result.now ≡ (process_config table place).name =
    c.name.ensures ∙ ap (λ (p : ProcessConfig). p.name) c.process.ensures.entry
    ∙ ap (λ (k : ℕ). (process_config table k).name) c.at-process.ensures in
    let here : has_name name (process_config table place) ≡ true =
    ap (λ (n : List ℕ). bytes_eq n name) (sym is) ∙ sym c.eq.ensures ∙ c.if-eq.true in
    ap Some c.at-process.ensures
    ∙ found_at (has_name name) table.processes no_process place (omega arith) c.loop-place.invariant here

pub returns : goal.returns
returns c =
    let table = c.args.table.now in
    found_nowhere (has_name c.args.name.now) table.processes no_process
    (λ k below. c.loop-place.invariant k (omega (arith, below)))
