-- The parts of the head are those of its text.
use Rattle.std.proofs.Common.{◌∙◌, ℕ, List, ◌++◌, ap, codes, sym}
use Rattle.std.specs.Prelude.{flat_map, map}
use Rattle.apex_machine.specs.Machine.{Machine}
use Rattle.apex_waves.specs.Heads.{first_text, opening_text, scope_text}
use Rattle.apex_moments.specs.Instants.{instant_after}
use Rattle.apex_waves.specs.Kinds.{of_kinds}
use Rattle.apex_waves.specs.Levels.{level_of}
use Rattle.apex_waves.specs.Snapshots.{snapshot_in}
use Rattle.apex_waves.specs.Values.{value_in}
use Rattle.apex_waves.specs.declared.signals.Signal.{Signal}
use Rattle.apex_waves.proofs.printing.put_head.Goals as goal

pub returns-clause-text : goal.returns-clause-text
returns-clause-text g c =
    let table = c.args.kernel.now.table in
    let moment = snapshot_in table c.args.kernel.now.machine in
    let scopes = of_kinds (scope_text table) in
    let opened = c.put_opening.ensures.text ∙ ap (λ (l : List ℕ). l ++ opening_text) c.requires.empty in
    let scoped = (rw c.table.ensures at c.put_scopes.ensures.text) ∙ ap (λ (l : List ℕ). l ++ scopes) opened in
    let first = c.put_first.ensures.text ∙ ap (λ (l : List ℕ). l ++ first_text) scoped in
    let valued = c.put_values-levels.ensures.text
    ∙ ap (λ (l : List ℕ). l ++ flat_map (value_in table moment) c.args.signals.now) first
    ∙ ap (λ (l : List Signal). opening_text ++ scopes ++ first_text ++ flat_map (value_in table moment) l) c.requires.signals in
    c.put.ensures.text ∙ ap (λ (l : List ℕ). l ++ codes "$end\n") valued

pub returns-clause-course : goal.returns-clause-course
returns-clause-course g c =
    let table = c.args.kernel.now.table in
    let machine = c.args.kernel.now.machine in
    record {
      instant = c.opening.ensures ∙ ap (λ (m : Machine). instant_after m.history) (sym c.requires.opened);
      levels = c.put_values-levels.ensures.levels
          ∙ ap (λ (l : List Signal). map (level_of (snapshot_in table machine)) l) c.requires.signals;
    }
