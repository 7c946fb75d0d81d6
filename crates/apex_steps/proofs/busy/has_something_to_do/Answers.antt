use Rattle.std.proofs.Common.{◌≡◌, ◌∙◌, ap, refl}
use Rattle.std.specs.Prelude.{is_some}
use Rattle.apex_machine.specs.Machine.{situation_of}
use Rattle.apex_machine.specs.Situations.{Situation, due_call}
use Rattle.apex_machine.specs.processes.Roster.{Roster}
use Rattle.apex_machine.specs.processes.Running.{chosen}
use Rattle.apex_machine.specs.table.Table.{Table}
use Rattle.apex_dispatch.specs.Situations.{situation_in}
use Rattle.apex_steps.specs.Texts.{has_something_to_do}
use Rattle.apex_steps.proofs.busy.has_something_to_do.Goals as goal

pub returns : goal.returns
unfolding has_something_to_do
returns g c =
    let table = c.args.kernel.now.table in
    let machine = c.args.kernel.now.machine in
    let core = c.args.core in
    let same = c.situation-situation.ensures in
    let works : c.is_some-works.result ≡ is_some ((situation_of table machine).works core) =
    c.is_some-works.ensures ∙ ap is_some (c.work.ensures ∙ ap (λ (s : Situation). s.works core) same) in
    let due : c.is_some-is_due.result ≡ is_some (due_call table (situation_of table machine) core) =
    c.is_some-is_due.ensures
    ∙ ap is_some (c.due_call.ensures ∙ ap (λ (t : Table). due_call t (situation_in c.situation-situation.result.now) core) c.table.ensures
    ∙ ap (λ (s : Situation). due_call table s core) same) in
    let runs : c.is_some-runs.result ≡ is_some (chosen (situation_of table machine).roster core) =
    c.is_some-runs.ensures ∙ ap is_some (c.chosen.ensures.value ∙ ap (λ (r : Roster). chosen r core) c.store.ensures.roster) in
    rw (c.any_of.ensures, works, due, runs) refl
