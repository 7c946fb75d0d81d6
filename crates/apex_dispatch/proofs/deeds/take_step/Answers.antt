use Rattle.std.proofs.Common.{◌≡◌, ◌∙◌, Some, sym}
use Rattle.apex_machine.specs.table.Table.{call_in, process_config}
use Rattle.apex_laws.proofs.Known.{known_script_step}
use Rattle.apex_dispatch.proofs.Steps.{asks_step}
use Rattle.apex_dispatch.proofs.deeds.take_step.Goals as goal

pub returns-in-Some-2 : goal.returns-in-Some-2
returns-in-Some-2 g c =
    let table = c.args.table.now in
    let roster = g.S.Store.roster c.args.store.now in
    let p = c.args.process in
    let step : call_in (process_config table p).script c.from.result ≡ Some c.in-Some.call =
    rw (← c.process-config.ensures.entry) (sym c.in-Some.ensures) in
    let known = known_script_step table p c.from.result c.in-Some.call c.lawful.ensures step in
    let asks = asks_step table roster p c.in-Some.call c.requires.ready c.requires.starts c.requires.releases known
    (rw (← c.record.ensures, ← c.from.ensures) step) (sym c.is_work.ensures ∙ c.if-is_work.false) in
    rw (c.set_step.ensures, c.next_place.ensures, c.process-config.ensures.entry, c.record.ensures) asks
