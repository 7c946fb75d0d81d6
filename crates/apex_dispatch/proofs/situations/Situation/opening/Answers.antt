use Rattle.std.proofs.Common.{◌∙◌, ap, sym, subst}
use Rattle.apex_machine.specs.processes.Roster.{Roster}
use Rattle.apex_laws.specs.GoesOn.{CanGoOn}
use Rattle.apex_dispatch.specs.Situations.{situation_with}
use Rattle.apex_laws.proofs.GoesOn.{opening_goes_on}
use Rattle.apex_dispatch.proofs.MachineSteps.{opened}
use Rattle.apex_dispatch.proofs.situations.Situation.opening.Goals as goal

pub returns-clause-goes_on : goal.returns-clause-goes_on
returns-clause-goes_on g c left few =
    let table = c.args.table.now in
    let objects = c.in_ok-new.field-0 in
    let works = c.new-2.result in
    let same =
    ap (λ (r : Roster). situation_with r objects works 0) c.requires
    ∙ opened table objects c.in_ok-new.ensures works c.new-2.ensures in
    subst (CanGoOn table left) (sym same) (opening_goes_on table c.lawful.ensures left few)
