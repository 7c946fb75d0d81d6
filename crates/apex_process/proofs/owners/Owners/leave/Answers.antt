use Rattle.std.proofs.Common.{◌∙◌, ◌+◌, ◌∷◌, ap, arith, drop, false, sym}
use Rattle.std.proofs.lemmas.List.{drop_more}
use Rattle.apex_machine.specs.processes.Held.{holds}
use Rattle.apex_process.proofs.Owning.{leaves_one, none_left, owns_as}
use Rattle.apex_process.proofs.owners.Owners.leave.Goals as goal

pub loop-holding-preserved : goal.loop-holding-preserved
loop-holding-preserved c =
    let before = c.loop-holding.invariant in
    let holding = c.holding-item.result in
    let held = c.args.held.now in
    let i = c.loop-holding.holding-index in
    let left = drop_more held i holding (omega arith) ∙ ap (λ h. h ∷ drop (i + 1) held) (sym c.holding-item.is) in
    record {
      here = leaves_one _ _ c.args.process holding _ c.requires.process
          (λ m known e. sym (ap (holds m) left) ∙ before.here m known e) c.remove.ensures.same c.remove.ensures.others;
      others = λ m p low apart.
          owns_as _ _ c.args.process holding.mutex p false apart c.remove.ensures.same c.remove.ensures.others low m
          ∙ before.others m p low apart;
    }

pub returns-clause-here : goal.returns-clause-here
returns-clause-here c =
    none_left _ c.args.process c.loop-holding.holding-index c.args.held.now (omega arith) c.loop-holding.invariant.here
