use Rattle.std.proofs.Common.{◌∙◌, ◌++◌, [], ◌∷◌, ap, arith, sym, take, true}
use Rattle.std.proofs.lemmas.List.{take_more}
use Rattle.apex_machine.specs.processes.Held.{holds}
use Rattle.apex_process.proofs.Owning.{enters_one, owns_as}
use Rattle.apex_process.proofs.owners.Owners.enter.Goals as goal

pub loop-holding-preserved : goal.loop-holding-preserved
loop-holding-preserved c =
    let before = c.loop-holding.invariant in
    let holding = c.holding-item.result in
    let held = c.args.held.now in
    let i = c.loop-holding.holding-index in
    let so_far = take_more held i holding (omega arith) ∙ ap (λ h. take i held ++ h ∷ []) (sym c.holding-item.is) in
    record {
      here = λ m known.
          enters_one _ _ c.args.process (take i held) holding c.requires.process before.here c.add.ensures.same c.add.ensures.others m known
          ∙ sym (ap (holds m) so_far);
      others = λ m p low apart.
          owns_as _ _ c.args.process holding.mutex p true apart c.add.ensures.same c.add.ensures.others low m
          ∙ before.others m p low apart;
    }
