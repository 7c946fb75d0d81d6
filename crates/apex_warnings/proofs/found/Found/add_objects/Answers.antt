use Rattle.apex_warnings.specs.Objects.{object_is_unused}
use Rattle.apex_warnings.specs.Warnings.{warned}
use Rattle.apex_warnings.specs.declared.warnings.Warning.TheVariants.{UnusedObject}
use Rattle.apex_warnings.proofs.Lists.{found_step}
use Rattle.apex_warnings.proofs.found.Found.add_objects.Goals as goal

pub loop-place-preserved : goal.loop-place-preserved
loop-place-preserved c =
    let more = rw (c.have-applies.ensures, c.queue.ensures) at c.in_ok-add.ensures in
    found_step _ _ _ (λ i. warned (object_is_unused c.args.steps.now c.args.group i) (UnusedObject c.args.group i)) c.loop-place.place c.loop-place.invariant more
