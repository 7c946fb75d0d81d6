use Rattle.apex_states.proofs.Registering.{IsRegistered-start}
use Rattle.apex_states.proofs.registers.Register.new.Goals as goal

pub invariant_of-result : goal.invariant_of-result
invariant_of-result c =
    IsRegistered-start c.args.width c.args.room c.in_ok-new.field-0 c.in_ok-new-2.field-0
    c.in_ok-new.ensures c.in_ok-new-2.ensures c.ranges.room.fits
