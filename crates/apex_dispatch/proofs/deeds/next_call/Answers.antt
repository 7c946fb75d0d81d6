use Rattle.std.proofs.Common.{sym, rules}
use Rattle.apex_machine.proofs.Starts.{chosen_ready}
use Rattle.apex_dispatch.proofs.deeds.next_call.Goals as goal

pub take_step-call-requires-clause-ready : goal.take_step-call-requires-clause-ready
take_step-call-requires-clause-ready g c =
    chosen_ready (g.S.Store.roster c.args.store.now) c.args.core c.in_ok-process.process
    (sym c.in_ok-process.ensures.value)

pub returns-in_err-process-clause-due : goal.returns-in_err-process-clause-due
returns-in_err-process-clause-due c = search rules
