use Rattle.std.proofs.Common.{arith}
use Rattle.apex_machine.proofs.Handovers.{few_halted}
use Rattle.apex_services.proofs.services.caller.serve_itself.Goals as goal

pub halt-requires-clause-room : goal.halt-requires-clause-room
halt-requires-clause-room g c = grind (arith, few_halted)
