use Rattle.std.proofs.Common.{rules}
use Rattle.apex_dispatch.proofs.ticks.not_beyond.Goals as goal

pub returns-in-Some : goal.returns-in-Some
returns-in-Some c = search rules
