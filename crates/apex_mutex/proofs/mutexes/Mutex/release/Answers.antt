use Rattle.std.proofs.Common.{rules}
use Rattle.apex_mutex.proofs.mutexes.Mutex.release.Goals as goal

pub returns-in-Some-2 : goal.returns-in-Some-2
returns-in-Some-2 c = search rules
