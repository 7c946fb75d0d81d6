use Rattle.std.proofs.Common.{◌+◌, ◌*◌, length}
use Rattle.apex_jobs.proofs.apart.+parts.Given as goal

abbrev pub decreases-each_from : goal.decreases-each_from
decreases-each_from g l = 4 * length l.items.now

abbrev pub decreases-one_and_rest-others : goal.decreases-one_and_rest-others
decreases-one_and_rest-others g l = 4 * length l.rest.now + 1

abbrev pub decreases-one_and_rest : goal.decreases-one_and_rest
decreases-one_and_rest g l = 4 * length l.rest.now + 2
