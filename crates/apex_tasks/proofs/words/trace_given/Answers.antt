use Rattle.std.proofs.Common.{◌∙◌, ap, codes}
use Rattle.clap.proofs.WalkLemmas.{first_value-rows}
use Rattle.clap.specs.Words.{found_of}
use Rattle.apex_tasks.specs.Words.{as_trace}
use Rattle.apex_tasks.proofs.words.trace_given.Goals as goal

pub returns : goal.returns
returns c =
    ap as_trace (c.get_str.ensures ∙ first_value-rows (found_of c.args.matches.now) (codes "tick-us"))
