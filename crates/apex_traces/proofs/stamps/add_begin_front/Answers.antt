-- The digit of the group is in the text.
use Rattle.std.proofs.Common.{◌∙◌, ◌++◌, ap, sym}
use Rattle.apex_traces.specs.Stamps.{begin_front}
use Rattle.apex_traces.proofs.SlicesWhole.{begin_front_cores, begin_front_objects, begin_front_processes}
use Rattle.apex_traces.proofs.stamps.add_begin_front.Goals as goal

pub returns-in-Cores-clause-text : goal.returns-in-Cores-clause-text
returns-in-Cores-clause-text c =
    c.add_text.ensures.text
    ∙ ap (λ l. c.args.piece.now.items ++ l) (begin_front_cores ∙ ap begin_front (sym c.in-Cores.is))

pub returns-in-Processes-clause-text : goal.returns-in-Processes-clause-text
returns-in-Processes-clause-text c =
    c.add_text-in-Processes.ensures.text
    ∙ ap (λ l. c.args.piece.now.items ++ l) (begin_front_processes ∙ ap begin_front (sym c.in-Processes.is))

pub returns-in-Objects-clause-text : goal.returns-in-Objects-clause-text
returns-in-Objects-clause-text c =
    c.add_text-in-Objects.ensures.text
    ∙ ap (λ l. c.args.piece.now.items ++ l) (begin_front_objects ∙ ap begin_front (sym c.in-Objects.is))
