use Rattle.std.proofs.Common.{◌∙◌}
use Rattle.apex_choices.specs.Counts.{paced_in}
use Rattle.apex_search.proofs.Starting.{start_fit, start_fits, start_words_are}
use Rattle.apex_search.proofs.systems.put_start.Goals as goal

pub put_words-requires-clause-fit : goal.put_words-requires-clause-fit
put_words-requires-clause-fit c =
    start_fit c.args.pace c.requires.pace c.turns_are_few.ensures c.args.table.now c.lawful.ensures c.requires.reach c.forms_are_ready.ensures
    (paced_in c.args.paced.now) c.requires.start

pub put_words-requires-clause-fits : goal.put_words-requires-clause-fits
put_words-requires-clause-fits c =
    start_fits c.args.pace c.requires.pace c.turns_are_few.ensures c.args.table.now c.lawful.ensures c.requires.reach c.forms_are_ready.ensures
    (paced_in c.args.paced.now) c.requires.start

pub returns : goal.returns
returns c =
    c.put_words.ensures
    ∙ start_words_are c.args.pace c.requires.pace c.turns_are_few.ensures c.args.table.now c.lawful.ensures c.requires.reach c.forms_are_ready.ensures
    (paced_in c.args.paced.now) c.requires.start
