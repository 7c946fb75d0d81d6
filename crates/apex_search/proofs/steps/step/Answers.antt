use Rattle.std.proofs.Common.{◌∙◌, sym}
use Rattle.apex_choices.specs.Counts.{paced_in}
use Rattle.apex_forms.specs.Forms.{canonical_paced}
use Rattle.apex_search.proofs.Stepping.{form_fits, form_words_are, here_can, here_counts, is_form, made_fit, made_parts, step_next}
use Rattle.apex_choices.proofs.Same.{paced_refl}
use Rattle.apex_search.proofs.steps.step.Goals as goal

pub make-requires-clause-can : goal.make-requires-clause-can
make-requires-clause-can c =
    here_can c.args.pace c.requires.pace c.turns_are_few.ensures c.args.table.now c.lawful.ensures c.requires.reach c.forms_are_ready.ensures
    (paced_in c.args.paced.now) c.requires.form

pub make-requires-clause-counts : goal.make-requires-clause-counts
make-requires-clause-counts c =
    here_counts c.args.pace c.requires.pace c.turns_are_few.ensures c.args.table.now c.lawful.ensures c.requires.reach c.forms_are_ready.ensures
    (paced_in c.args.paced.now) c.requires.form c.args.event c.requires.event.within

pub make-requires-clause-event : goal.make-requires-clause-event
make-requires-clause-event c = c.requires.event.within

pub put_words-requires-clause-fit : goal.put_words-requires-clause-fit
put_words-requires-clause-fit c =
    made_fit c.args.pace c.requires.pace c.turns_are_few.ensures c.args.table.now c.lawful.ensures c.requires.reach c.forms_are_ready.ensures
    (paced_in c.args.paced.now) c.requires.form c.requires.event.choice c.args.event c.requires.event.found (paced_in c.make.new.paced) c.make.ensures.step

pub put_words-requires-clause-fits : goal.put_words-requires-clause-fits
put_words-requires-clause-fits c =
    form_fits c.args.pace c.requires.pace c.turns_are_few.ensures c.args.table.now c.lawful.ensures c.requires.reach c.forms_are_ready.ensures
    (paced_in c.args.paced.now) c.requires.form c.requires.event.choice c.args.event c.requires.event.found (paced_in c.make.new.paced) c.make.ensures.step
    (canonical_paced c.args.pace (paced_in c.make.new.paced)) (paced_refl (canonical_paced c.args.pace (paced_in c.make.new.paced)))

pub returns-clause-step : goal.returns-clause-step
returns-clause-step c =
    step_next c.args.pace c.requires.pace c.turns_are_few.ensures c.args.table.now c.lawful.ensures c.requires.reach c.forms_are_ready.ensures
    (paced_in c.args.paced.now) c.requires.form
    c.args.question.now c.put_words.new.words c.args.event
    (sym c.if-make.false ∙ c.make.ensures.asked)
    (form_words_are c.args.pace c.requires.pace c.turns_are_few.ensures c.args.table.now c.lawful.ensures c.requires.reach c.forms_are_ready.ensures
    (paced_in c.args.paced.now) c.requires.form c.requires.event.choice c.args.event c.requires.event.found (paced_in c.make.new.paced) c.make.ensures.step
    (canonical_paced c.args.pace (paced_in c.make.new.paced)) (paced_refl (canonical_paced c.args.pace (paced_in c.make.new.paced))) c.put_words.new.words c.put_words.ensures)

pub returns-clause-state : goal.returns-clause-state
returns-clause-state c =
    is_form c.args.pace c.requires.pace c.turns_are_few.ensures c.args.table.now c.lawful.ensures c.requires.reach c.forms_are_ready.ensures
    (paced_in c.args.paced.now) c.requires.form c.requires.event.choice c.args.event c.requires.event.found (paced_in c.make.new.paced) c.make.ensures.step
    (canonical_paced c.args.pace (paced_in c.make.new.paced)) (paced_refl (canonical_paced c.args.pace (paced_in c.make.new.paced))) c.put_words.new.words c.put_words.ensures

pub returns-clause-parts : goal.returns-clause-parts
returns-clause-parts c =
    made_parts c.args.pace c.requires.pace c.turns_are_few.ensures c.args.table.now c.lawful.ensures c.requires.reach c.forms_are_ready.ensures
    (paced_in c.args.paced.now) c.requires.form c.requires.event.choice c.args.event c.requires.event.found (paced_in c.make.new.paced) c.make.ensures.step c.parts_are_kept.ensures

pub returns-then-make-clause-parts : goal.returns-then-make-clause-parts
returns-then-make-clause-parts c =
    made_parts c.args.pace c.requires.pace c.turns_are_few.ensures c.args.table.now c.lawful.ensures c.requires.reach c.forms_are_ready.ensures
    (paced_in c.args.paced.now) c.requires.form c.requires.event.choice c.args.event c.requires.event.found (paced_in c.make.new.paced) c.make.ensures.step c.parts_are_kept.ensures
