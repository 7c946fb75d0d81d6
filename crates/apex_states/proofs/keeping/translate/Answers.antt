-- A number that was found before, or is looked up now.
use Rattle.std.proofs.Common.{None, Some, ap, ◌∙◌}
use Rattle.std.proofs.lemmas.Option.{slice_get-get_or}
use Rattle.apex_states.proofs.Numbering.{AreFound-set}
use Rattle.apex_states.proofs.keeping.translate.Goals as goal

pub returns-in-Some-clause-number : goal.returns-in-Some-clause-number
returns-in-Some-clause-number c = λ k is. c.requires.found c.args.number c.in-Some.translated k (slice_get-get_or c.args.found.now c.args.number None c.requires.slot ∙ ap Some c.in-Some.is) is

pub returns-in_ok-translated-in-None-clause-found : goal.returns-in_ok-translated-in-None-clause-found
returns-in_ok-translated-in-None-clause-found c = AreFound-set c.args.known.now c.args.half.now c.translate.new.self c.args.found.now c.args.number c.in_ok-translated-in-None.translated c.translate.ensures.held c.in_ok-translated-in-None.ensures.number c.requires.found
