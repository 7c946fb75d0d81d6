use Rattle.apex_recall.specs.Formed.{IsForm}
use Rattle.apex_search.specs.Steps.{IsWorkplace}
use Rattle.apex_search.proofs.FormRestored.{entered, here_formed, words_stored}
use Rattle.apex_search.proofs.Stepping.{here_parts}
use Rattle.apex_search.proofs.systems.TableSystemSystem.enter.Goals as goal

pub enter-requires-clause-words : goal.enter-requires-clause-words
enter-requires-clause-words c =
    let s = c.self.inside in
    let state : IsForm s.pace s.table c.args.state.now = rw (← c.self.view_is) at c.requires.state in
    words_stored s.pace c.self.invariant.0 c.turns_are_few.ensures s.table c.lawful.ensures c.args.state.now state c.forms_are_ready.ensures

pub returns-clause-workspace : goal.returns-clause-workspace
returns-clause-workspace c =
    let s = c.self.inside in
    let state : IsForm s.pace s.table c.args.state.now = rw (← c.self.view_is) at c.requires.state in
    let was : IsWorkplace s.table c.args.workplace.now = rw (← c.self.view_is) at c.requires.workspace in
    rw (← c.self.view_is) (entered s.table _ _ c.args.state.now was c.enter.ensures.inside c.enter.ensures.made
    (λ here same. here_parts s.pace c.self.invariant.0 c.turns_are_few.ensures s.table c.lawful.ensures c.self.invariant.1 c.forms_are_ready.ensures
    here (here_formed s.pace c.self.invariant.0 c.turns_are_few.ensures s.table c.lawful.ensures c.args.state.now state
    c.words_are_exact.ensures here same) c.parts_are_kept.ensures))
