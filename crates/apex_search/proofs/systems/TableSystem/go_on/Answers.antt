-- What the search answers about the words it says of the schedules.
use Rattle.apex_explore.proofs.Weaker.{Weakens-refl}
use Rattle.apex_explore.specs.Searches.{IsSearchedBefore}
use Rattle.apex_search.specs.Steps.{makes, search_start}
use Rattle.apex_search.proofs.Along.{says_of}
use Rattle.apex_search.proofs.systems.TableSystem.go_on.Goals as goal

pub go_on-requires-clause-searched : goal.go_on-requires-clause-searched
go_on-requires-clause-searched g c =
    let step = makes c.args.self.now in
    let before : IsSearchedBefore step (search_start c.args.self.now) c.args.search.now = (step, Weakens-refl step, c.requires.searched) in
    λ κs within. before

pub returns-clause-says : goal.returns-clause-says
returns-clause-says g c =
    says_of c.args.self.now c.lawful.ensures.pace c.lawful.ensures.table c.lawful.ensures.reach c.forms_stand_for_situations.ensures
    c.words_are_exact.ensures c.same_forms_have_the_same_words.ensures c.go_on.result _ c.go_on.ensures.says
