use Rattle.apex_search.proofs.Along.{says_of}
use Rattle.apex_search.proofs.systems.TableSystem.search.Goals as goal

pub returns : goal.returns
returns g c =
    rw (← c.self.view_is) (says_of _ c.self.invariant.0 c.lawful.ensures c.self.invariant.1 c.forms_stand_for_situations.ensures
    c.words_are_exact.ensures c.same_forms_have_the_same_words.ensures c.explore.result c.args.room
    (rw (← c.self.view_is) at c.explore.ensures))
