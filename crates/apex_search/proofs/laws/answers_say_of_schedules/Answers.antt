use Rattle.apex_search.proofs.Says.{says}
use Rattle.apex_search.proofs.laws.answers_say_of_schedules.Goals as goal

pub returns : goal.returns
returns c table lawful pace is_pace question room answer said = says _ is_pace lawful room answer said
