-- Each blackboard that is read is in its range.
use Rattle.std.proofs.Common.{◌≤◌, refl}
use Rattle.std.proofs.lemmas.Result.{IfOk-at_ok}
use Rattle.apex_types.specs.declared.limits.TheConstants.{MOST_MESSAGE}
use Rattle.apex_machine.specs.table.Table.{IsLawfulBlackboard}
use Rattle.apex_words.specs.declared.key.Key.TheVariants as key
use Rattle.apex_table.specs.Keys.{number_at}
use Rattle.apex_table.specs.Blackboards.{blackboard, blackboards}
use Rattle.apex_table.proofs.Results.{ok_then}
use Rattle.apex_table.proofs.KeyLaws.{number_at_law}
use Rattle.apex_table.proofs.SectionLaws.{IsRead, ReadsSound}

pub blackboard_law : ReadsSound blackboards IsLawfulBlackboard
unfolding blackboard
blackboard_law at name ms good =
    ok_then (number_at at 1 MOST_MESSAGE key.Length ms) _ (IsRead blackboards IsLawfulBlackboard name) (λ length el.
    record {
      sound = record {
        name = good;
        length = IfOk-at_ok (λ n. (1 ≤ n) × (n ≤ MOST_MESSAGE)) el (number_at_law at 1 MOST_MESSAGE key.Length ms);
      };
      named = refl;
    })
