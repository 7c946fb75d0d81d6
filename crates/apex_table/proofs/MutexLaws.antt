-- Each mutex that is read is in its range.
use Rattle.std.proofs.Common.{◌≤◌, refl}
use Rattle.std.proofs.lemmas.Result.{IfOk-at_ok}
use Rattle.apex_types.specs.declared.limits.TheConstants.{MOST_PRIORITY}
use Rattle.apex_machine.specs.table.Table.{IsLawfulMutex}
use Rattle.apex_words.specs.declared.key.Key.TheVariants as key
use Rattle.apex_table.specs.Keys.{number_at, discipline_at}
use Rattle.apex_table.specs.Mutexes.{mutex, mutexes}
use Rattle.apex_table.proofs.Results.{ok_then}
use Rattle.apex_table.proofs.KeyLaws.{number_at_law}
use Rattle.apex_table.proofs.SectionLaws.{IsRead, ReadsSound}

pub mutex_law : ReadsSound mutexes IsLawfulMutex
unfolding mutex
mutex_law at name ms good =
    ok_then (number_at at 1 MOST_PRIORITY key.Ceiling ms) _ (IsRead mutexes IsLawfulMutex name) (λ ceiling ec.
    ok_then (discipline_at at ms) _ (IsRead mutexes IsLawfulMutex name) (λ discipline _.
    record {
      sound = record {
        name = good;
        ceiling = IfOk-at_ok (λ n. (1 ≤ n) × (n ≤ MOST_PRIORITY)) ec (number_at_law at 1 MOST_PRIORITY key.Ceiling ms);
      };
      named = refl;
    }))
