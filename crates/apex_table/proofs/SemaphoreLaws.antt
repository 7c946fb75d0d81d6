-- Each semaphore that is read is in its ranges.
use Rattle.std.proofs.Common.{◌≤◌, refl}
use Rattle.std.proofs.lemmas.Result.{IfOk-at_ok}
use Rattle.apex_types.specs.declared.limits.TheConstants.{MOST_VALUE}
use Rattle.apex_machine.specs.table.Table.{IsLawfulSemaphore}
use Rattle.apex_words.specs.declared.key.Key.TheVariants as key
use Rattle.apex_table.specs.Keys.{number_at, discipline_at}
use Rattle.apex_table.specs.Semaphores.{semaphore, semaphores}
use Rattle.apex_table.proofs.Results.{ok_then}
use Rattle.apex_table.proofs.KeyLaws.{number_at_law}
use Rattle.apex_table.proofs.SectionLaws.{IsRead, ReadsSound}

pub semaphore_law : ReadsSound semaphores IsLawfulSemaphore
unfolding semaphore
semaphore_law at name ms good =
    ok_then (number_at at 1 MOST_VALUE key.Maximum ms) _ (IsRead semaphores IsLawfulSemaphore name) (λ maximum em.
    ok_then (number_at at 0 maximum key.Initial ms) _ (IsRead semaphores IsLawfulSemaphore name) (λ initial ei.
    ok_then (discipline_at at ms) _ (IsRead semaphores IsLawfulSemaphore name) (λ discipline _.
    let below : (0 ≤ initial) × (initial ≤ maximum) = IfOk-at_ok (λ n. (0 ≤ n) × (n ≤ maximum)) ei (number_at_law at 0 maximum key.Initial ms) in
    record {
      sound = record {
        name = good;
        maximum = IfOk-at_ok (λ n. (1 ≤ n) × (n ≤ MOST_VALUE)) em (number_at_law at 1 MOST_VALUE key.Maximum ms);
        initial = below.1;
      };
      named = refl;
    })))
