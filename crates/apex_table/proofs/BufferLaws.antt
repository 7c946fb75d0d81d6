-- Each buffer that is read is in its ranges.
use Rattle.std.proofs.Common.{◌≤◌, refl}
use Rattle.std.proofs.lemmas.Result.{IfOk-at_ok}
use Rattle.apex_types.specs.declared.limits.TheConstants.{MOST_MESSAGE, MOST_MESSAGES}
use Rattle.apex_machine.specs.table.Table.{IsLawfulBuffer}
use Rattle.apex_words.specs.declared.key.Key.TheVariants as key
use Rattle.apex_table.specs.Keys.{number_at, discipline_at}
use Rattle.apex_table.specs.Buffers.{buffer, buffers}
use Rattle.apex_table.proofs.Results.{ok_then}
use Rattle.apex_table.proofs.KeyLaws.{number_at_law}
use Rattle.apex_table.proofs.SectionLaws.{IsRead, ReadsSound}

pub buffer_law : ReadsSound buffers IsLawfulBuffer
unfolding buffer
buffer_law at name ms good =
    ok_then (number_at at 1 MOST_MESSAGE key.Length ms) _ (IsRead buffers IsLawfulBuffer name) (λ length el.
    ok_then (number_at at 1 MOST_MESSAGES key.Capacity ms) _ (IsRead buffers IsLawfulBuffer name) (λ capacity ec.
    ok_then (discipline_at at ms) _ (IsRead buffers IsLawfulBuffer name) (λ discipline _.
    record {
      sound = record {
        name = good;
        length = IfOk-at_ok (λ n. (1 ≤ n) × (n ≤ MOST_MESSAGE)) el (number_at_law at 1 MOST_MESSAGE key.Length ms);
        capacity = IfOk-at_ok (λ n. (1 ≤ n) × (n ≤ MOST_MESSAGES)) ec (number_at_law at 1 MOST_MESSAGES key.Capacity ms);
      };
      named = refl;
    })))
