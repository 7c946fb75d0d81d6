-- The answer is the reason of the entry, or says why there is none.
use Rattle.std.proofs.Common.{ℕ, List, ◌++◌, ap, codes}
use Rattle.std.proofs.KnownBytes.{Keeps-refl}
use Rattle.apex_lab_cli.specs.Whys.{answered, lacking, no_memory, unwritten}
use Rattle.apex_lab_cli.proofs.whys.answer.Goals as goal

pub returns-in-Ok : goal.returns-in-Ok
returns-in-Ok g c =
    rw c.in-Ok.ensures.counted
    (answered (c.deref.result.now ++ codes "\n")
    (c.in-Ok-Some.reason.items, rw c.in-Ok-Some.field-0-is at c.in-Ok-Some.ensures.some, ap (λ (l : List ℕ). l ++ codes "\n") c.deref.ensures.0)
    c.in-Ok.ensures.ok)

pub returns-in-Err-print_reason : goal.returns-in-Err-print_reason
returns-in-Err-print_reason g c =
    rw c.in-Err-print_reason.ensures.counted
    (unwritten (c.deref.result.now ++ codes "\n")
    (c.in-Ok-Some.reason.items, rw c.in-Ok-Some.field-0-is at c.in-Ok-Some.ensures.some, ap (λ (l : List ℕ). l ++ codes "\n") c.deref.ensures.0)
    c.in-Err-print_reason.ensures.err)

pub returns-in-Ok-None : goal.returns-in-Ok-None
returns-in-Ok-None g c = lacking (c.in-Ok-None.ensures.none c.in-Ok-None.field-0-is) (Keeps-refl _)

pub returns-in-Err : goal.returns-in-Err
returns-in-Err g c = no_memory (Keeps-refl _)
