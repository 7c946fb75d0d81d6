-- The entry is the last one of the history, so it is printable.
use Rattle.std.proofs.Common.{◌≡◌, ◌∙◌, List, None, Some, ap, sym}
use Rattle.std.specs.List.{last_or}
use Rattle.apex_calls.specs.Lines.{IsPrintable}
use Rattle.apex_types.specs.declared.entries.Entry.{Entry}
use Rattle.apex_printouts.proofs.Lasts.{all_last}
use Rattle.apex_printouts.proofs.answers.write_last.Goals as goal

pub print_entry-requires : goal.print_entry-requires
print_entry-requires g c =
    let history = c.args.kernel.now.machine.history in
    let last : last_or None history ≡ Some c.in-Some.entry =
    ap (λ (h : List Entry). last_or None h) (sym c.entries.ensures) ∙ sym c.latest.ensures ∙ c.in-Some.is in
    rw c.table.ensures (all_last (IsPrintable c.args.kernel.now.table) history c.in-Some.entry c.holds.ensures.printable last)

pub returns-in-Some-clause-ok : goal.returns-in-Some-clause-ok
returns-in-Some-clause-ok g c =
    let last : last_or None c.args.kernel.now.machine.history ≡ Some c.in-Some.entry =
    ap (λ (h : List Entry). last_or None h) (sym c.entries.ensures) ∙ sym c.latest.ensures ∙ c.in-Some.is in
    rw last (rw c.table.ensures at c.print_entry.ensures.ok)

pub returns-in-Some-clause-err : goal.returns-in-Some-clause-err
returns-in-Some-clause-err g c =
    let last : last_or None c.args.kernel.now.machine.history ≡ Some c.in-Some.entry =
    ap (λ (h : List Entry). last_or None h) (sym c.entries.ensures) ∙ sym c.latest.ensures ∙ c.in-Some.is in
    rw last (rw c.table.ensures at c.print_entry.ensures.err)
