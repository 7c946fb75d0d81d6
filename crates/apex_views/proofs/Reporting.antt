-- The report of a kernel's history, as it was made and as it is printed.
use Rattle.std.proofs.Common.{◌≡◌, ◌∙◌, ap, sym, List}
use Rattle.apex_machine.specs.table.Table.{Table}
use Rattle.apex_report.specs.Report.{Report, report}
use Rattle.apex_types.specs.declared.entries.Entry.{Entry}

-- whichever of two lendings of the table is meant
pub is_report : {one other table : Table} {entries history : List Entry} {made : Report}
    → one ≡ table → other ≡ table → entries ≡ history
    → made ≡ report one entries → made ≡ report other history
is_report {one} {other} {table} {entries} first second same is =
    is ∙ ap (λ t. report t entries) (first ∙ sym second) ∙ ap (λ l. report other l) same
