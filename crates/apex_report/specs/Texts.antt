-- The lines of a report (this profile).
use Rattle.std.specs.Prelude.{◌≡◌, ℕ, List, ◌++◌, flat_map}
use Rattle.apex_json.specs.declared.Form.TheVariants.{Text}
use Rattle.apex_machine.specs.table.Table.{Table}
use Rattle.apex_machine.specs.text.Status.{history_line}
use Rattle.apex_report.specs.Report.{Report, report}
use Rattle.apex_report.specs.Rows.{core_row, object_row, process_row, service_row}
use Rattle.apex_report.specs.Terms.{Entry}

-- the lines of a report: the number of entries, each core, each process, each object, and each service
-- that refused a call
abbrev pub lines_of : Table → Report → List ℕ
lines_of table r =
    history_line r.entries ++ flat_map (core_row Text) r.cores
    ++ flat_map (process_row Text table) r.processes
    ++ flat_map (object_row Text table) r.objects
    ++ flat_map (service_row Text) r.services

-- the report of a history, as a text
abbrev pub report_text : Table → List Entry → List ℕ
report_text table history = lines_of table (report table history)

-- the report is that of this history of the table's partition
abbrev pub IsReportOf : Table → List Entry → Report → Type 0
IsReportOf table history r = r ≡ report table history

-- the report is that of a history of the table's partition
abbrev pub IsOfTable : Table → Report → Type 0
IsOfTable table r = (history : List Entry) × IsReportOf table history r
