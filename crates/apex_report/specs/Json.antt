-- The report of a history as JSON (this profile): one object, whose figures have the keys that they have
-- in the lines.
use Rattle.std.specs.Prelude.{ℕ, List, [], ◌∷◌, ◌++◌, codes, decimal, flat_map}
use Rattle.apex_json.specs.declared.Form.TheVariants.{Json}
use Rattle.apex_machine.specs.table.Table.{Table}
use Rattle.apex_report.specs.Report.{Report, report}
use Rattle.apex_report.specs.Rows.{behind_text, core_row, object_row, process_row, service_row}
use Rattle.apex_report.specs.Terms.{Entry}

-- the elements of an array, each on a line of its own
abbrev pub elements_text : {X : Type 0} → (X → List ℕ) → List X → List ℕ
elements_text text [] = []
elements_text text (x ∷ xs) = codes "\n" ++ text x ++ flat_map (behind_text Json text) xs

-- an array behind this front
abbrev pub array_text : {X : Type 0} → List ℕ → (X → List ℕ) → List X → List ℕ
array_text front text xs = front ++ elements_text text xs ++ codes "]"

-- the cores, the processes, the objects and the services of a report
abbrev pub arrays_text : Table → Report → List ℕ
arrays_text table r =
    array_text (codes ",\"cores\":[") (core_row Json) r.cores
    ++ array_text (codes ",\"processes\":[") (process_row Json table) r.processes
    ++ array_text (codes ",\"objects\":[") (object_row Json table) r.objects
    ++ array_text (codes ",\"services\":[") (service_row Json) r.services

-- a report as JSON: the number of entries, and each array
abbrev pub json_of : Table → Report → List ℕ
json_of table r =
    (codes "{\"entries\":" ++ decimal r.entries) ++ arrays_text table r ++ codes "}\n"

-- the report of a history, as JSON
abbrev pub report_json : Table → List Entry → List ℕ
report_json table history = json_of table (report table history)
