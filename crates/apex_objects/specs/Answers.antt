-- The objects of what a session answers besides entries and rows (this profile), a line each.
use Rattle.std.specs.Prelude.{ℕ, List, ◌++◌, Option, codes, decimal}
use Rattle.apex_machine.specs.table.Table.{Table}
use Rattle.apex_objects.specs.Parts.{array_text, or_null, process_object, string_text}

-- `{"KEY":N}`
abbrev pub count_object : List ℕ → ℕ → List ℕ
count_object key n = codes "{\"" ++ key ++ codes "\":" ++ decimal n ++ codes "}\n"

-- `{"fault":"TEXT"}`
abbrev pub fault_object : List ℕ → List ℕ
fault_object text = codes "{\"fault\":" ++ string_text text ++ codes "}\n"

-- `{"next":T,"cores":[C,..]}`: an instant in ticks, or `null`, and cores
abbrev pub next_object : Option ℕ → List ℕ → List ℕ
next_object instant cores =
    codes "{\"next\":" ++ or_null decimal instant ++ codes ",\"cores\":"
    ++ array_text decimal cores ++ codes "}\n"

-- `{"front":E,"now":T,"running":[P,..]}`: the number of entries, the time in ticks, and the process of
-- each core, or `null`
abbrev pub front_object : Table → ℕ → ℕ → List (Option ℕ) → List ℕ
front_object table entries now running =
    codes "{\"front\":" ++ decimal entries ++ codes ",\"now\":" ++ decimal now
    ++ codes ",\"running\":" ++ array_text (or_null (process_object table)) running ++ codes "}\n"
