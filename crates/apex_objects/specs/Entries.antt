-- The objects of a history: a line for each entry (this profile).
use Rattle.std.specs.Prelude.{ℕ, List, ◌++◌, None, Some, codes, decimal, flat_map}
use Rattle.apex_calls.specs.Lines.{asked_text, code_text, deadline_text, reply_text, who_text}
use Rattle.apex_objects.specs.Terms.{Caller, Entry, Notice}
use Rattle.apex_machine.specs.table.Table.{Table}
use Rattle.apex_types.specs.declared.entries.Caller.TheVariants.{Process as AskedBy, Init, Nobody}
use Rattle.apex_types.specs.declared.entries.Notice.TheVariants.{Woken, Released, Missed}
use Rattle.apex_objects.specs.Parts.{array_text, process_part, string_text}

-- the process of a notice
abbrev pub noticed_part : Table → ℕ → List ℕ
noticed_part table p = process_part table (codes ",\"process\":") (codes ",\"name\":") (Some p)

-- the effect of the event on a process
abbrev pub notice_object : Table → Notice → List ℕ
notice_object table (Woken p code) =
    codes "{\"notice\":\"woken\"" ++ noticed_part table p ++ codes ",\"code\":\""
    ++ code_text code ++ codes "\"}"
notice_object table (Released p) =
    codes "{\"notice\":\"released\"" ++ noticed_part table p ++ codes "}"
notice_object table (Missed p kind) =
    codes "{\"notice\":\"missed\"" ++ noticed_part table p ++ codes ",\"deadline\":\""
    ++ deadline_text kind ++ codes "\"}"

-- the caller: a process, the init list, or none
abbrev pub caller_part : Table → Caller → List ℕ
caller_part table (AskedBy p) =
    process_part table (codes ",\"process\":") (codes ",\"name\":") (Some p)
caller_part table Init = codes ",\"process\":\"init\",\"name\":null"
caller_part table Nobody = process_part table (codes ",\"process\":") (codes ",\"name\":") None

-- the number of the entry, its time, the maker of its event, and the caller
unfoldable pub front_part : Table → Entry → List ℕ
front_part table entry =
    codes "{\"number\":" ++ decimal entry.number ++ codes ",\"now\":" ++ decimal entry.now
    ++ codes ",\"who\":\"" ++ who_text entry.who ++ codes "\"" ++ caller_part table entry.process

-- the texts of the call and of the reply, as the line has them
unfoldable pub texts_part : Table → Entry → List ℕ
texts_part table entry =
    codes ",\"call\":" ++ string_text (asked_text table entry.call entry.reply)
    ++ codes ",\"reply\":" ++ string_text (reply_text table entry.reply)

-- the object of an entry, with its line feed
abbrev pub entry_object : Table → Entry → List ℕ
entry_object table entry =
    front_part table entry ++ texts_part table entry ++ codes ",\"notices\":"
    ++ array_text (notice_object table) entry.notices ++ codes "}\n"

-- the objects of a history, one behind the other
abbrev pub objects_of : Table → List Entry → List ℕ
objects_of table entries = flat_map (entry_object table) entries
