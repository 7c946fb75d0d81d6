-- The parts of the objects (this profile): JSON (RFC 8259), a line each, without blanks between tokens.
use Rattle.std.specs.Prelude.{ℕ, List, [], ◌∷◌, ◌++◌, Option, None, Some, codes, flat_map}
use Rattle.apex_json.specs.Strings.{json_text}
use Rattle.apex_objects.specs.Terms.{Holding, Message}
use Rattle.apex_machine.specs.table.Table.{Table}
use Rattle.apex_machine.specs.text.Status.{behind_text}
use Rattle.apex_machine.specs.text.Texts.{id_text, message_text, mutex_name, process_name}

-- a text as a string, which a reader takes back
unfoldable pub string_text : List ℕ → List ℕ
string_text bytes = codes "\"" ++ json_text bytes ++ codes "\""

-- the text of a value, or `null` without one
abbrev pub or_null : {A : Type 0} → (A → List ℕ) → Option A → List ℕ
or_null text None = codes "null"
or_null text (Some x) = text x

-- the elements of an array
abbrev pub elements_text : {A : Type 0} → (A → List ℕ) → List A → List ℕ
elements_text text [] = []
elements_text text (x ∷ xs) = text x ++ flat_map (behind_text text) xs

-- an array of these values
unfoldable pub array_text : {A : Type 0} → (A → List ℕ) → List A → List ℕ
array_text text xs = codes "[" ++ elements_text text xs ++ codes "]"

-- a thing of the table: behind the one key its id, and behind the other one its name
unfoldable pub thing_part : List ℕ → ℕ → List ℕ → List ℕ → List ℕ
thing_part key i name_key name = key ++ id_text i ++ name_key ++ string_text name

-- a process behind these keys, or `null` twice
abbrev pub process_part : Table → List ℕ → List ℕ → Option ℕ → List ℕ
process_part table key name_key None = key ++ codes "null" ++ name_key ++ codes "null"
process_part table key name_key (Some p) = thing_part key p name_key (process_name table p)

-- the object of a process, by its id and its name
abbrev pub process_object : Table → ℕ → List ℕ
process_object table p =
    thing_part (codes "{\"process\":") p (codes ",\"name\":") (process_name table p) ++ codes "}"

-- the object of a mutex that a process owns
abbrev pub holding_object : Table → Holding → List ℕ
holding_object table holding =
    thing_part (codes "{\"mutex\":") holding.mutex (codes ",\"name\":")
    (mutex_name table holding.mutex)
    ++ codes "}"

-- a message, as the text that a line has
abbrev pub message_string : Table → Message → List ℕ
message_string table message = string_text (message_text table message)
