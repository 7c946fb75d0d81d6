-- The counters of a trace: the value of each semaphore, the content of each buffer, whether each blackboard
-- displays a message and whether each event flag is up, as they change. They are in the group of the objects (3).
-- An argument of a counter is a series, so the partition's time is none.
use Rattle.std.specs.Prelude.{ℕ, Bool, false, List, [], ◌∷◌, ◌++◌, ◌==◌, Option, None, Some, codes, decimal, if◌then◌else◌, slice_get}
use Rattle.apex_machine.specs.text.Listing.{texts_of}
use Rattle.apex_machine.specs.table.Table.{Table}
use Rattle.apex_machine.specs.text.Texts.{buffer_name, semaphore_name, blackboard_name, event_flag_name}
use Rattle.apex_moments.specs.Counts.{Counts, object_count}
use Rattle.apex_traces.specs.Times.{time_text}
use Rattle.apex_moments.specs.Texts.{texts}
use Rattle.apex_json.specs.Strings.{json_text}
use Rattle.apex_moments.specs.declared.kinds.Kind.{Kind}
use Rattle.apex_moments.specs.declared.kinds.Kind.TheVariants.{Semaphore, Buffer, Blackboard, EventFlag}

-- the word for a kind
abbrev pub kind_word : Kind → List ℕ
kind_word Semaphore = codes "semaphore"
kind_word Buffer = codes "buffer"
kind_word Blackboard = codes "blackboard"
kind_word EventFlag = codes "event"

-- what is counted of a kind
abbrev pub unit_word : Kind → List ℕ
unit_word Semaphore = codes "value"
unit_word Buffer = codes "messages"
unit_word Blackboard = codes "messages"
unit_word EventFlag = codes "up"

-- the name of the object of a kind at place i
abbrev pub object_name : Table → Kind → ℕ → List ℕ
object_name table Semaphore i = semaphore_name table i
object_name table Buffer i = buffer_name table i
object_name table Blackboard i = blackboard_name table i
object_name table EventFlag i = event_flag_name table i

-- the count of the object of this kind and name, in this unit
unfoldable pub count_text : List ℕ → List ℕ → List ℕ → ℕ → ℕ → List ℕ
count_text kind name unit time count = texts (
    codes ",\n{\"ph\":\"C\",\"pid\":3,\"ts\":" ∷ time_text time ∷ codes ",\"name\":\"" ∷ kind
    ∷ codes " "
    ∷ json_text name ∷ codes "\",\"args\":{\"" ∷ unit ∷ codes "\":" ∷ decimal count ∷ codes "}}"
    ∷ [])

-- a count is the one before, if there was one
abbrev pub same_count : Option ℕ → ℕ → Bool
same_count None count = false
same_count (Some before) count = before == count

-- the count of the object of a kind at place i, if it is not the one before
abbrev pub change_text : Table → ℕ → Kind → ℕ → Option ℕ → ℕ → List ℕ
change_text table time kind i before count =
    if same_count before count then []
    else count_text (kind_word kind) (object_name table kind i) (unit_word kind) time count

-- the same, if the object has a count
abbrev pub changed_text : Table → ℕ → Kind → ℕ → Option ℕ → Option ℕ → List ℕ
changed_text table time kind i before None = []
changed_text table time kind i before (Some count) = change_text table time kind i before count

-- the change of the count at place i, out of the counts of all objects of a kind
abbrev pub count_at : Table → ℕ → Kind → List ℕ → List ℕ → ℕ → List ℕ
count_at table time kind before after i =
    changed_text table time kind i (slice_get before i) (slice_get after i)

-- the changes of the counts of all objects of a kind
abbrev pub kind_text : Table → ℕ → Kind → List ℕ → List ℕ → List ℕ
kind_text table time kind before after =
    texts_of (count_at table time kind before after) (object_count table kind)

-- the changes of all counters
abbrev pub counters_text : Table → ℕ → Counts → Counts → List ℕ
counters_text table time before after =
    kind_text table time Semaphore before.values after.values
    ++ kind_text table time Buffer before.contents after.contents
    ++ kind_text table time Blackboard before.displays after.displays
    ++ kind_text table time EventFlag before.flags after.flags
