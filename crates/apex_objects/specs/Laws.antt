-- What a reader of JSON takes from the strings of the objects.
use Rattle.std.specs.Prelude.{◌≡◌, ℕ, List, [], ◌∷◌, ◌++◌, Bool, Option, Some, codes, decimal}
use Rattle.apex_types.specs.declared.entries.Caller.TheVariants.{Process as AskedBy}
use Rattle.apex_types.specs.declared.entries.Notice.TheVariants.{Woken, Released, Missed}
use Rattle.apex_calls.specs.Lines.{asked_text, reply_text, who_text}
use Rattle.apex_json.specs.Strings.{between, json_read}
use Rattle.apex_machine.specs.declared.records.Wait.TheVariants as waits
use Rattle.apex_machine.specs.processes.Held.{in_order}
use Rattle.apex_machine.specs.table.Table.{Table}
use Rattle.apex_machine.specs.text.Status.{up_text}
use Rattle.apex_machine.specs.text.Texts.{id_text, message_text, process_name, semaphore_name, buffer_name, blackboard_name, event_flag_name, mutex_name}
use Rattle.apex_objects.specs.Terms.{Entry, Holding, Message, Notice, Record, State, Wait}
use Rattle.apex_objects.specs.Entries.{entry_object, front_part, notice_object, texts_part}
use Rattle.apex_objects.specs.Parts.{array_text, elements_text, holding_object, message_string, or_null, process_object, process_part, string_text, thing_part}
use Rattle.apex_objects.specs.Rows.{core_object, process_row, semaphore_row, buffer_row, blackboard_row, event_flag_row, mutex_row, instants_part, optional_wait_part, state_part, suspender_string}

-- behind this front of a text stands a string, and a reader takes these bytes from it
pub record IsReadBehind (front bytes text : List ℕ) : Type 0 where
  -- the text behind the quote
  pub string : List ℕ
  -- the text behind the string
  pub rest : List ℕ
  pub place : text ≡ front ++ codes "\"" ++ string
  pub read : json_read between string ≡ Some (bytes, rest)

-- the text of an array before the element that comes behind these ones
abbrev pub array_before : {A : Type 0} → (A → List ℕ) → List A → List ℕ
array_before text [] = codes "["
array_before text (x ∷ xs) = codes "[" ++ elements_text text (x ∷ xs) ++ codes ","

-- the kind of a notice in words, and its process
abbrev pub notice_word : Notice → List ℕ
notice_word (Woken p code) = codes "woken"
notice_word (Released p) = codes "released"
notice_word (Missed p kind) = codes "missed"

abbrev pub noticed : Notice → ℕ
noticed (Woken p code) = p
noticed (Released p) = p
noticed (Missed p kind) = p

-- In the object of an entry each call, each reply, the name of the process that calls, and the name
-- of the process of each notice is read back.
pub record EntriesAreReadBack (table : Table) (entry : Entry) : Type 0 where
  pub call : IsReadBehind (front_part table entry ++ codes ",\"call\":")
      (asked_text table entry.call entry.reply) (entry_object table entry)
  pub reply : IsReadBehind (front_part table entry ++ codes ",\"call\":"
      ++ string_text (asked_text table entry.call entry.reply) ++ codes ",\"reply\":")
      (reply_text table entry.reply) (entry_object table entry)
  pub caller : (p : ℕ) → entry.process ≡ AskedBy p
      → IsReadBehind (codes "{\"number\":" ++ decimal entry.number
      ++ codes ",\"now\":" ++ decimal entry.now ++ codes ",\"who\":\"" ++ who_text entry.who
      ++ codes "\",\"process\":" ++ id_text p ++ codes ",\"name\":")
      (process_name table p) (entry_object table entry)
  pub notices : (before : List Notice) (notice : Notice) (after : List Notice)
      → entry.notices ≡ before ++ notice ∷ after
      → IsReadBehind (front_part table entry ++ texts_part table entry ++ codes ",\"notices\":"
      ++ array_before (notice_object table) before
      ++ codes "{\"notice\":\"" ++ notice_word notice ++ codes "\",\"process\":"
      ++ id_text (noticed notice) ++ codes ",\"name\":")
      (process_name table (noticed notice)) (entry_object table entry)

-- the front of a row: its thing's id behind this key, and its name
abbrev pub row_front : List ℕ → ℕ → List ℕ → List ℕ
row_front key i name = thing_part key i (codes ",\"name\":") name

-- a row begins with an id behind this key, and this name is read back behind it
abbrev pub BeginsWithName : List ℕ → ℕ → List ℕ → List ℕ → Type 0
BeginsWithName key i name row = IsReadBehind (key ++ id_text i ++ codes ",\"name\":") name row

-- the name of each waiter is read back from a row that has this front before its waiters
abbrev pub NamesWaiters : Table → List ℕ → (List ℕ → List ℕ) → Type 0
NamesWaiters table front row = (before : List ℕ) (p : ℕ) (after : List ℕ)
    → IsReadBehind (front ++ codes ",\"waiting\":" ++ array_before (process_object table) before
    ++ codes "{\"process\":" ++ id_text p ++ codes ",\"name\":")
    (process_name table p) (row (before ++ p ∷ after))

-- the name of the object for which a process waits is read back from the row of the process
abbrev pub NamesAwaited : Table → Wait → List ℕ → ℕ → List ℕ → Type 0
NamesAwaited table wait kind i name = (p : ℕ) (state : State) (r : Record) → r.wait ≡ Some wait
    → IsReadBehind (row_front (codes "{\"process\":") p (process_name table p)
    ++ state_part state r ++ codes ",\"wait\":\"" ++ kind ++ codes "\",\"object\":" ++ id_text i
    ++ codes ",\"of\":") name (process_row table p state r)

-- In the rows of the listing the name of each process and of each object is read back.
pub record NamesAreReadBack (table : Table) : Type 0 where
  pub running : (core p : ℕ)
      → IsReadBehind (codes "{\"core\":" ++ decimal core ++ codes ",\"running\":" ++ id_text p
      ++ codes ",\"name\":") (process_name table p) (core_object table core (Some p))
  pub processes : (p : ℕ) (state : State) (r : Record)
      → BeginsWithName (codes "{\"process\":") p (process_name table p)
      (process_row table p state r)
  pub semaphores : (s value : ℕ) (waiting : List ℕ)
      → BeginsWithName (codes "{\"semaphore\":") s (semaphore_name table s)
      (semaphore_row table s value waiting)
  pub buffers : (b : ℕ) (messages : List Message) (waiting : List ℕ)
      → BeginsWithName (codes "{\"buffer\":") b (buffer_name table b)
      (buffer_row table b messages waiting)
  pub blackboards : (b : ℕ) (message : Option Message) (waiting : List ℕ)
      → BeginsWithName (codes "{\"blackboard\":") b (blackboard_name table b)
      (blackboard_row table b message waiting)
  pub event_flags : (e : ℕ) (up : Bool) (waiting : List ℕ)
      → BeginsWithName (codes "{\"event\":") e (event_flag_name table e)
      (event_flag_row table e up waiting)
  pub mutexes : (m : ℕ) (owner : Option ℕ) (depth : ℕ) (waiting : List ℕ)
      → BeginsWithName (codes "{\"mutex\":") m (mutex_name table m)
      (mutex_row table m owner depth waiting)
  pub owners : (m q depth : ℕ) (waiting : List ℕ)
      → IsReadBehind (row_front (codes "{\"mutex\":") m (mutex_name table m)
      ++ codes ",\"owner\":" ++ id_text q ++ codes ",\"of\":")
      (process_name table q) (mutex_row table m (Some q) depth waiting)
  pub owned : (p : ℕ) (state : State) (r : Record) (before : List Holding) (holding : Holding)
      (after : List Holding) → in_order r.owned ≡ before ++ holding ∷ after
      → IsReadBehind (row_front (codes "{\"process\":") p (process_name table p)
      ++ state_part state r ++ optional_wait_part table r.wait ++ instants_part r
      ++ codes ",\"suspended\":" ++ or_null suspender_string r.suspended
      ++ codes ",\"owns\":" ++ array_before (holding_object table) before
      ++ codes "{\"mutex\":" ++ id_text holding.mutex ++ codes ",\"name\":")
      (mutex_name table holding.mutex) (process_row table p state r)

-- The names of what processes wait for, and of those that wait, are read back.
pub record WaitsAreReadBack (table : Table) : Type 0 where
  pub semaphore : (s : ℕ)
      → NamesAwaited table (waits.Semaphore s) (codes "semaphore") s (semaphore_name table s)
  pub receive : (b : ℕ)
      → NamesAwaited table (waits.Receive b) (codes "buffer") b (buffer_name table b)
  pub send : (b : ℕ) (message : Message)
      → NamesAwaited table (waits.Send b message) (codes "buffer") b (buffer_name table b)
  pub blackboard : (b : ℕ)
      → NamesAwaited table (waits.Blackboard b) (codes "blackboard") b (blackboard_name table b)
  pub event_flag : (e : ℕ)
      → NamesAwaited table (waits.EventFlag e) (codes "event") e (event_flag_name table e)
  pub mutex : (m : ℕ)
      → NamesAwaited table (waits.Mutex m) (codes "mutex") m (mutex_name table m)
  pub at_semaphores : (s value : ℕ)
      → NamesWaiters table (row_front (codes "{\"semaphore\":") s (semaphore_name table s)
      ++ codes ",\"value\":" ++ decimal value) (semaphore_row table s value)
  pub at_buffers : (b : ℕ) (messages : List Message)
      → NamesWaiters table (row_front (codes "{\"buffer\":") b (buffer_name table b)
      ++ codes ",\"messages\":" ++ array_text (message_string table) messages)
      (buffer_row table b messages)
  pub at_blackboards : (b : ℕ) (message : Option Message)
      → NamesWaiters table (row_front (codes "{\"blackboard\":") b (blackboard_name table b)
      ++ codes ",\"message\":" ++ or_null (message_string table) message)
      (blackboard_row table b message)
  pub at_event_flags : (e : ℕ) (up : Bool)
      → NamesWaiters table (row_front (codes "{\"event\":") e (event_flag_name table e)
      ++ codes ",\"state\":\"" ++ up_text up ++ codes "\"") (event_flag_row table e up)
  pub at_mutexes : (m : ℕ) (owner : Option ℕ) (depth : ℕ)
      → NamesWaiters table (row_front (codes "{\"mutex\":") m (mutex_name table m)
      ++ process_part table (codes ",\"owner\":") (codes ",\"of\":") owner
      ++ codes ",\"depth\":" ++ decimal depth) (mutex_row table m owner depth)

-- In the rows of the listing each message is read back.
pub record MessagesAreReadBack (table : Table) : Type 0 where
  pub buffers : (b : ℕ) (before : List Message) (message : Message) (after : List Message)
      (waiting : List ℕ)
      → IsReadBehind (row_front (codes "{\"buffer\":") b (buffer_name table b)
      ++ codes ",\"messages\":" ++ array_before (message_string table) before)
      (message_text table message) (buffer_row table b (before ++ message ∷ after) waiting)
  pub blackboards : (b : ℕ) (message : Message) (waiting : List ℕ)
      → IsReadBehind (row_front (codes "{\"blackboard\":") b (blackboard_name table b)
      ++ codes ",\"message\":")
      (message_text table message) (blackboard_row table b (Some message) waiting)
  pub inboxes : (p : ℕ) (state : State) (r : Record) (message : Message) → r.inbox ≡ Some message
      → IsReadBehind (row_front (codes "{\"process\":") p (process_name table p)
      ++ state_part state r ++ optional_wait_part table r.wait ++ instants_part r
      ++ codes ",\"suspended\":" ++ or_null suspender_string r.suspended
      ++ codes ",\"owns\":" ++ array_text (holding_object table) (in_order r.owned)
      ++ codes ",\"inbox\":")
      (message_text table message) (process_row table p state r)

-- Each call and each reply of an entry, each name in an entry or in a row of the listing, and each
-- message in a row is read back as it is from its place.
pub record AreReadBack : Type 0 where
  pub entries : (table : Table) (entry : Entry) → EntriesAreReadBack table entry
  pub names : (table : Table) → NamesAreReadBack table
  pub waits : (table : Table) → WaitsAreReadBack table
  pub messages : (table : Table) → MessagesAreReadBack table
