-- The texts of objects are read back.
use Rattle.std.proofs.Common.{◌≡◌, ◌∙◌, ℕ, List, [], ◌∷◌, ◌++◌, Option, Some, ap, codes, decimal, refl, subst, sym, append_assoc}
use Rattle.std.proofs.lemmas.Grind.{flat_map-append}
use Rattle.std.specs.Prelude.{flat_map}
use Rattle.apex_types.specs.declared.entries.Caller.{Caller}
use Rattle.apex_types.specs.declared.entries.Caller.TheVariants.{Process as AskedBy}
use Rattle.apex_types.specs.declared.entries.Notice.TheVariants.{Woken, Released, Missed}
use Rattle.apex_calls.specs.Lines.{asked_text, code_text, deadline_text, reply_text, who_text}
use Rattle.apex_json.proofs.ReadBack.{read_back}
use Rattle.apex_json.specs.Strings.{json_text}
use Rattle.apex_machine.specs.declared.records.Wait.TheVariants as waits
use Rattle.apex_machine.specs.processes.Held.{in_order}
use Rattle.apex_machine.specs.table.Table.{Table}
use Rattle.apex_machine.specs.text.Status.{behind_text, up_text}
use Rattle.apex_machine.specs.text.Texts.{id_text, message_text, process_name, semaphore_name, buffer_name, blackboard_name, event_flag_name, mutex_name}
use Rattle.apex_objects.specs.Entries.{caller_part, entry_object, front_part, notice_object, texts_part}
use Rattle.apex_objects.specs.Laws.{AreReadBack, EntriesAreReadBack, BeginsWithName, IsReadBehind, MessagesAreReadBack, NamesAreReadBack, NamesAwaited, NamesWaiters, WaitsAreReadBack, array_before, notice_word, noticed, row_front}
use Rattle.apex_objects.specs.Parts.{array_text, holding_object, message_string, or_null, process_object, process_part, string_text, thing_part}
use Rattle.apex_objects.specs.Rows.{core_object, process_row, semaphore_row, buffer_row, blackboard_row, event_flag_row, mutex_row, held_part, instants_part, object_wait, optional_wait_part, state_part, suspender_string, wait_part, waiting_part}
use Rattle.apex_objects.specs.Terms.{Entry, Holding, Message, Notice, Record, State, Wait}

-- texts that are joined in another order
apart_three : (f a b c : List ℕ) → f ++ (a ++ b ++ c) ≡ f ++ a ++ b ++ c
apart_three f a b c = simp append_assoc refl

apart_five : (f a b c d e : List ℕ) → f ++ (a ++ b ++ c ++ d ++ e) ≡ f ++ a ++ b ++ c ++ d ++ e
apart_five f a b c d e = simp append_assoc refl

one_later : (f a b c : List ℕ) → f ++ (a ++ b) ++ c ≡ f ++ a ++ (b ++ c)
one_later f a b c = simp append_assoc refl

one_inside : (f a b c d : List ℕ) → f ++ (a ++ b ++ c) ++ d ≡ (f ++ a) ++ b ++ (c ++ d)
one_inside f a b c d = simp append_assoc refl

in_element : (f a b c d e g : List ℕ) → f ++ (a ++ (b ++ c ++ d) ++ e) ++ g ≡ (f ++ a ++ b) ++ c ++ (d ++ e ++ g)
in_element f a b c d e g = simp append_assoc refl

in_thing : (f a b c d e : List ℕ) → f ++ (a ++ b ++ c ++ d) ++ e ≡ (f ++ a ++ b ++ c) ++ d ++ e
in_thing f a b c d e = simp append_assoc refl

in_notice : (f a b c d e g h : List ℕ) → f ++ (a ++ b ++ c ++ d) ++ e ++ g ++ h ≡ (f ++ a ++ b ++ c) ++ d ++ (e ++ g ++ h)
in_notice f a b c d e g h = simp append_assoc refl

in_entry : (f a b c d e g h i j : List ℕ) → (f ++ a ++ (b ++ c ++ d ++ e)) ++ g ++ h ++ i ++ j ≡ (f ++ (a ++ b) ++ c ++ d) ++ e ++ (g ++ (h ++ i ++ j))
in_entry f a b c d e g h i j = simp append_assoc refl

in_wait : (f a b c d e g h i j : List ℕ) → f ++ (a ++ b ++ (c ++ d ++ e ++ g)) ++ h ++ i ++ j ≡ (f ++ a ++ b ++ c ++ d ++ e) ++ g ++ (h ++ i ++ j)
in_wait f a b c d e g h i j = simp append_assoc refl

in_held : (f a b c d e g h : List ℕ) → f ++ (a ++ b ++ c ++ d ++ e ++ g) ++ h ≡ (f ++ a ++ b ++ c) ++ d ++ (e ++ g ++ h)
in_held f a b c d e g h = simp append_assoc refl

with_last : (f a b c d : List ℕ) → f ++ a ++ (b ++ c ++ d) ≡ (f ++ a ++ b) ++ c ++ d
with_last f a b c d = simp append_assoc refl

behind_three : (f a b c : List ℕ) → f ++ a ++ b ++ c ≡ f ++ (a ++ b ++ c)
behind_three f a b c = simp append_assoc refl

behind_four : (f a b c d : List ℕ) → f ++ a ++ b ++ c ++ d ≡ f ++ (a ++ b ++ c ++ d)
behind_four f a b c d = simp append_assoc refl

behind_five : (f a b c d e : List ℕ) → f ++ a ++ b ++ c ++ d ++ e ≡ f ++ (a ++ b ++ c ++ d ++ e)
behind_five f a b c d e = simp append_assoc refl

in_list : (f a b c d e g : List ℕ) → f ++ (a ++ (b ++ (c ++ d ++ e))) ++ g ≡ (f ++ (a ++ b) ++ c) ++ d ++ (e ++ g)
in_list f a b c d e g = simp append_assoc refl

-- a string behind a front
string_back : (front bytes rest : List ℕ) → IsReadBehind front bytes (front ++ string_text bytes ++ rest)
unfolding string_text
string_back front bytes rest = record {
  string = json_text bytes ++ 34 ∷ rest;
  rest = rest;
  place = simp append_assoc refl;
  read = read_back bytes rest;
}

-- a text that has a string behind a front
placed : (front bytes rest text : List ℕ) → text ≡ front ++ string_text bytes ++ rest → IsReadBehind front bytes text
placed front bytes rest text e = subst (IsReadBehind front bytes) (sym e) (string_back front bytes rest)

-- the name of a thing, behind a front
thing_back : (front key : List ℕ) (i : ℕ) (name_key name rest text : List ℕ)
    → text ≡ front ++ thing_part key i name_key name ++ rest → IsReadBehind (front ++ key ++ id_text i ++ name_key) name text
unfolding thing_part
thing_back front key i name_key name rest text e =
    placed (front ++ key ++ id_text i ++ name_key) name rest text
    (e ∙ in_thing front key (id_text i) name_key (string_text name) rest)

module _ {A : Type 0} (text : A → List ℕ) where
  -- what is behind an element of an array
  abbrev behind_element : List A → List ℕ
  behind_element after = flat_map (behind_text text) after ++ codes "]"

  -- an array is what is before an element, the element, and what is behind it
  around : (before : List A) (x : A) (after : List A)
      → array_text text (before ++ x ∷ after) ≡ array_before text before ++ text x ++ behind_element after
  unfolding array_text
  around [] x after = one_later (codes "[") (text x) (flat_map (behind_text text) after) (codes "]")
  around (y ∷ before) x after =
      let first = flat_map (behind_text text) before in
      let later = flat_map (behind_text text) after in
      ap (λ l. codes "[" ++ (text y ++ l) ++ codes "]") (flat_map-append (behind_text text) before (x ∷ after))
      ∙ in_list (codes "[") (text y) first (codes ",") (text x) later (codes "]")

  -- a string of an element, behind a front
  array_back : (front : List ℕ) (before : List A) (x : A) (after : List A) (elements : List A) → elements ≡ before ++ x ∷ after
      → (head bytes tail : List ℕ) → text x ≡ head ++ string_text bytes ++ tail → (rest whole : List ℕ)
      → whole ≡ front ++ array_text text elements ++ rest → IsReadBehind (front ++ array_before text before ++ head) bytes whole
  array_back front before x after elements split head bytes tail has rest whole e =
      placed (front ++ array_before text before ++ head) bytes (tail ++ behind_element after ++ rest) whole
      (e ∙ ap (λ l. front ++ l ++ rest) (ap (array_text text) split ∙ around before x after ∙ ap (λ l. array_before text before ++ l ++ behind_element after) has)
      ∙ in_element front (array_before text before) head (string_text bytes) tail (behind_element after) rest)

-- the strings of elements
process_has : (table : Table) (p : ℕ)
    → process_object table p ≡ (codes "{\"process\":" ++ id_text p ++ codes ",\"name\":") ++ string_text (process_name table p) ++ codes "}"
unfolding thing_part
process_has table p = refl

holding_has : (table : Table) (holding : Holding)
    → holding_object table holding
    ≡ (codes "{\"mutex\":" ++ id_text holding.mutex ++ codes ",\"name\":") ++ string_text (mutex_name table holding.mutex) ++ codes "}"
unfolding thing_part
holding_has table holding = refl

abbrev notice_tail : Notice → List ℕ
notice_tail (Woken p code) = codes ",\"code\":\"" ++ code_text code ++ codes "\"}"
notice_tail (Released p) = codes "}"
notice_tail (Missed p kind) = codes ",\"deadline\":\"" ++ deadline_text kind ++ codes "\"}"

notice_has : (table : Table) (notice : Notice)
    → notice_object table notice
    ≡ (codes "{\"notice\":\"" ++ notice_word notice ++ codes "\",\"process\":" ++ id_text (noticed notice) ++ codes ",\"name\":")
    ++ string_text (process_name table (noticed notice)) ++ notice_tail notice
unfolding thing_part
notice_has table (Woken p code) =
    in_notice (codes "{\"notice\":\"woken\"") (codes ",\"process\":") (id_text p) (codes ",\"name\":") (string_text (process_name table p))
    (codes ",\"code\":\"") (code_text code) (codes "\"}")
notice_has table (Released p) =
    in_thing (codes "{\"notice\":\"released\"") (codes ",\"process\":") (id_text p) (codes ",\"name\":") (string_text (process_name table p)) (codes "}")
notice_has table (Missed p kind) =
    in_notice (codes "{\"notice\":\"missed\"") (codes ",\"process\":") (id_text p) (codes ",\"name\":") (string_text (process_name table p))
    (codes ",\"deadline\":\"") (deadline_text kind) (codes "\"}")

module _ (table : Table) (entry : Entry) where
  abbrev asked : List ℕ
  asked = asked_text table entry.call entry.reply

  abbrev replied : List ℕ
  replied = reply_text table entry.reply

  -- the text behind that of the reply
  abbrev behind : List ℕ
  behind = codes ",\"notices\":" ++ array_text (notice_object table) entry.notices ++ codes "}\n"

  call_placed : entry_object table entry
      ≡ (front_part table entry ++ codes ",\"call\":") ++ string_text asked ++ (codes ",\"reply\":" ++ string_text replied ++ behind)
  unfolding texts_part
  call_placed = simp append_assoc refl

  reply_placed : entry_object table entry
      ≡ (front_part table entry ++ codes ",\"call\":" ++ string_text asked ++ codes ",\"reply\":") ++ string_text replied ++ behind
  unfolding texts_part
  reply_placed = simp append_assoc refl

  -- the object up to its caller
  abbrev up_to_caller : List ℕ
  up_to_caller = codes "{\"number\":" ++ decimal entry.number ++ codes ",\"now\":" ++ decimal entry.now ++ codes ",\"who\":\"" ++ who_text entry.who

  -- the object, with this caller
  abbrev called_by : Caller → List ℕ
  called_by caller =
      (up_to_caller ++ codes "\"" ++ caller_part table caller) ++ texts_part table entry ++ codes ",\"notices\":"
      ++ array_text (notice_object table) entry.notices ++ codes "}\n"

  caller_placed : (p : ℕ) → entry.process ≡ AskedBy p
      → entry_object table entry
      ≡ (up_to_caller ++ codes "\",\"process\":" ++ id_text p ++ codes ",\"name\":") ++ string_text (process_name table p) ++ (texts_part table entry ++ behind)
  unfolding front_part thing_part
  caller_placed p e =
      ap called_by e
      ∙ in_entry up_to_caller (codes "\"") (codes ",\"process\":") (id_text p) (codes ",\"name\":") (string_text (process_name table p)) (texts_part table entry)
      (codes ",\"notices\":") (array_text (notice_object table) entry.notices) (codes "}\n")

  notice_back : (before : List Notice) (notice : Notice) (after : List Notice) → entry.notices ≡ before ++ notice ∷ after
      → IsReadBehind (front_part table entry ++ texts_part table entry ++ codes ",\"notices\":" ++ array_before (notice_object table) before
      ++ codes "{\"notice\":\"" ++ notice_word notice ++ codes "\",\"process\":" ++ id_text (noticed notice) ++ codes ",\"name\":")
      (process_name table (noticed notice)) (entry_object table entry)
  notice_back before notice after split =
      let front = front_part table entry ++ texts_part table entry ++ codes ",\"notices\":" in
      subst (λ (l : List ℕ). IsReadBehind l (process_name table (noticed notice)) (entry_object table entry))
      (apart_five (front ++ array_before (notice_object table) before) (codes "{\"notice\":\"") (notice_word notice) (codes "\",\"process\":")
      (id_text (noticed notice)) (codes ",\"name\":"))
      (array_back (notice_object table) front before notice after entry.notices split
      (codes "{\"notice\":\"" ++ notice_word notice ++ codes "\",\"process\":" ++ id_text (noticed notice) ++ codes ",\"name\":")
      (process_name table (noticed notice)) (notice_tail notice) (notice_has table notice) (codes "}\n") (entry_object table entry) refl)

  entry_back : EntriesAreReadBack table entry
  entry_back = record {
    call = placed (front_part table entry ++ codes ",\"call\":") asked (codes ",\"reply\":" ++ string_text replied ++ behind) (entry_object table entry) call_placed;
    reply = placed (front_part table entry ++ codes ",\"call\":" ++ string_text asked ++ codes ",\"reply\":") replied behind (entry_object table entry) reply_placed;
    caller = λ p e. placed (up_to_caller ++ codes "\",\"process\":" ++ id_text p ++ codes ",\"name\":") (process_name table p) (texts_part table entry ++ behind)
        (entry_object table entry) (caller_placed p e);
    notices = notice_back;
  }

module _ (table : Table) where
  -- the name at the beginning of a row
  named : (key : List ℕ) (i : ℕ) (name rest row : List ℕ) → row ≡ row_front key i name ++ rest → BeginsWithName key i name row
  named key i name rest row e = thing_back [] key i (codes ",\"name\":") name rest row e

  running_back : (core p : ℕ)
      → IsReadBehind (codes "{\"core\":" ++ decimal core ++ codes ",\"running\":" ++ id_text p ++ codes ",\"name\":")
      (process_name table p) (core_object table core (Some p))
  running_back core p =
      thing_back (codes "{\"core\":" ++ decimal core) (codes ",\"running\":") p (codes ",\"name\":") (process_name table p) (codes "}\n")
      (core_object table core (Some p)) refl

  owner_back : (m q depth : ℕ) (waiting : List ℕ)
      → IsReadBehind (row_front (codes "{\"mutex\":") m (mutex_name table m) ++ codes ",\"owner\":" ++ id_text q ++ codes ",\"of\":")
      (process_name table q) (mutex_row table m (Some q) depth waiting)
  owner_back m q depth waiting =
      let front = row_front (codes "{\"mutex\":") m (mutex_name table m) in
      let owner = thing_part (codes ",\"owner\":") q (codes ",\"of\":") (process_name table q) in
      thing_back front (codes ",\"owner\":") q (codes ",\"of\":") (process_name table q)
      (codes ",\"depth\":" ++ decimal depth ++ waiting_part table waiting) (mutex_row table m (Some q) depth waiting)
      (behind_three (front ++ owner) (codes ",\"depth\":") (decimal depth) (waiting_part table waiting))

  module _ (p : ℕ) (state : State) (r : Record) where
    abbrev process_front : List ℕ
    process_front = row_front (codes "{\"process\":") p (process_name table p)

    -- the row of a process up to the suspender
    abbrev up_to_held : List ℕ
    up_to_held = process_front ++ state_part state r ++ optional_wait_part table r.wait ++ instants_part r

    -- the row of a process up to its mutexes
    abbrev up_to_owned : List ℕ
    up_to_owned = up_to_held ++ codes ",\"suspended\":" ++ or_null suspender_string r.suspended ++ codes ",\"owns\":"

    abbrev owned_array : List ℕ
    owned_array = array_text (holding_object table) (in_order r.owned)

    -- the rest of the row, with this inbox
    abbrev from_inbox : Option Message → List ℕ
    from_inbox inbox = codes ",\"inbox\":" ++ or_null (message_string table) inbox ++ codes "}\n"

    row_is : process_row table p state r ≡ up_to_owned ++ owned_array ++ from_inbox r.inbox
    unfolding held_part
    row_is =
        in_held up_to_held (codes ",\"suspended\":") (or_null suspender_string r.suspended) (codes ",\"owns\":") owned_array (codes ",\"inbox\":")
        (or_null (message_string table) r.inbox) (codes "}\n")

    owned_back : (before : List Holding) (holding : Holding) (after : List Holding) → in_order r.owned ≡ before ++ holding ∷ after
        → IsReadBehind (up_to_owned ++ array_before (holding_object table) before ++ codes "{\"mutex\":" ++ id_text holding.mutex ++ codes ",\"name\":")
        (mutex_name table holding.mutex) (process_row table p state r)
    owned_back before holding after split =
        subst (λ (l : List ℕ). IsReadBehind l (mutex_name table holding.mutex) (process_row table p state r))
        (apart_three (up_to_owned ++ array_before (holding_object table) before) (codes "{\"mutex\":") (id_text holding.mutex) (codes ",\"name\":"))
        (array_back (holding_object table) up_to_owned before holding after (in_order r.owned) split
        (codes "{\"mutex\":" ++ id_text holding.mutex ++ codes ",\"name\":") (mutex_name table holding.mutex) (codes "}")
        (holding_has table holding) (from_inbox r.inbox) (process_row table p state r) row_is)

    inbox_back : (message : Message) → r.inbox ≡ Some message
        → IsReadBehind (up_to_owned ++ owned_array ++ codes ",\"inbox\":") (message_text table message) (process_row table p state r)
    inbox_back message e =
        placed (up_to_owned ++ owned_array ++ codes ",\"inbox\":") (message_text table message) (codes "}\n") (process_row table p state r)
        (row_is ∙ ap (λ (inbox : Option Message). up_to_owned ++ owned_array ++ from_inbox inbox) e
        ∙ with_last up_to_owned owned_array (codes ",\"inbox\":") (message_string table message) (codes "}\n"))

  awaited_back : (wait : Wait) (kind : List ℕ) (i : ℕ) (name : List ℕ) → wait_part table wait ≡ object_wait kind i name → NamesAwaited table wait kind i name
  unfolding object_wait thing_part
  awaited_back wait kind i name is p state r e =
      let front = row_front (codes "{\"process\":") p (process_name table p) ++ state_part state r in
      placed (front ++ codes ",\"wait\":\"" ++ kind ++ codes "\",\"object\":" ++ id_text i ++ codes ",\"of\":") name
      (instants_part r ++ held_part table r ++ codes "}\n") (process_row table p state r)
      (ap (λ l. front ++ l ++ instants_part r ++ held_part table r ++ codes "}\n") (ap (optional_wait_part table) e ∙ is)
      ∙ in_wait front (codes ",\"wait\":\"") kind (codes "\",\"object\":") (id_text i) (codes ",\"of\":") (string_text name)
      (instants_part r) (held_part table r) (codes "}\n"))

  waiters_back : (front : List ℕ) (row : List ℕ → List ℕ) → ((waiting : List ℕ) → row waiting ≡ front ++ waiting_part table waiting) → NamesWaiters table front row
  unfolding waiting_part
  waiters_back front row ends before p after =
      let waiting = before ++ p ∷ after in
      subst (λ (l : List ℕ). IsReadBehind l (process_name table p) (row waiting))
      (apart_three (front ++ codes ",\"waiting\":" ++ array_before (process_object table) before) (codes "{\"process\":") (id_text p) (codes ",\"name\":"))
      (array_back (process_object table) (front ++ codes ",\"waiting\":") before p after waiting refl
      (codes "{\"process\":" ++ id_text p ++ codes ",\"name\":") (process_name table p) (codes "}") (process_has table p)
      (codes "}\n") (row waiting)
      (ends waiting ∙ apart_three front (codes ",\"waiting\":") (array_text (process_object table) waiting) (codes "}\n")))

  buffer_back : (b : ℕ) (before : List Message) (message : Message) (after : List Message) (waiting : List ℕ)
      → IsReadBehind (row_front (codes "{\"buffer\":") b (buffer_name table b) ++ codes ",\"messages\":" ++ array_before (message_string table) before)
      (message_text table message) (buffer_row table b (before ++ message ∷ after) waiting)
  buffer_back b before message after waiting =
      let front = row_front (codes "{\"buffer\":") b (buffer_name table b) ++ codes ",\"messages\":" in
      placed (front ++ array_before (message_string table) before) (message_text table message)
      (behind_element (message_string table) after ++ waiting_part table waiting) (buffer_row table b (before ++ message ∷ after) waiting)
      (ap (λ l. front ++ l ++ waiting_part table waiting) (around (message_string table) before message after)
      ∙ one_inside front (array_before (message_string table) before) (message_string table message) (behind_element (message_string table) after)
      (waiting_part table waiting))

  names_back : NamesAreReadBack table
  names_back = record {
    running = running_back;
    processes = λ p state r.
        let rest = state_part state r ++ optional_wait_part table r.wait ++ instants_part r ++ held_part table r ++ codes "}\n" in
        named (codes "{\"process\":") p (process_name table p) rest (process_row table p state r)
        (behind_five (row_front (codes "{\"process\":") p (process_name table p)) (state_part state r) (optional_wait_part table r.wait) (instants_part r)
        (held_part table r) (codes "}\n"));
    semaphores = λ s value waiting.
        named (codes "{\"semaphore\":") s (semaphore_name table s) (codes ",\"value\":" ++ decimal value ++ waiting_part table waiting)
        (semaphore_row table s value waiting)
        (behind_three (row_front (codes "{\"semaphore\":") s (semaphore_name table s)) (codes ",\"value\":") (decimal value) (waiting_part table waiting));
    buffers = λ b messages waiting.
        named (codes "{\"buffer\":") b (buffer_name table b)
        (codes ",\"messages\":" ++ array_text (message_string table) messages ++ waiting_part table waiting) (buffer_row table b messages waiting)
        (behind_three (row_front (codes "{\"buffer\":") b (buffer_name table b)) (codes ",\"messages\":") (array_text (message_string table) messages)
        (waiting_part table waiting));
    blackboards = λ b message waiting.
        named (codes "{\"blackboard\":") b (blackboard_name table b)
        (codes ",\"message\":" ++ or_null (message_string table) message ++ waiting_part table waiting) (blackboard_row table b message waiting)
        (behind_three (row_front (codes "{\"blackboard\":") b (blackboard_name table b)) (codes ",\"message\":") (or_null (message_string table) message)
        (waiting_part table waiting));
    event_flags = λ e up waiting.
        named (codes "{\"event\":") e (event_flag_name table e)
        (codes ",\"state\":\"" ++ up_text up ++ codes "\"" ++ waiting_part table waiting) (event_flag_row table e up waiting)
        (behind_four (row_front (codes "{\"event\":") e (event_flag_name table e)) (codes ",\"state\":\"") (up_text up) (codes "\"")
        (waiting_part table waiting));
    mutexes = λ m owner depth waiting.
        let owned = process_part table (codes ",\"owner\":") (codes ",\"of\":") owner in
        named (codes "{\"mutex\":") m (mutex_name table m) (owned ++ codes ",\"depth\":" ++ decimal depth ++ waiting_part table waiting)
        (mutex_row table m owner depth waiting)
        (behind_four (row_front (codes "{\"mutex\":") m (mutex_name table m)) owned (codes ",\"depth\":") (decimal depth)
        (waiting_part table waiting));
    owners = owner_back;
    owned = owned_back;
  }

  waits_back : WaitsAreReadBack table
  waits_back = record {
    semaphore = λ s. awaited_back (waits.Semaphore s) (codes "semaphore") s (semaphore_name table s) refl;
    receive = λ b. awaited_back (waits.Receive b) (codes "buffer") b (buffer_name table b) refl;
    send = λ b message. awaited_back (waits.Send b message) (codes "buffer") b (buffer_name table b) refl;
    blackboard = λ b. awaited_back (waits.Blackboard b) (codes "blackboard") b (blackboard_name table b) refl;
    event_flag = λ e. awaited_back (waits.EventFlag e) (codes "event") e (event_flag_name table e) refl;
    mutex = λ m. awaited_back (waits.Mutex m) (codes "mutex") m (mutex_name table m) refl;
    at_semaphores = λ s value. waiters_back (row_front (codes "{\"semaphore\":") s (semaphore_name table s) ++ codes ",\"value\":" ++ decimal value)
        (semaphore_row table s value) (λ waiting. refl);
    at_buffers = λ b messages. waiters_back
        (row_front (codes "{\"buffer\":") b (buffer_name table b) ++ codes ",\"messages\":" ++ array_text (message_string table) messages)
        (buffer_row table b messages) (λ waiting. refl);
    at_blackboards = λ b message. waiters_back
        (row_front (codes "{\"blackboard\":") b (blackboard_name table b) ++ codes ",\"message\":" ++ or_null (message_string table) message)
        (blackboard_row table b message) (λ waiting. refl);
    at_event_flags = λ e up. waiters_back
        (row_front (codes "{\"event\":") e (event_flag_name table e) ++ codes ",\"state\":\"" ++ up_text up ++ codes "\"")
        (event_flag_row table e up) (λ waiting. refl);
    at_mutexes = λ m owner depth. waiters_back
        (row_front (codes "{\"mutex\":") m (mutex_name table m) ++ process_part table (codes ",\"owner\":") (codes ",\"of\":") owner
        ++ codes ",\"depth\":" ++ decimal depth)
        (mutex_row table m owner depth) (λ waiting. refl);
  }

  messages_back : MessagesAreReadBack table
  messages_back = record {
    buffers = buffer_back;
    blackboards = λ b message waiting. placed (row_front (codes "{\"blackboard\":") b (blackboard_name table b) ++ codes ",\"message\":")
        (message_text table message) (waiting_part table waiting) (blackboard_row table b (Some message) waiting) refl;
    inboxes = inbox_back;
  }

pub all_back : AreReadBack
all_back = record { entries = entry_back; names = names_back; waits = waits_back; messages = messages_back }
