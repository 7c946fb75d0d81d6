-- A count that changes.
use Rattle.std.proofs.Common.{◌≡◌, ◌∙◌, ℕ, ◌<◌, false, List, [], ◌++◌, Option, Some, ap, append-nil, append_assoc, codes, decimal, refl, sym}
use Rattle.std.proofs.lemmas.Bool.{eq-eqb}
use Rattle.std.specs.Prelude.{slice_get}
use Rattle.apex_machine.specs.Deeds.{Objects}
use Rattle.apex_machine.specs.processes.Roster.{Roster}
use Rattle.apex_machine.specs.table.Table.{Table}
use Rattle.apex_traces.specs.Counters.{change_text, changed_text, count_text, kind_text, kind_word, object_name, same_count, unit_word}
use Rattle.apex_moments.specs.Counts.{Counts, count_of, counts_in, counts_of, object_count, owners_in}
use Rattle.apex_traces.specs.Times.{time_text}
use Rattle.apex_traces.specs.Trace.{mutexes_text, objects_text}
use Rattle.apex_moments.specs.declared.kinds.Kind.{Kind}
use Rattle.apex_moments.specs.declared.kinds.Kind.TheVariants.{Semaphore, Buffer, Blackboard, EventFlag}
use Rattle.apex_json.specs.Strings.{json_text}
use Rattle.apex_moments.proofs.Places.{found_at}

-- seven texts, one behind the other
seven : (a b c d e f g : List ℕ) → a ++ b ++ c ++ d ++ e ++ f ++ g ≡ a ++ (b ++ (c ++ (d ++ (e ++ (f ++ g)))))
seven a b c d e f g =
    append_assoc (a ++ b ++ c ++ d ++ e) f g ∙ append_assoc (a ++ b ++ c ++ d) e (f ++ g)
    ∙ append_assoc (a ++ b ++ c) d (e ++ (f ++ g)) ∙ append_assoc (a ++ b) c (d ++ (e ++ (f ++ g)))
    ∙ append_assoc a b (c ++ (d ++ (e ++ (f ++ g))))

-- what the code puts before the name of an object of a kind, and behind it
abbrev pub front_text : Kind → List ℕ
front_text kind = codes ",\"name\":\"" ++ kind_word kind ++ codes " "

abbrev pub back_text : Kind → List ℕ
back_text kind = codes "\",\"args\":{\"" ++ unit_word kind ++ codes "\":"

abbrev pub counter_text : Kind → List ℕ → ℕ → ℕ → List ℕ
counter_text kind name time count =
    codes ",\n{\"ph\":\"C\",\"pid\":3,\"ts\":" ++ time_text time ++ front_text kind
    ++ json_text name ++ back_text kind ++ decimal count ++ codes "}}"

-- these texts are the count of the object
pub counted : (kind : Kind) (name : List ℕ) (time count : ℕ)
    → counter_text kind name time count ≡ count_text (kind_word kind) name (unit_word kind) time count
unfolding count_text
counted Semaphore name time count =
    seven (codes ",\n{\"ph\":\"C\",\"pid\":3,\"ts\":") (time_text time) (front_text Semaphore) (json_text name)
    (back_text Semaphore) (decimal count) (codes "}}")
counted Buffer name time count =
    seven (codes ",\n{\"ph\":\"C\",\"pid\":3,\"ts\":") (time_text time) (front_text Buffer) (json_text name)
    (back_text Buffer) (decimal count) (codes "}}")
counted Blackboard name time count =
    seven (codes ",\n{\"ph\":\"C\",\"pid\":3,\"ts\":") (time_text time) (front_text Blackboard) (json_text name)
    (back_text Blackboard) (decimal count) (codes "}}")
counted EventFlag name time count =
    seven (codes ",\n{\"ph\":\"C\",\"pid\":3,\"ts\":") (time_text time) (front_text EventFlag) (json_text name)
    (back_text EventFlag) (decimal count) (codes "}}")

-- a count that is not the one before
pub count_changed : (table : Table) (time : ℕ) (kind : Kind) (i : ℕ) (before : Option ℕ) (count : ℕ) (text name whole : List ℕ)
    → same_count before count ≡ false → name ≡ object_name table kind i
    → whole ≡ text ++ count_text (kind_word kind) name (unit_word kind) time count
    → whole ≡ text ++ change_text table time kind i before count
count_changed table time kind i before count text name whole differs named put =
    rw (differs, ← named) put

-- nothing is put if a count is the one before
pub count_still : (table : Table) (time : ℕ) (kind : Kind) (i before count : ℕ) (text : List ℕ) → before ≡ count
    → text ≡ text ++ change_text table time kind i (Some before) count
count_still table time kind i before count text is =
    let nothing : change_text table time kind i (Some before) count ≡ [] = rw (eq-eqb before count is) refl in
    sym (append-nil text) ∙ ap (λ (l : List ℕ). text ++ l) (sym nothing)

-- the change of the count at a place
pub change_at : (table : Table) (time : ℕ) (kind : Kind) (objects : Objects) (before : Option ℕ) (i : ℕ)
    → i < object_count table kind
    → change_text table time kind i before (count_of objects kind i)
    ≡ changed_text table time kind i before (slice_get (counts_in table objects kind) i)
change_at table time kind objects before i within =
    rw (found_at (count_of objects kind) (object_count table kind) i within) refl

-- five texts behind another one
five_behind : (text a b c d e one two three four whole : List ℕ)
    → one ≡ text ++ a → two ≡ one ++ b → three ≡ two ++ c → four ≡ three ++ d → whole ≡ four ++ e
    → whole ≡ text ++ (a ++ b ++ c ++ d ++ e)
five_behind text a b c d e one two three four whole v w x y z =
    z ∙ ap (λ l. l ++ e) (y ∙ ap (λ l. l ++ d) (x ∙ ap (λ l. l ++ c) (w ∙ ap (λ l. l ++ b) v)))
    ∙ ap (λ l. ((l ++ c) ++ d) ++ e) (append_assoc text a b)
    ∙ ap (λ l. (l ++ d) ++ e) (append_assoc text (a ++ b) c)
    ∙ ap (λ l. l ++ e) (append_assoc text (a ++ b ++ c) d)
    ∙ append_assoc text (a ++ b ++ c ++ d) e

-- the changes of each kind, and then those on the tracks of the mutexes
pub objects_whole : (table : Table) (time : ℕ) (before : Counts) (roster : Roster) (objects : Objects)
    (values contents displays flags : List ℕ) (owners : List (Option ℕ)) (text one two three four whole : List ℕ)
    → values ≡ before.values → contents ≡ before.contents → displays ≡ before.displays → flags ≡ before.flags
    → owners ≡ before.owners
    → one ≡ text ++ kind_text table time Semaphore values (counts_in table objects Semaphore)
    → two ≡ one ++ kind_text table time Buffer contents (counts_in table objects Buffer)
    → three ≡ two ++ kind_text table time Blackboard displays (counts_in table objects Blackboard)
    → four ≡ three ++ kind_text table time EventFlag flags (counts_in table objects EventFlag)
    → whole ≡ four ++ mutexes_text table time owners (owners_in table roster)
    → whole ≡ text ++ objects_text table time before (counts_of table roster objects)
unfolding counts_of
objects_whole table time before roster objects values contents displays flags owners text one two three four whole
    value content display flag owned first second third fourth fifth =
    five_behind text (kind_text table time Semaphore before.values (counts_in table objects Semaphore))
    (kind_text table time Buffer before.contents (counts_in table objects Buffer))
    (kind_text table time Blackboard before.displays (counts_in table objects Blackboard))
    (kind_text table time EventFlag before.flags (counts_in table objects EventFlag))
    (mutexes_text table time before.owners (owners_in table roster)) one two three four whole
    (rw value at first) (rw content at second) (rw display at third) (rw flag at fourth) (rw owned at fifth)

-- counts of these
abbrev pub counts_of_all : List ℕ → List ℕ → List ℕ → List ℕ → List (Option ℕ) → Counts
counts_of_all values contents displays flags owners =
    record { values = values; contents = contents; displays = displays; flags = flags; owners = owners }

pub counts_with : {values contents displays flags after_values after_contents after_displays after_flags : List ℕ}
    {owners after_owners : List (Option ℕ)}
    → values ≡ after_values → contents ≡ after_contents → displays ≡ after_displays → flags ≡ after_flags → owners ≡ after_owners
    → counts_of_all values contents displays flags owners
    ≡ counts_of_all after_values after_contents after_displays after_flags after_owners
counts_with value content display flag owned = rw (value, content, display, flag, owned) refl
