-- The values at the keys of TOML's tree, and the faults if a key is absent, or its value of another
-- type or out of range.
use Rattle.std.specs.Prelude.{codes, ℕ, ℤ, pos, negsuc, Bool, not, ◌&&◌, if◌then◌else◌, nat_le, List, [], ◌∷◌, length, Option, Some, None, Result, Ok, Err}
use Rattle.std.specs.List.{list_any, position_from}
use Rattle.std.specs.Str.{bytes_eq}
use Rattle.toml.specs.Data.{Data, Items, no_items, item, Members, no_members, member, get_member, as_str, as_integer, as_bool, as_array, as_table}
use Rattle.apex_types.specs.declared.limits.TheConstants.{MOST_SPAN}
use Rattle.apex_types.specs.Name.{is_name}
use Rattle.apex_table.specs.Terms.{DeadlineType, Discipline, Key, Place, Subject, TableFault}
use Rattle.apex_words.specs.declared.key.Key.TheVariants as key
use Rattle.apex_types.specs.declared.modes.DeadlineType.TheVariants.{Soft, Hard}
use Rattle.apex_types.specs.declared.modes.Discipline.TheVariants.{Fifo, Priority}
use Rattle.apex_words.specs.declared.fault.TableFault.TheVariants.{MissingKey, WrongType, OutOfRange, BadName, DoubleName, UnknownKey, TooMany}
use Rattle.apex_words.specs.Fault.{key_word}
use Rattle.apex_words.specs.Subjects.{at_key, at_other_key}
use Rattle.apex_words.specs.Outcome.{◌>>=◌, some_or}

-- TOML's items as a list
abbrev pub list_of : Items → List Data
list_of no_items = []
list_of (item d ds) = d ∷ list_of ds

-- one of these keys has the name
abbrev pub is_one_of : List Key → List ℕ → Bool
is_one_of keys name = list_any (λ key. bytes_eq name (key_word key)) keys

-- the names of a table's keys, in the order of their bytes
abbrev pub key_names : Members → List (List ℕ)
key_names no_members = []
key_names (member name d ms) = name ∷ key_names ms

-- the place of the first key that is none of these, counted from 0
abbrev pub other_key : List Key → Members → Option ℕ
other_key keys ms = position_from (λ name. not (is_one_of keys name)) 0 (key_names ms)

-- a table, unless it has another key
abbrev pub without : Place → Members → Option ℕ → Result Members TableFault
without at ms None = Ok ms
without at ms (Some i) = Err (UnknownKey (at_other_key at i))

-- a table with no other key
abbrev pub known : Place → List Key → Members → Result Members TableFault
known at keys ms = without at ms (other_key keys ms)

-- the value at a key, if the key is there
abbrev pub value_at : Key → Members → Option Data
value_at key ms = get_member (key_word key) ms

-- a key without a default
abbrev pub required : Place → Key → Members → Result Data TableFault
required at key ms = some_or (MissingKey (at_key at key)) (value_at key ms)

-- a key with a default
abbrev pub optional : {A : Type 0} → A → (Data → Result A TableFault) → Option Data
    → Result A TableFault
optional default read None = Ok default
optional default read (Some d) = read d

-- a value that is a text
abbrev pub text : Subject → Data → Result (List ℕ) TableFault
text subject d = some_or (WrongType subject) (as_str d)

-- a value that is true or false
abbrev pub truth : Subject → Data → Result Bool TableFault
truth subject d = some_or (WrongType subject) (as_bool d)

-- a value that is a table
abbrev pub table : Subject → Data → Result Members TableFault
table subject d = some_or (WrongType subject) (as_table d)

-- a value that is an array
abbrev pub array : Subject → Data → Result (List Data) TableFault
array subject d = some_or (WrongType subject) (as_array d) >>= λ ds. Ok (list_of ds)

-- the array at a key without a default
abbrev pub array_at : Place → Key → Members → Result (List Data) TableFault
array_at at key ms = required at key ms >>= array (at_key at key)

-- no more values than these
abbrev pub at_most : Subject → ℕ → List Data → Result (List Data) TableFault
at_most subject most ds = if nat_le (length ds) most then Ok ds else Err (TooMany subject)

-- a number from low to high
abbrev pub in_range : Subject → ℕ → ℕ → ℤ → Result ℕ TableFault
in_range subject low high (pos n) =
    if nat_le low n && nat_le n high then Ok n else Err (OutOfRange subject)
in_range subject low high (negsuc n) = Err (OutOfRange subject)

-- a value that is a whole number from low to high
abbrev pub number : Subject → ℕ → ℕ → Data → Result ℕ TableFault
number subject low high d = some_or (WrongType subject) (as_integer d) >>= in_range subject low high

-- the whole number at a key without a default
abbrev pub number_at : Place → ℕ → ℕ → Key → Members → Result ℕ TableFault
number_at at low high key ms = required at key ms >>= number (at_key at key) low high

-- the whole number at a key with a default
abbrev pub number_or : Place → ℕ → ℕ → ℕ → Key → Members → Result ℕ TableFault
number_or at default low high key ms =
    optional default (number (at_key at key) low high) (value_at key ms)

-- a span of time without an end, by its word
abbrev pub infinite : Subject → List ℕ → Result (Option ℕ) TableFault
infinite subject t = if bytes_eq t (codes "infinite") then Ok None else Err (OutOfRange subject)

-- a span of time by the text that the value is, or else by its number of ticks
abbrev pub span_of : Subject → Data → Option (List ℕ) → Result (Option ℕ) TableFault
span_of subject d (Some t) = infinite subject t
span_of subject d None = number subject 1 MOST_SPAN d >>= λ ticks. Ok (Some ticks)

-- a value that is a span of time, which may be infinite
abbrev pub span : Subject → Data → Result (Option ℕ) TableFault
span subject d = span_of subject d (as_str d)

-- the span of time at a key whose default is infinite
abbrev pub span_or_infinite : Place → Key → Members → Result (Option ℕ) TableFault
span_or_infinite at key ms = optional None (span (at_key at key)) (value_at key ms)

-- the truth value at a key with a default
abbrev pub truth_or : Place → Bool → Key → Members → Result Bool TableFault
truth_or at default key ms = optional default (truth (at_key at key)) (value_at key ms)

-- the text at a key without a default
abbrev pub text_at : Place → Key → Members → Result (List ℕ) TableFault
text_at at key ms = required at key ms >>= text (at_key at key)

-- the type of a deadline by its word
abbrev pub deadline_type : Subject → List ℕ → Result DeadlineType TableFault
deadline_type subject t =
    if bytes_eq t (codes "SOFT") then Ok Soft else
    if bytes_eq t (codes "HARD") then Ok Hard else Err (OutOfRange subject)

-- a value that is the type of a deadline
abbrev pub deadline : Subject → Data → Result DeadlineType TableFault
deadline subject d = text subject d >>= deadline_type subject

-- the type of a deadline, at its key, whose default is SOFT
abbrev pub deadline_or_soft : Place → Members → Result DeadlineType TableFault
deadline_or_soft at ms =
    optional Soft (deadline (at_key at key.Deadline)) (value_at key.Deadline ms)

-- the discipline of a queue by its word
abbrev pub discipline : Subject → List ℕ → Result Discipline TableFault
discipline subject t =
    if bytes_eq t (codes "FIFO") then Ok Fifo else
    if bytes_eq t (codes "PRIORITY") then Ok Priority else Err (OutOfRange subject)

-- the discipline of a queue, at its key
abbrev pub discipline_at : Place → Members → Result Discipline TableFault
discipline_at at ms =
    text_at at key.Discipline ms >>= discipline (at_key at key.Discipline)

-- a text that is a name
abbrev pub well_formed : Subject → List ℕ → Result (List ℕ) TableFault
well_formed subject t = if is_name t then Ok t else Err (BadName subject)

-- a name that no earlier entry of the section has
abbrev pub unused : Subject → List (List ℕ) → List ℕ → Result (List ℕ) TableFault
unused subject taken n =
    if list_any (bytes_eq n) taken then Err (DoubleName subject) else Ok n

-- the name of an entry; those of the entries before it in its section are taken
unfoldable pub name_at : Place → List (List ℕ) → Members → Result (List ℕ) TableFault
name_at at taken ms = do
  t ← text_at at key.Name ms
  n ← well_formed (at_key at key.Name) t
  unused (at_key at key.Name) taken n
