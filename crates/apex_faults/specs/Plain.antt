-- Values that the reader takes at each key, for an entry that has another one. They ask the least of
-- the rest of the table: the numbers that bound others are the greatest ones.
use Rattle.std.specs.Prelude.{codes, decimal, ℕ, pos, false, List, [], ◌∷◌, ◌++◌}
use Rattle.toml.specs.Data.{Data, Members, no_members, integer, boolean, string, array, table, item, no_items}
use Rattle.apex_types.specs.declared.limits.TheConstants.{MOST_CORES, MOST_ENTRIES, MOST_MESSAGE, MOST_PROFILE, MOST_VALUE}
use Rattle.apex_table.specs.Blackboards.{blackboards}
use Rattle.apex_table.specs.Buffers.{buffers}
use Rattle.apex_table.specs.EventFlags.{event_flags}
use Rattle.apex_words.specs.Fault.{key_word}
use Rattle.apex_table.specs.Mutexes.{mutexes}
use Rattle.apex_table.specs.Processes.{process_keys}
use Rattle.apex_table.specs.Reading.{top_keys}
use Rattle.apex_table.specs.Semaphores.{semaphores}
use Rattle.apex_words.specs.declared.fault.Section.TheVariants as section
use Rattle.apex_words.specs.declared.key.Key.TheVariants as key
use Rattle.apex_faults.specs.Terms.{Key, Section}
use Rattle.apex_faults.specs.Trees.{with_member}

-- the keys of the table's top, or of an entry of a section
abbrev pub keys_of : Section → List Key
keys_of section.Top = top_keys
keys_of section.Process = process_keys
keys_of section.Semaphore = semaphores.head.keys
keys_of section.Buffer = buffers.head.keys
keys_of section.Blackboard = blackboards.head.keys
keys_of section.EventFlag = event_flags.head.keys
keys_of section.Mutex = mutexes.head.keys
keys_of section.Init = []

-- a step that a script and an init list may have
abbrev pub plain_step : Data
plain_step = string (codes "GET_TIME")

-- the name of entry n, counted from 1
abbrev pub plain_name : ℕ → List ℕ
plain_name n = codes "(name-of-entry-" ++ decimal n ++ codes ")"

-- the value at a key of entry n
abbrev pub plain_value : ℕ → Key → Data
plain_value n key.Profile = integer (pos MOST_PROFILE)
plain_value n key.Cores = integer (pos MOST_CORES)
plain_value n key.History = integer (pos MOST_ENTRIES)
plain_value n (key.Entries section) = array no_items
plain_value n key.Name = string (plain_name n)
plain_value n key.Priority = integer (pos 1)
plain_value n key.Core = integer (pos 0)
plain_value n key.Period = string (codes "infinite")
plain_value n key.Capacity = integer (pos 1)
plain_value n key.Deadline = string (codes "SOFT")
plain_value n key.Loop = boolean false
plain_value n key.Start = boolean false
plain_value n key.Script = array (item plain_step no_items)
plain_value n key.Maximum = integer (pos MOST_VALUE)
plain_value n key.Initial = integer (pos 0)
plain_value n key.Discipline = string (codes "FIFO")
plain_value n key.Length = integer (pos MOST_MESSAGE)
plain_value n key.Ceiling = integer (pos 1)

-- the members with the plain value at each of these keys
abbrev pub with_plain : ℕ → List Key → Members → Members
with_plain n [] ms = ms
with_plain n (key ∷ keys) ms = with_plain n keys (with_member (key_word key) (plain_value n key) ms)

-- entry n of a section
abbrev pub plain_entry : Section → ℕ → Data
plain_entry section n = table (with_plain n (keys_of section) no_members)

-- a section; the init list has no step, and the others have one entry
abbrev pub plain_section : Section → Data
plain_section section.Init = array no_items
plain_section section = array (item (plain_entry section 1) no_items)
