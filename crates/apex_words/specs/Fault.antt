-- The text of a fault, and what the fault is about.
use Rattle.std.specs.Prelude.{codes, decimal, ℕ, List, [], ◌++◌, Option, Some, None}
use Rattle.apex_words.specs.declared.fault.Section.{Section}
use Rattle.apex_words.specs.declared.fault.Section.TheVariants.{Top, Process, Semaphore, Buffer, Blackboard, EventFlag, Mutex, Init}
use Rattle.apex_words.specs.declared.key.Key.TheVariants as key
use Rattle.apex_words.specs.Terms.{Key, Place, Subject, TableFault}
use Rattle.apex_words.specs.declared.fault.TableFault.TheVariants.{Memory, NotToml, MissingKey, WrongType, OutOfRange, BadName, DoubleName, UnknownName, UnknownKey, BadStep, BadInitStep, TooMany}

-- a section's word
abbrev pub section_word : Section → List ℕ
section_word Top = codes "top"
section_word Process = codes "process"
section_word Semaphore = codes "semaphore"
section_word Buffer = codes "buffer"
section_word Blackboard = codes "blackboard"
section_word EventFlag = codes "event"
section_word Mutex = codes "mutex"
section_word Init = codes "init"

-- a key's word
abbrev pub key_word : Key → List ℕ
key_word key.Profile = codes "profile"
key_word key.Cores = codes "cores"
key_word key.History = codes "history"
key_word (key.Entries section) = section_word section
key_word key.Name = codes "name"
key_word key.Priority = codes "priority"
key_word key.Core = codes "core"
key_word key.Period = codes "period"
key_word key.Capacity = codes "capacity"
key_word key.Deadline = codes "deadline"
key_word key.Loop = codes "loop"
key_word key.Start = codes "start"
key_word key.Script = codes "script"
key_word key.Maximum = codes "maximum"
key_word key.Initial = codes "initial"
key_word key.Discipline = codes "discipline"
key_word key.Length = codes "length"
key_word key.Ceiling = codes "ceiling"

-- a section's word and the number of the entry
abbrev pub place_text : Place → List ℕ
place_text place = section_word place.section ++ codes " " ++ decimal place.number

-- the fault's word, and what the fault is about
abbrev pub parts_of : TableFault → List ℕ × Option Subject
parts_of Memory = (codes "Memory", None)
parts_of NotToml = (codes "NotToml", None)
parts_of (MissingKey subject) = (codes "MissingKey", Some subject)
parts_of (WrongType subject) = (codes "WrongType", Some subject)
parts_of (OutOfRange subject) = (codes "OutOfRange", Some subject)
parts_of (BadName subject) = (codes "BadName", Some subject)
parts_of (DoubleName subject) = (codes "DoubleName", Some subject)
parts_of (UnknownName subject) = (codes "UnknownName", Some subject)
parts_of (UnknownKey subject) = (codes "UnknownKey", Some subject)
parts_of (BadStep subject) = (codes "BadStep", Some subject)
parts_of (BadInitStep subject) = (codes "BadInitStep", Some subject)
parts_of (TooMany subject) = (codes "TooMany", Some subject)

-- the text behind the fault's word: the place alone
abbrev pub place_after : Option Subject → List ℕ
place_after None = []
place_after (Some subject) = codes " in " ++ place_text subject.place

-- the text of a fault: its word, and its place
abbrev pub fault_text : TableFault → List ℕ
fault_text fault = (parts_of fault).0 ++ place_after (parts_of fault).1
