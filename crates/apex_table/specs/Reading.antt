-- *Reading*: the table of a text, or the first fault in the order of checks.
use Rattle.std.specs.Prelude.{◌≡◌, ℕ, if◌then◌else◌, List, [], ◌∷◌, Option, None, Result, Ok}
use Rattle.std.specs.Str.{is_utf8}
use Rattle.toml.specs.Data.{Members}
use Rattle.toml.specs.Parse.{parse_document}
use Rattle.apex_types.specs.declared.limits.TheConstants.{MOST_CORES, MOST_ENTRIES, MOST_PROFILE, USUAL_ENTRIES}
use Rattle.apex_machine.specs.table.Profiles.{profile_of}
use Rattle.apex_machine.specs.table.Table.{Table}
use Rattle.apex_words.specs.declared.fault.Section.TheVariants.{Top, Process, Semaphore, Buffer, Blackboard, EventFlag, Mutex, Init}
use Rattle.apex_words.specs.declared.key.Key.TheVariants as key
use Rattle.apex_table.specs.Terms.{Key, TableFault}
use Rattle.apex_table.specs.declared.reading.Head.{Head}
use Rattle.apex_words.specs.declared.fault.TableFault.TheVariants.{NotToml}
use Rattle.apex_words.specs.Outcome.{◌>>=◌, some_or, place}
use Rattle.apex_table.specs.Keys.{known, number_at, number_or, value_at}
use Rattle.apex_table.specs.Sections.{section}
use Rattle.apex_table.specs.Processes.{ProcessDraft, some_process, processes}
use Rattle.apex_configs.specs.Objects.{Objects}
use Rattle.apex_configs.specs.Tables.{table_with}
use Rattle.apex_table.specs.Objects.{objects}
use Rattle.apex_table.specs.Names.{names_of}
use Rattle.apex_table.specs.Scripts.{with_scripts}
use Rattle.apex_table.specs.Init.{init_texts, init_list}

-- the keys of the table's top
abbrev pub top_keys : List Key
top_keys =
    key.Profile ∷ key.Cores ∷ key.History ∷ key.Entries Process
    ∷ key.Entries Semaphore ∷ key.Entries Buffer ∷ key.Entries Blackboard ∷ key.Entries EventFlag
    ∷ key.Entries Mutex ∷ key.Entries Init ∷ []

-- the head of a table: what its top says beside the entries
unfoldable pub head : Members → Result Head TableFault
head tree = do
  ms ← known (place Top 0) top_keys tree
  number ← number_or (place Top 0) 1 1 MOST_PROFILE key.Profile ms
  cores ← number_at (place Top 0) 1 MOST_CORES key.Cores ms
  limit ← number_or (place Top 0) USUAL_ENTRIES 1 MOST_ENTRIES key.History ms
  Ok (record {
    profile = profile_of number;
    cores = cores;
    limit = limit;
  })

-- a table whose steps are still texts
pub record TableDraft : Type 0 where
  pub head : Head
  pub processes : List ProcessDraft
  pub objects : Objects
  pub init : Option (List (List ℕ))

-- the table of TOML's tree, its steps still as texts
unfoldable pub draft : Members → Result TableDraft TableFault
draft tree = do
  top ← head tree
  drafts ← section (processes top.profile top.cores) tree
  some ← some_process drafts
  things ← objects tree
  texts ← init_texts (value_at (key.Entries Init) tree)
  Ok (record {
    head = top;
    processes = some;
    objects = things;
    init = texts;
  })

-- the table that is drafted was read from a tree
pub record IsRead (drafted : TableDraft) : Type 0 where
  pub tree : Members
  pub read : draft tree ≡ Ok drafted

-- the table, with the steps of its scripts and its init list
unfoldable pub with_steps : TableDraft → Result Table TableFault
with_steps drafted = do
  procs ← with_scripts (names_of drafted.processes drafted.objects) drafted.processes
  steps ← init_list (names_of drafted.processes drafted.objects) procs drafted.objects drafted.init
  Ok (table_with drafted.head.profile drafted.head.cores drafted.head.limit procs
      drafted.objects steps)

-- the table of TOML's tree
unfoldable pub reading : Members → Result Table TableFault
reading tree = do
  drafted ← draft tree
  with_steps drafted

-- TOML's tree of a text
abbrev pub tree_of : List ℕ → Option Members
tree_of bytes = if is_utf8 bytes then parse_document bytes else None

-- TOML's tree, or that there is none
abbrev pub document : List ℕ → Result Members TableFault
document bytes = some_or NotToml (tree_of bytes)

-- the table of a text
unfoldable pub table_of : List ℕ → Result Table TableFault
table_of bytes = do
  tree ← document bytes
  reading tree
