-- A section of the table: the entries of one kind, which differ in their names.
use Rattle.std.specs.Prelude.{ℕ, ◌+◌, List, [], length, map, Option, Result}
use Rattle.toml.specs.Data.{Data, Members}
use Rattle.apex_words.specs.declared.fault.Section.{Section}
use Rattle.apex_table.specs.Terms.{Key, Place, TableFault}
use Rattle.apex_table.specs.declared.sections.SectionHead.{SectionHead as CodeHead}
use Rattle.apex_words.specs.declared.key.Key.TheVariants.{Entries}
use Rattle.apex_words.specs.Subjects.{whole}
use Rattle.apex_words.specs.Outcome.{◌>>=◌, each, place}
use Rattle.apex_table.specs.Keys.{optional, value_at, known, table, array, at_most, name_at}

-- a section, the most entries that it may have, and the keys of one
pub record SectionHead : Type 0 where
  pub section : Section
  pub most : ℕ
  pub keys : List Key

abbrev pub head_of : CodeHead → SectionHead
head_of head = record { section = head.section; most = head.most; keys = head.keys.now }

-- a kind of entries: its section, the name of an entry, and the reading of the entry of a name
pub record EntryKind (A : Type 0) : Type 0 where
  pub head : SectionHead
  pub name_of : A → List ℕ
  pub read : Place → List ℕ → Members → Result A TableFault

abbrev pub kind_of : {A : Type 0} → SectionHead → (A → List ℕ)
    → (Place → List ℕ → Members → Result A TableFault) → EntryKind A
kind_of head name_of read = record { head = head; name_of = name_of; read = read }

-- the tables of a section; none if it is absent
abbrev pub tables : SectionHead → Option Data → Result (List Data) TableFault
tables head o =
    let here = whole (place head.section 0) in
    optional [] (λ d. array here d >>= at_most here head.most) o

-- an entry; the names of those before it are taken
unfoldable pub entry : {A : Type 0} → EntryKind A → Place → List A → Data → Result A TableFault
entry kind at before d = do
  t ← table (whole at) d
  ms ← known at kind.head.keys t
  name ← name_at at (map kind.name_of before) ms
  kind.read at name ms

-- the entry after those before
abbrev pub next_entry : {A : Type 0} → EntryKind A → List A → Data → Result A TableFault
next_entry kind before d = entry kind (place kind.head.section (length before + 1)) before d

-- the section of a kind
unfoldable pub section : {A : Type 0} → EntryKind A → Members → Result (List A) TableFault
section kind top =
    tables kind.head (value_at (Entries kind.head.section) top) >>= each (next_entry kind) []
