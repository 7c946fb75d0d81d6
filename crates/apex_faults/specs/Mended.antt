-- A table's tree in which one fault is mended: what the fault is about has a value that the reader
-- takes.
use Rattle.std.specs.Prelude.{ℕ, zero, suc, not, List, [], Option, Some, None}
use Rattle.std.specs.List.{find}
use Rattle.toml.specs.Data.{Data, Members, no_members, array, table, item, no_items}
use Rattle.apex_types.specs.declared.limits.TheConstants.{MOST_INIT_STEPS, MOST_OBJECTS, MOST_PROCESSES, MOST_STEPS}
use Rattle.apex_words.specs.Fault.{key_word, parts_of}
use Rattle.apex_table.specs.Keys.{is_one_of, key_names}
use Rattle.apex_words.specs.declared.fault.Section.TheVariants as section
use Rattle.apex_words.specs.declared.fault.TableFault.TheVariants.{Memory, NotToml, MissingKey, WrongType, OutOfRange, BadName, DoubleName, UnknownName, UnknownKey, BadStep, BadInitStep, TooMany}
use Rattle.apex_words.specs.declared.key.Key.TheVariants as key
use Rattle.apex_words.specs.declared.subject.Part.TheVariants as part
use Rattle.apex_faults.specs.Paths.{changed, found, subject_path}
use Rattle.apex_faults.specs.Plain.{keys_of, plain_entry, plain_section, plain_step, plain_value}
use Rattle.apex_faults.specs.Terms.{Key, Part, PathStep, Section, Subject, TableFault}
use Rattle.apex_faults.specs.Trees.{first_items, put_member, without_member}

-- the value of a section or an entry, or of a part of it, that the reader takes
abbrev pub plain : Section → ℕ → Part → Data
plain s zero part.Whole = plain_section s
plain s (suc i) part.Whole = plain_entry s (suc i)
plain s n (part.Key k) = plain_value n k
plain s n (part.OtherKey i) = plain_entry s n
plain s n (part.Step k) = plain_step
plain s n (part.Word k w) = plain_step

-- the name of the first key that is none of these
abbrev pub other_name : List Key → Members → Option (List ℕ)
other_name keys ms = find (λ name. not (is_one_of keys name)) (key_names ms)

-- the members without the one of a name
abbrev pub without_named : Option (List ℕ) → Members → Members
without_named None ms = ms
without_named (Some name) ms = without_member name ms

-- the members without the first one whose key is none of these
abbrev pub without_other : List Key → Members → Members
without_other keys ms = without_named (other_name keys ms) ms

-- the most values that an array may have: entries of a section, steps of a script or of an init list
abbrev pub most_at : Section → Part → ℕ
most_at s (part.Key k) = MOST_STEPS
most_at section.Process p = MOST_PROCESSES
most_at section.Init p = MOST_INIT_STEPS
most_at s p = MOST_OBJECTS

-- the value that the reader takes there
abbrev pub plain_part : Subject → Data
plain_part subject = plain subject.place.section subject.place.number subject.part

-- a table without its first unknown key
abbrev pub without_unknown : Subject → Option Data → Data
without_unknown subject (Some (table ms)) =
    table (without_other (keys_of subject.place.section) ms)
without_unknown subject _ = plain_part subject

-- the front of an array that is too long
abbrev pub cut : Subject → Option Data → Data
cut subject (Some (array ds)) = array (first_items (most_at subject.place.section subject.part) ds)
cut subject _ = plain_part subject

-- the array of a section that is one table
abbrev pub retyped : Subject → Part → ℕ → Option Data → Data
retyped subject part.Whole zero (Some (table ms)) = array (item (table ms) no_items)
retyped subject p n old = plain_part subject

abbrev pub retyped_section : Subject → Option Data → Data
retyped_section subject old = retyped subject subject.part subject.place.number old

-- what the subject of a fault becomes, by what it is
abbrev pub mended_part : TableFault → Option Data → Data
mended_part Memory old = table no_members
mended_part NotToml old = table no_members
mended_part (UnknownKey subject) old = without_unknown subject old
mended_part (TooMany subject) old = cut subject old
mended_part (WrongType subject) old = retyped_section subject old
mended_part (MissingKey subject) old = plain_part subject
mended_part (OutOfRange subject) old = plain_part subject
mended_part (BadName subject) old = plain_part subject
mended_part (DoubleName subject) old = plain_part subject
mended_part (UnknownName subject) old = plain_part subject
mended_part (BadStep subject) old = plain_part subject
mended_part (BadInitStep subject) old = plain_part subject

-- a tree with more processes than one of profile 1 may have is one of the greatest profile
abbrev pub widened_for : Section → Part → Data → Data
widened_for section.Process part.Whole tree =
    put_member (key_word key.Profile) (plain_value 0 key.Profile) tree
widened_for s p tree = tree

abbrev pub widened : TableFault → Data → Data
widened (TooMany subject) tree = widened_for subject.place.section subject.part tree
widened fault tree = tree

-- the path to what a fault is about; no part of a tree is wanted for one without a subject
abbrev pub path_of : Option Subject → List PathStep
path_of None = []
path_of (Some subject) = subject_path subject

abbrev pub fault_path : TableFault → List PathStep
fault_path fault = path_of (parts_of fault).1

-- the tree in which the fault is mended
abbrev pub mended : TableFault → Data → Data
mended fault tree = widened fault (changed (fault_path fault)
    (mended_part fault (found (fault_path fault) tree)) tree)
