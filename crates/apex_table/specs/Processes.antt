-- The kind of processes, whose scripts are still texts.
use Rattle.std.specs.Prelude.{ℕ, ◌-◌, Bool, true, false, List, [], ◌∷◌, length, map, Result, Ok, Err}
use Rattle.toml.specs.Data.{Data, Members}
use Rattle.apex_types.specs.declared.limits.TheConstants.{MOST_PRIORITY, MOST_STEPS}
use Rattle.apex_machine.specs.table.Profiles.{processes_of}
use Rattle.apex_words.specs.declared.key.Key.TheVariants as key
use Rattle.apex_words.specs.declared.fault.Section.TheVariants.{Process}
use Rattle.apex_table.specs.Terms.{Attributes, Key, Place, Profile, Subject, TableFault}
use Rattle.apex_words.specs.declared.fault.TableFault.TheVariants.{MissingKey, OutOfRange}
use Rattle.apex_words.specs.Subjects.{whole, at_key, at_step}
use Rattle.apex_words.specs.Outcome.{◌>>=◌, each, place}
use Rattle.apex_table.specs.Keys.{text, array_at, at_most, number_at, number_or, span_or_infinite, truth_or, deadline_or_soft}
use Rattle.apex_table.specs.Sections.{EntryKind}

-- a process whose script is still text
pub record ProcessDraft : Type 0 where
  pub name : List ℕ
  pub attributes : Attributes
  pub core : ℕ
  pub loops : Bool
  pub start : Bool
  pub script : List (List ℕ)

-- the names of processes
abbrev pub process_names : List ProcessDraft → List (List ℕ)
process_names processes = map (λ (p : ProcessDraft). p.name) processes

-- the texts of a script
abbrev pub texts : Place → List Data → Result (List (List ℕ)) TableFault
texts at ds = each (λ before d. text (at_step at (length before)) d) [] ds

-- a script that begins anew has at least one step
abbrev pub some_step : Subject → Bool → List Data → Result (List Data) TableFault
some_step subject true [] = Err (OutOfRange subject)
some_step subject true (d ∷ ds) = Ok (d ∷ ds)
some_step subject false ds = Ok ds

-- the script of a process, still as texts
unfoldable pub script_at : Place → Bool → Members → Result (List (List ℕ)) TableFault
script_at at loops ms = do
  ds ← array_at at key.Script ms
  few ← at_most (at_key at key.Script) MOST_STEPS ds
  some ← some_step (at_key at key.Script) loops few
  texts at some

-- a process of a name, on `cores` cores
unfoldable pub process : ℕ → Place → List ℕ → Members → Result ProcessDraft TableFault
process cores at name ms = do
  priority ← number_at at 1 MOST_PRIORITY key.Priority ms
  core ← number_or at 0 0 (cores - 1) key.Core ms
  period ← span_or_infinite at key.Period ms
  capacity ← span_or_infinite at key.Capacity ms
  deadline ← deadline_or_soft at ms
  loops ← truth_or at false key.Loop ms
  start ← truth_or at false key.Start ms
  script ← script_at at loops ms
  Ok (record {
    name = name;
    attributes =
        record { priority = priority; period = period; capacity = capacity; deadline = deadline };
    core = core;
    loops = loops;
    start = start;
    script = script;
  })

-- the keys of a process
abbrev pub process_keys : List Key
process_keys =
    key.Name ∷ key.Priority ∷ key.Core
    ∷ key.Period ∷ key.Capacity ∷ key.Deadline
    ∷ key.Loop ∷ key.Start ∷ key.Script ∷ []

-- the kind of processes, in a profile and on `cores` cores
abbrev pub processes : Profile → ℕ → EntryKind ProcessDraft
processes profile cores = record {
  head = record { section = Process; most = processes_of profile; keys = process_keys };
  name_of = λ p. p.name;
  read = process cores;
}

-- a table has at least one process
abbrev pub some_process : List ProcessDraft → Result (List ProcessDraft) TableFault
some_process [] = Err (MissingKey (whole (place Process 0)))
some_process (p ∷ ps) = Ok (p ∷ ps)
