-- The text of a step: its call, as a line writes it, is the one text that is read as the step.
use Rattle.std.specs.Prelude.{◌≡◌, ℕ, ◌+◌, ◌<◌, List, length, map, Ok}
use Rattle.apex_machine.specs.table.Table.{Table, Step, ProcessConfig, SemaphoreConfig, BufferConfig, BlackboardConfig, EventFlagConfig, MutexConfig, process_config, step_at}
use Rattle.apex_types.specs.declared.calls.Origin.TheVariants as origin
use Rattle.apex_calls.specs.CallText.{call_text}
use Rattle.apex_words.specs.declared.fault.Section.TheVariants.{Process, Init}
use Rattle.apex_table.specs.Terms.{Origin, Place}
use Rattle.apex_words.specs.Outcome.{place}
use Rattle.apex_table.specs.Names.{Names}
use Rattle.apex_table.specs.Steps.{step}

-- the names of a table's things
abbrev pub table_names : Table → Names
table_names table = record {
  processes = map (λ (e : ProcessConfig). e.name) table.processes;
  semaphores = map (λ (e : SemaphoreConfig). e.name) table.semaphores;
  buffers = map (λ (e : BufferConfig). e.name) table.buffers;
  blackboards = map (λ (e : BlackboardConfig). e.name) table.blackboards;
  event_flags = map (λ (e : EventFlagConfig). e.name) table.event_flags;
  mutexes = map (λ (e : MutexConfig). e.name) table.mutexes;
}

-- the text of the step's call is read as the step, and no other text is
pub record HasText (table : Table) (at : Place) (origin : Origin) (given : Step) : Type 0 where
  pub read : step at origin (table_names table) (call_text table given.call) ≡ Ok given
  pub alone : (text : List ℕ) → step at origin (table_names table) text ≡ Ok given
      → text ≡ call_text table given.call

-- so it is with each step of the table
pub record HaveTexts (table : Table) : Type 0 where
  pub scripts : (p k : ℕ) → p < length table.processes → k < length (process_config table p).script
      → HasText table (place Process (p + 1)) (origin.Script p k)
      (step_at (process_config table p).script k)
  pub init : (k : ℕ) → k < length table.init
      → HasText table (place Init (k + 1)) (origin.Init k) (step_at table.init k)
