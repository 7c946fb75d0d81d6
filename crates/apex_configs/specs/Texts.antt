-- The texts of the steps of a table's scripts: of each step its call, as a line writes it.
use Rattle.std.specs.Prelude.{◌≡◌, ℕ, List, map, Option, option_map, slice_get}
use Rattle.apex_calls.specs.CallText.{call_text}
use Rattle.apex_machine.specs.table.Table.{Table, Step, ProcessConfig, process_config, IsLawful}

-- the texts of the steps of a table's scripts
abbrev pub script_texts : Table → List (List (List ℕ))
script_texts table =
    map (λ (p : ProcessConfig). map (λ (s : Step). call_text table s.call) p.script) table.processes

-- the text of the step at a place of a process's script, if there is such a step
abbrev pub step_text : Table → ℕ → ℕ → Option (List ℕ)
step_text table p k =
    option_map (λ (s : Step). call_text table s.call) (slice_get (process_config table p).script k)

-- the table is lawful, and these are the texts of its scripts
pub record IsWithTexts (texts : List (List (List ℕ))) (table : Table) : Type 0 where
  pub lawful : IsLawful table
  pub kept : texts ≡ script_texts table
