-- The scripts of the processes: their texts as steps.
use Rattle.std.specs.Prelude.{ℕ, ◌+◌, List, [], length, Result, Ok}
use Rattle.apex_machine.specs.table.Table.{ProcessConfig, Step}
use Rattle.apex_types.specs.declared.calls.Origin.TheVariants.{Script}
use Rattle.apex_words.specs.declared.fault.Section.TheVariants.{Process}
use Rattle.apex_table.specs.Terms.{Place, TableFault}
use Rattle.apex_words.specs.Outcome.{◌>>=◌, each, place}
use Rattle.apex_table.specs.Names.{Names}
use Rattle.apex_table.specs.Steps.{step}
use Rattle.apex_table.specs.Processes.{ProcessDraft}

-- the steps of the script of process p
abbrev pub script : Place → ℕ → Names → List (List ℕ) → Result (List Step) TableFault
script at p names texts = each (λ before t. step at (Script p (length before)) names t) [] texts

-- the process after those before, now with the steps of its script
unfoldable pub next_entry : Names → List ProcessConfig → ProcessDraft
    → Result ProcessConfig TableFault
next_entry names before draft = do
  steps ← script (place Process (length before + 1)) (length before) names draft.script
  Ok (record {
    name = draft.name;
    attributes = draft.attributes;
    core = draft.core;
    loops = draft.loops;
    start = draft.start;
    script = steps;
  })

-- all processes with the steps of their scripts
abbrev pub with_scripts : Names → List ProcessDraft → Result (List ProcessConfig) TableFault
with_scripts names drafts = each (next_entry names) [] drafts
