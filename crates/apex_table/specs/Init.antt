-- The init list that a table gives: its texts, and their steps.
use Rattle.std.specs.Prelude.{ℕ, ◌+◌, Bool, if◌then◌else◌, List, [], length, Option, Some, None, Result, Ok, Err}
use Rattle.toml.specs.Data.{Data}
use Rattle.apex_types.specs.declared.limits.TheConstants.{MOST_INIT_STEPS}
use Rattle.apex_machine.specs.table.Table.{ProcessConfig, Step}
use Rattle.apex_table.specs.Terms.{Call, Origin, Place, Subject, TableFault}
use Rattle.apex_types.specs.declared.calls.Origin.TheVariants as origin
use Rattle.apex_calls.specs.Catalogue.{row_of}
use Rattle.apex_calls.specs.Parts.{parts_of}
use Rattle.apex_words.specs.declared.fault.Section.TheVariants.{Init}
use Rattle.apex_words.specs.declared.fault.TableFault.TheVariants.{BadInitStep}
use Rattle.apex_words.specs.Subjects.{whole, at_step}
use Rattle.apex_words.specs.Outcome.{◌>>=◌, each, place}
use Rattle.apex_table.specs.Keys.{text, array, at_most}
use Rattle.apex_table.specs.Steps.{of_word, step}
use Rattle.apex_configs.specs.Objects.{Objects}
use Rattle.apex_table.specs.Names.{Names}
use Rattle.apex_table.specs.DefaultInit.{default_init}

-- the text of the step after those before
abbrev pub next_text : List (List ℕ) → Data → Result (List ℕ) TableFault
next_text before d = text (at_step (place Init (length before + 1)) (length before)) d

-- the texts of the steps
abbrev pub texts : List Data → Result (List (List ℕ)) TableFault
texts ds = each next_text [] ds

-- the texts of an init list
unfoldable pub given_texts : Data → Result (List (List ℕ)) TableFault
given_texts d = do
  ds ← array (whole (place Init 0)) d
  few ← at_most (whole (place Init 0)) MOST_INIT_STEPS ds
  texts few

-- the texts of the init list, if the table gives one
abbrev pub init_texts : Option Data → Result (Option (List (List ℕ))) TableFault
init_texts None = Ok None
init_texts (Some d) = given_texts d >>= λ ts. Ok (Some ts)

-- an init list may have the call
abbrev pub is_init_call : Call → Bool
is_init_call call = (row_of (parts_of call).0).may_init

-- a step that an init list may have; otherwise its service is at fault
abbrev pub init_call : Subject → Step → Result Step TableFault
init_call subject step = if is_init_call step.call then Ok step else Err (BadInitStep subject)

-- the step of this origin by its text; last it is tested whether an init list may have it
unfoldable pub init_step : Place → Origin → Names → List ℕ → Result Step TableFault
init_step at origin names text = step at origin names text >>= init_call (of_word at origin 0)

-- the step after those before
abbrev pub next_init_step : Names → List Step → List ℕ → Result Step TableFault
next_init_step names before text =
    init_step (place Init (length before + 1)) (origin.Init (length before)) names text

-- the steps of an init list
abbrev pub init_steps : Names → List (List ℕ) → Result (List Step) TableFault
init_steps names ts = each (next_init_step names) [] ts

-- the init list that the table gives, or else the default one
abbrev pub init_list : Names → List ProcessConfig → Objects → Option (List (List ℕ))
    → Result (List Step) TableFault
init_list names processes objects (Some ts) = init_steps names ts
init_list names processes objects None = Ok (default_init processes objects)
