-- The things that a history created, and the number of steps that its init list made.
use Rattle.std.specs.Prelude.{ℕ, Bool, List, Option, ◌&&◌, count_by}
use Rattle.std.specs.List.{list_any}
use Rattle.std.specs.Option.{option_and_then}
use Rattle.apex_machine.specs.Terms.{Call, Entry}
use Rattle.apex_machine.specs.services.Callers.{is_by_init}
use Rattle.apex_machine.specs.services.Calls.{is_place}
use Rattle.apex_machine.specs.services.Satisfied.{is_accepted}

-- the entry created thing i; `created` gives the thing that a call creates
abbrev pub creates : (Call → Option ℕ) → ℕ → Entry → Bool
creates created i e = is_place i (option_and_then created e.call) && is_accepted e.reply

-- a thing is created when the history holds its CREATE answered NO_ERROR
abbrev pub is_created : (Call → Option ℕ) → ℕ → List Entry → Bool
is_created created i history = list_any (creates created i) history

-- the number of entries that the init list made
abbrev pub init_count : List Entry → ℕ
init_count history = count_by (λ (e : Entry). is_by_init e.process) history
