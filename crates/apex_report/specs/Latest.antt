-- The latest call of each process, in a list by the place of its id.
use Rattle.std.specs.Prelude.{◌≡◌, List, Option, map, slice_set}
use Rattle.std.specs.List.{range_with_len}
use Rattle.apex_types.specs.declared.entries.Caller.TheVariants.{Process, Init, Nobody}
use Rattle.apex_machine.specs.services.Satisfied.{latest_call}
use Rattle.apex_report.specs.Terms.{Call, Caller, Entry, Notice, Waking}
use Rattle.apex_report.specs.Waits.{waking_by, wakings}
use Rattle.apex_report.specs.declared.waits.TheConstants.{ID_PLACES}

-- the latest call of each process that an id can name
abbrev pub latest_calls : List Entry → List (Option Call)
latest_calls history = map (λ p. latest_call p history) (range_with_len 0 ID_PLACES)

-- the call of its caller is the latest one
abbrev pub latest_by : Caller → Option Call → List (Option Call) → List (Option Call)
latest_by (Process p) call calls = slice_set calls p call
latest_by Init call calls = calls
latest_by Nobody call calls = calls

-- the latest calls after an entry
abbrev pub latest_set : Entry → List (Option Call) → List (Option Call)
latest_set e calls = latest_by e.process e.call calls

-- this is the process that the notice wakes after any history with these latest calls, if it wakes one
abbrev pub FindsOne : List (Option Call) → Notice → Option Waking → Type 0
FindsOne calls notice found = (history : List Entry) → calls ≡ latest_calls history
    → found ≡ waking_by history notice

-- these are the processes that the entry wakes after any history with these latest calls
abbrev pub Finds : List (Option Call) → Entry → List Waking → Type 0
Finds calls e woken = (history : List Entry) → calls ≡ latest_calls history
    → woken ≡ wakings history e
