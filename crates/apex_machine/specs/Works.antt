-- Work, which takes two turns of a core: the work that a core has begun, and whether its process
-- has been the core's chosen one ever since (this profile).
use Rattle.std.specs.Prelude.{ℕ, Bool, true, false, List, [], ◌∷◌, Option, None, Some, option_map, ◌==◌, ◌&&◌, if◌then◌else◌}
use Rattle.std.specs.List.{list_all}
use Rattle.std.specs.Option.{option_and_then, option_or}
use Rattle.apex_machine.specs.Terms.{Call, Caller, Entry, OpenWork, Reply, Who, Work}
use Rattle.apex_types.specs.declared.calls.Call.TheVariants.{Work as ToWork}
use Rattle.apex_types.specs.declared.entries.Caller.TheVariants.{Process}
use Rattle.apex_types.specs.declared.entries.Reply.TheVariants.{Begun}
use Rattle.apex_types.specs.declared.entries.Who.TheVariants.{Core, Ticker}
use Rattle.apex_machine.specs.processes.Roster.{Roster}
use Rattle.apex_machine.specs.processes.Running.{chosen, is_process}

-- an entry, and the states after it and after each later one
pub record Since : Type 0 where
  pub entry : Entry
  pub states : List Roster

-- the core made the entry
abbrev pub is_turn_of : ℕ → Who → Bool
is_turn_of core (Core c) = core == c
is_turn_of core Ticker = false

-- this entry, if the core made it
abbrev pub own_turn : ℕ → Entry → List Roster → Option Since
own_turn core e states =
    if is_turn_of core e.who then Some (record { entry = e; states = states }) else None

-- the core's last entry, and the states after it and after each later one
abbrev pub last_turn : ℕ → List Entry → List Roster → Option Since
last_turn core [] past = None
last_turn core (e ∷ later) [] = None
last_turn core (e ∷ later) (roster ∷ past) =
    option_or (last_turn core later past) (own_turn core e (roster ∷ past))

-- the work that a call begins
abbrev pub work_begun : Caller → Option Call → Reply → Option Work
work_begun (Process p) (Some (ToWork amount)) Begun = Some (record { process = p; amount = amount })
work_begun _ _ _ = None

-- process p is the core's chosen one in each of these states
abbrev pub is_unbroken : ℕ → ℕ → List Roster → Bool
is_unbroken core p states = list_all (λ (roster : Roster). is_process p (chosen roster core)) states

-- work that is open, by the states since it began
abbrev pub open_in : ℕ → List Roster → Work → OpenWork
open_in core states work = record { work = work; unbroken = is_unbroken core work.process states }

-- the work that the core's last entry began
abbrev pub open_since : ℕ → Since → Option OpenWork
open_since core since =
    option_map (open_in core since.states)
    (work_begun since.entry.process since.entry.call since.entry.reply)

-- the work that is open on the core
abbrev pub open_work_of : ℕ → List Entry → List Roster → Option OpenWork
open_work_of core history past = option_and_then (open_since core) (last_turn core history past)

-- work that has just begun
abbrev pub fresh : Work → OpenWork
fresh work = record { work = work; unbroken = true }

-- open work after one more state: it stays unbroken if its process is the core's chosen one there
abbrev pub watched : Roster → ℕ → OpenWork → OpenWork
watched roster core o =
    record {
      work = o.work;
      unbroken = o.unbroken && is_process o.work.process (chosen roster core);
    }
