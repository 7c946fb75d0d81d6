-- A situation: all of a partition on which its future depends, and how each event changes it. It
-- has no history.
use Rattle.std.specs.Prelude.{ℕ, ◌+◌, ◌==◌, ◌&&◌, Option, None, option_map, if◌then◌else◌}
use Rattle.apex_machine.specs.Terms.{Call, Event, OpenWork, Who}
use Rattle.apex_types.specs.declared.entries.Event.TheVariants.{Turn, Tick}
use Rattle.apex_types.specs.declared.entries.Who.TheVariants.{Core, Ticker}
use Rattle.apex_types.specs.Modes.{is_cold_start}
use Rattle.apex_machine.specs.table.Table.{Table, call_in}
use Rattle.apex_machine.specs.processes.Roster.{Roster}
use Rattle.apex_machine.specs.services.Callers.{is_by_init}
use Rattle.apex_machine.specs.Deeds.{Deed, Objects, tick_deed, turn_deed}
use Rattle.apex_machine.specs.Works.{fresh, is_turn_of, watched, work_begun}

-- the processes, the objects, the work that is open on each core, and the number of init steps that
-- were made
pub record Situation : Type 0 where
  pub roster : Roster
  pub objects : Objects
  pub works : ℕ → Option OpenWork
  pub made : ℕ

-- the init step that is due in a turn of the core: in COLD_START core 0 carries out the next one
abbrev pub due_call : Table → Situation → ℕ → Option Call
due_call table s core =
    if is_cold_start s.roster.mode && core == 0 then call_in table.init s.made else None

-- the maker of an event
abbrev pub maker : Event → Who
maker (Turn core) = Core core
maker (Tick n) = Ticker

-- the deed of an event
abbrev pub deed : Table → Situation → Event → Deed
deed table s (Turn core) =
    turn_deed table s.roster s.objects core (s.works core) (due_call table s core)
deed table s (Tick n) = tick_deed s.roster s.objects n

-- the work that is open on a core after a deed: the core's own deed may begin some, and ends what
-- was open; any other leaves it, unbroken if its process is still the core's chosen one
abbrev pub works_after : Situation → Who → Deed → ℕ → Option OpenWork
works_after s who d core =
    option_map (watched d.outcome.roster core)
    (if is_turn_of core who then option_map fresh (work_begun d.caller d.call d.outcome.reply)
    else s.works core)

-- the situation after a deed
abbrev pub after : Situation → Who → Deed → Situation
after s who d = record {
  roster = d.outcome.roster;
  objects = d.outcome.object;
  works = works_after s who d;
  made = s.made + (if is_by_init d.caller then 1 else 0);
}

-- the situation after an event
abbrev pub step : Table → Situation → Event → Situation
step table s event = after s (maker event) (deed table s event)
