-- Claims about every run, from a search that has closed.
use Rattle.std.specs.Prelude.{◌≡◌, ℕ, Bool, true, false, List, All, None, Some, slice_get}
use Rattle.std.specs.List.{list_any}
use Rattle.apex_types.specs.declared.entries.Notice.TheVariants.{Woken, Released, Missed}
use Rattle.apex_types.specs.declared.modes.Mode.TheVariants.{Normal}
use Rattle.apex_machine.specs.Machine.{opening, run}
use Rattle.apex_machine.specs.Situations.{Situation, deed}
use Rattle.apex_machine.specs.processes.Dues.{next_instant}
use Rattle.apex_machine.specs.processes.Roster.{Roster, record_at}
use Rattle.apex_machine.specs.processes.Running.{chosen}
use Rattle.apex_machine.specs.table.Table.{Table}
use Rattle.apex_alike.specs.Closed.{HasClosed, IsAmong}
use Rattle.apex_laws.specs.Terms.{Entry, Event, Notice}

-- the notice reports a missed deadline
abbrev pub is_miss : Notice → Bool
is_miss (Woken p code) = false
is_miss (Released p) = false
is_miss (Missed p kind) = true

-- one of the notices reports a missed deadline
abbrev pub reports_miss : List Notice → Bool
reports_miss notices = list_any is_miss notices

-- no deed of these events in these situations reports a missed deadline
abbrev pub ReportsNoMiss : Table → List Event → List Situation → Type 0
ReportsNoMiss table asked seen =
    (k : ℕ) (s : Situation) → slice_get seen k ≡ Some s
    → (i : ℕ) (event : Event) → slice_get asked i ≡ Some event
    → reports_miss (deed table s event).outcome.notices ≡ false

-- if a search has closed and no deed that it saw reports a missed deadline, no entry of a run of its
-- events does
abbrev pub NoRunMisses : Table → Type 0
NoRunMisses table =
    (asked : List Event) (seen : List Situation) → HasClosed table asked seen
    → ReportsNoMiss table asked seen
    → (events : List Event) → All (IsAmong asked) events
    → All (λ (e : Entry). reports_miss e.notices ≡ false)
    (run table (opening table) events).history

-- in NORMAL, process p is started, no core has a process to run, and no instant is awaited
pub record IsAtStandstill (roster : Roster) (p : ℕ) : Type 0 where
  pub mode : roster.mode ≡ Normal
  pub started : (record_at roster p).started ≡ true
  pub idle : (core : ℕ) → chosen roster core ≡ None
  pub silent : next_instant roster ≡ None

-- if a search has closed and none of its situations is at a standstill, no machine is after a run of
-- its events
abbrev pub NoRunIsAtStandstill : Table → Type 0
NoRunIsAtStandstill table =
    (asked : List Event) (seen : List Situation) → HasClosed table asked seen
    → ((k : ℕ) (s : Situation) → slice_get seen k ≡ Some s → (p : ℕ) → ¬ (IsAtStandstill s.roster p))
    → (events : List Event) → All (IsAmong asked) events
    → (p : ℕ) → ¬ (IsAtStandstill (run table (opening table) events).roster p)
