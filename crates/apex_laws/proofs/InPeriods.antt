-- The releases of a process since its start, over a run: each is whole periods after the one
-- before.
use Rattle.std.proofs.Common.{◌≡◌, ℕ, List, [], ◌∷◌, ◌++◌, length, nat_lt, refl, sym, ap, subst}
use Rattle.std.proofs.lemmas.Bool.{cond_both}
use Rattle.apex_laws.specs.Laws.{ReleasesLieInPeriods}
use Rattle.apex_laws.specs.Terms.{Event}
use Rattle.apex_machine.specs.Machine.{Machine, accept, happen, opening, run}
use Rattle.apex_machine.specs.processes.Periods.{IsReleased, IsWholePeriodsAfter}
use Rattle.apex_machine.specs.processes.Roster.{record_at}
use Rattle.apex_machine.specs.table.Table.{Table, IsLawful, process_config}
use Rattle.apex_machine.proofs.Periods.{no_period, periods_then}
use Rattle.apex_laws.proofs.Runs.{run-append}
use Rattle.apex_laws.proofs.Sound.{IsSound, happened, happens, owes, sound_accept, sound_run}

module _ (table : Table) (lawful : IsLawful table) (p : ℕ) where
  -- the second machine's release is whole periods after the first one's
  abbrev IsBehind : Machine → Machine → Type 0
  IsBehind old new =
      IsWholePeriodsAfter (process_config table p).attributes.period (record_at old.roster p).release (record_at new.roster p).release

  behind_itself : (machine : Machine) → IsBehind machine machine
  behind_itself machine = no_period (process_config table p).attributes.period (record_at machine.roster p).release

  module _ (machine : Machine) (sound : IsSound table machine) (released : IsReleased (record_at machine.roster p)) where
    behind_event : (event : Event) → IsBehind machine (happen table machine event)
    behind_event event =
        let due = owes table lawful machine sound event in
        let after = due.arrives.released p released in
        subst (IsBehind machine) (sym (happens table machine event))
        (subst (λ attributes. IsWholePeriodsAfter attributes.period (record_at machine.roster p).release
        (record_at (happened table machine event).roster p).release) (sound.orderly.attributes p) after)

    behind_accept : (event : Event) → IsBehind machine (accept table machine event)
    behind_accept event =
        cond_both {A = Machine} (nat_lt (length machine.history) table.limit) (happen table machine event) machine (IsBehind machine)
        (λ _. behind_event event) (λ _. behind_itself machine)

  -- so it is as long as the process stays released
  behind_run : (events : List Event) (machine : Machine) → IsSound table machine
      → ((some others : List Event) → events ≡ some ++ others → IsReleased (record_at (run table machine some).roster p))
      → IsBehind machine (run table machine events)
  behind_run [] machine sound stays = behind_itself machine
  behind_run (event ∷ events) machine sound stays =
      let next = accept table machine event in
      let first = behind_accept machine sound (stays [] (event ∷ events) refl) event in
      let rest = behind_run events next (sound_accept table lawful machine sound event)
      (λ some others is. stays (event ∷ some) others (ap (λ es. event ∷ es) is)) in
      periods_then (process_config table p).attributes.period (record_at machine.roster p).release (record_at next.roster p).release
      (record_at (run table next events).roster p).release first rest

pub lie_in_periods : (table : Table) → IsLawful table → ReleasesLieInPeriods table
lie_in_periods table lawful first rest p stays =
    let machine = run table (opening table) first in
    let along = behind_run table lawful p rest machine (sound_run table lawful first)
    (λ some others is. rw run-append at (stays some others is)) in
    rw (run-append table (opening table) first rest) along
