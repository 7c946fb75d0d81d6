-- A turn that a pace allows is not idle.
use Rattle.std.proofs.Common.{◌≡◌, ℕ, Bool, true, false, Option, None, Some, refl, is_none, is_some, nat_lt, ◌&&◌, ◌||◌, not, if◌then◌else◌}
use Rattle.std.proofs.lemmas.Bool.{and_parts, false≢true}
use Rattle.apex_machine.specs.Deeds.{Objects, chosen_deed, script_deed, step_of, turn_deed}
use Rattle.apex_machine.specs.Situations.{due_call}
use Rattle.apex_types.specs.declared.calls.Call.{Call}
use Rattle.apex_pace.specs.Terms.{OpenWork, Pace}
use Rattle.apex_machine.specs.processes.Roster.{Roster}
use Rattle.apex_machine.specs.processes.Running.{chosen}
use Rattle.apex_machine.specs.table.Table.{Table}
use Rattle.apex_pace.specs.Laws.{NoTurnIsIdle}
use Rattle.apex_pace.specs.Pace.{Paced, is_idle, is_starting, may_turn, needs_time}

module _ (table : Table) (roster : Roster) (objects : Objects) (core : ℕ) where
  script_calls : (p : ℕ) (call : Option Call) → is_some (script_deed table roster objects p call).call ≡ true
  script_calls p None = refl
  script_calls p (Some call) = refl

  chosen_calls : (found : Option ℕ) → not (is_none found) ≡ true
      → is_some (chosen_deed table roster objects found).call ≡ true
  chosen_calls None h = absurd (false≢true h)
  chosen_calls (Some p) h = script_calls p (step_of table roster p)

  -- a turn has a call if the core has open work, an init step is due, or it has a process to run
  pub turn_calls : (begun : Option OpenWork) (due : Option Call)
      → (is_some due || not (is_none begun && is_none (chosen roster core))) ≡ true
      → is_some (turn_deed table roster objects core begun due).call ≡ true
  turn_calls (Some o) due h = refl
  turn_calls None (Some call) h = refl
  turn_calls None None h = chosen_calls (chosen roster core) h

from_may : (starting due idle needs : Bool) → (if starting then due else not (idle || needs)) ≡ true
    → (due || not idle) ≡ true
from_may true true idle needs h = refl
from_may true false idle needs h = absurd (false≢true h)
from_may false true idle needs h = refl
from_may false false false false h = refl
from_may false false false true h = absurd (false≢true h)
from_may false false true needs h = absurd (false≢true h)

pub no_idle : (pace : Pace) (table : Table) (s : Paced) → NoTurnIsIdle pace table s
no_idle pace table s core allowed =
    let may = (and_parts (nat_lt core table.cores) (may_turn pace table s core) allowed).1 in
    turn_calls table s.situation.roster s.situation.objects core (s.situation.works core) (due_call table s.situation core)
    (from_may (is_starting s) (is_some (due_call table s.situation core)) (is_idle s core) (needs_time pace.percent s core) may)
