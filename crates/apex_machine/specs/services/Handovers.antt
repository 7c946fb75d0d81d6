-- Mutexes that their owner has left go on to their first waiters (this profile).
use Rattle.std.specs.Prelude.{ℕ, List, [], ◌∷◌, Option, None, Some}
use Rattle.apex_machine.specs.Terms.{Holding}
use Rattle.apex_types.specs.declared.entries.Notice.TheVariants.{Woken}
use Rattle.apex_types.specs.declared.entries.ReturnCode.TheVariants.{NoError}
use Rattle.apex_machine.specs.declared.records.Queue.TheVariants as queues
use Rattle.apex_machine.specs.processes.Held.{in_order}
use Rattle.apex_machine.specs.services.InTurn.{Changed, followed_by, unchanged}
use Rattle.apex_machine.specs.processes.Roster.{Roster, record_at}
use Rattle.apex_machine.specs.processes.Stamps.{inherit, stop}
use Rattle.apex_machine.specs.processes.Waiters.{first_waiter}

-- the mutex of this holding goes to this waiter, which owns it at depth 1 and is woken; without a
-- waiter nothing changes
abbrev pub hand_to : Roster → Holding → Option ℕ → Changed
hand_to roster holding None = unchanged roster
hand_to roster holding (Some q) =
    record {
      roster = inherit roster q (record holding { depth = 1 });
      notices = Woken q NoError ∷ [];
    }

-- the mutex of this holding goes to its first waiter
abbrev pub hand_over : Roster → Holding → Changed
hand_over roster holding = hand_to roster holding (first_waiter roster (queues.Mutex holding.mutex))

-- the mutexes of these holdings go on, one after the other, each to its first waiter
abbrev pub hand_on : List Holding → Roster → Changed
hand_on [] roster = unchanged roster
hand_on (holding ∷ others) roster = followed_by (hand_over roster holding) (hand_on others)

-- stop: process p is stopped, and the mutexes that it owned go on in order of their numbers
abbrev pub halted : Roster → ℕ → Changed
halted roster p = hand_on (in_order (record_at roster p).owned) (stop roster p)
