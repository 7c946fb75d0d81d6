-- The end of waits: one process is woken, with a code or a message, or all of a queue are, in its
-- order (this profile).
use Rattle.std.specs.Prelude.{ℕ, [], ◌∷◌, length, Option, None, Some}
use Rattle.apex_machine.specs.Terms.{Message, Queue, ReturnCode}
use Rattle.apex_types.specs.declared.entries.Notice.TheVariants.{Woken}
use Rattle.apex_types.specs.declared.entries.ReturnCode.TheVariants.{NoError}
use Rattle.apex_machine.specs.services.InTurn.{Changed, in_turn}
use Rattle.apex_machine.specs.processes.Roster.{Roster}
use Rattle.apex_machine.specs.processes.Stamps.{receive, unblock}
use Rattle.apex_machine.specs.processes.Waiters.{first_waiter}

-- process p is woken with this code
abbrev pub woken : Roster → ℕ → ReturnCode → Changed
woken roster p code = record { roster = unblock roster p; notices = Woken p code ∷ [] }

-- process p has what it waited for: it gets the message, if there is one, and is woken
abbrev pub granted : Option Message → Roster → ℕ → Changed
granted None roster p = woken roster p NoError
granted (Some message) roster p = woken (receive roster p message) p NoError

-- the first waiter of the queue
abbrev pub first_in : Queue → Roster → Option ℕ
first_in queue roster = first_waiter roster queue

-- all processes that wait in the queue have what they waited for
unfoldable pub grant_all : Queue → Option Message → Roster → Changed
grant_all queue message roster =
    in_turn (first_in queue) (granted message) (length roster.records) roster
