-- A tick: time goes on, and at the new instant deadlines are missed and waits end (this profile).
use Rattle.std.specs.Prelude.{ℕ, ◌+◌, List, [], ◌∷◌, length, Option, None, Some, min, ◌==◌, if◌then◌else◌}
use Rattle.apex_machine.specs.Terms.{DeadlineType, Notice, Wait}
use Rattle.apex_types.specs.declared.entries.Notice.TheVariants.{Released, Missed}
use Rattle.apex_types.specs.declared.entries.ReturnCode.TheVariants.{NoError, TimedOut}
use Rattle.apex_types.specs.declared.modes.DeadlineType.TheVariants.{Soft, Hard}
use Rattle.apex_machine.specs.declared.records.Wait.TheVariants.{Start, Time, Period}
use Rattle.apex_machine.specs.processes.Roster.{Roster, record_at}
use Rattle.apex_machine.specs.processes.Dues.{next_instant, first_due, first_missed}
use Rattle.apex_machine.specs.services.Handovers.{halted}
use Rattle.apex_machine.specs.processes.Stamps.{release, begin, advance_to, set_deadline, without_due}
use Rattle.apex_machine.specs.services.InTurn.{Changed, behind, followed_by, in_turn, unchanged}
use Rattle.apex_machine.specs.services.Waking.{woken}

-- the smaller of an instant and the next one, if there is one
abbrev pub not_beyond : ℕ → Option ℕ → ℕ
not_beyond t None = t
not_beyond t (Some next) = min t next

-- the instant to which a tick of n goes: the smaller of now + n and the next instant
abbrev pub tick_goal : Roster → ℕ → ℕ
tick_goal roster n = not_beyond (roster.now + n) (next_instant roster)

-- process p is released
abbrev pub released : Roster → ℕ → Changed
released roster p = record { roster = release roster p; notices = Released p ∷ [] }

-- the notices of a start of process p after this delay: with a delay of 0 it is released
abbrev pub begin_notices : ℕ → ℕ → List Notice
begin_notices p delay = if delay == 0 then Released p ∷ [] else []

-- the start of process p begins after this delay, with its notices
abbrev pub begun : Roster → ℕ → ℕ → Changed
begun roster p delay = record { roster = begin roster p delay; notices = begin_notices p delay }

-- the wait of process p ends at its due: a wait for time with NO_ERROR, one for a start or a
-- release with the release, any other with TIMED_OUT; a process that waits for nothing and has a
-- due suspended itself
abbrev pub wait_over : Roster → ℕ → Option Wait → Changed
wait_over roster p (Some Time) = woken roster p NoError
wait_over roster p (Some Start) = released roster p
wait_over roster p (Some Period) = released roster p
wait_over roster p _ = woken roster p TimedOut

-- process p, whose due is now, no longer has it, and its wait ends
abbrev pub serve_due : Roster → ℕ → Changed
serve_due roster p = wait_over (without_due roster p) p (record_at roster p).wait

-- the dues at now are served, by process number
abbrev pub serve_dues : Roster → Changed
serve_dues roster = in_turn first_due serve_due (length roster.records) roster

-- a miss: a HARD one stops the process, and the mutexes that it owned go on at once
abbrev pub miss : Roster → ℕ → DeadlineType → Changed
miss roster p Soft = unchanged roster
miss roster p Hard = halted roster p

-- process p, whose deadline is now, no longer has it, and a notice reports the miss
abbrev pub serve_missed : Roster → ℕ → Changed
serve_missed roster p =
    let kind = (record_at roster p).attributes.deadline in
    behind (Missed p kind ∷ []) (miss (set_deadline roster p None) p kind)

-- the deadlines at now are served, by process number
abbrev pub serve_deadlines : Roster → Changed
serve_deadlines roster = in_turn first_missed serve_missed (length roster.records) roster

-- the deadlines at now are served first, and then the dues
abbrev pub serve_instant : Roster → Changed
serve_instant roster = followed_by (serve_deadlines roster) serve_dues

-- time goes on by a tick of n, and the deadlines and dues at that instant are served
unfoldable pub pass_time : Roster → ℕ → Changed
pass_time roster n = serve_instant (advance_to roster (tick_goal roster n))
