-- The figures of a core, each read off the history.
use Rattle.std.specs.Prelude.{ℕ, ◌+◌, ◌*◌, ◌/◌, Bool, true, false, List, [], ◌∷◌, Option, None, Some, count_by, fold, is_some, sum_by, ◌==◌, ◌&&◌, not, if◌then◌else◌}
use Rattle.std.specs.List.{sum}
use Rattle.apex_types.specs.declared.calls.Call.TheVariants.{Work}
use Rattle.apex_types.specs.declared.entries.Reply.TheVariants.{Advanced, Done, Idle, Lost}
use Rattle.apex_machine.specs.Works.{is_turn_of, work_begun}
use Rattle.apex_machine.specs.services.Calls.{is_work}
use Rattle.apex_report.specs.Along.{along}
use Rattle.apex_report.specs.Terms.{Call, CoreFigures, Entry, Reply}

-- the entry is a turn of the core
abbrev pub is_turn : ℕ → Entry → Bool
is_turn core e = is_turn_of core e.who

-- the turn had nothing to do
abbrev pub is_idle : Reply → Bool
is_idle Idle = true
is_idle _ = false

-- the turn ended work that is done
abbrev pub is_done : Reply → Bool
is_done Done = true
is_done _ = false

-- the turn ended work that is lost
abbrev pub is_lost : Reply → Bool
is_lost Lost = true
is_lost _ = false

-- a service was called
abbrev pub is_service : Option Call → Bool
is_service None = false
is_service (Some call) = not (is_work call)

-- an idle turn of the core
abbrev pub is_idle_turn : ℕ → Entry → Bool
is_idle_turn core e = is_turn core e && is_idle e.reply

-- a turn of the core that called a service
abbrev pub is_service_turn : ℕ → Entry → Bool
is_service_turn core e = is_turn core e && is_service e.call

-- a turn of the core that ended work that is done
abbrev pub is_done_turn : ℕ → Entry → Bool
is_done_turn core e = is_turn core e && is_done e.reply

-- a turn of the core that ended work that is lost
abbrev pub is_lost_turn : ℕ → Entry → Bool
is_lost_turn core e = is_turn core e && is_lost e.reply

-- the units of work that the call asks for
abbrev pub units : Option Call → ℕ
units (Some (Work amount)) = amount
units _ = 0

-- the units of the entry's work if the entry passes the test
abbrev pub units_if : (ℕ → Entry → Bool) → ℕ → Entry → ℕ
units_if passes core e = if passes core e then units e.call else 0

-- the turn began work of a process
abbrev pub is_begun : Entry → Bool
is_begun e = is_some (work_begun e.process e.call e.reply)

-- the ticks by which time goes on with the reply
abbrev pub ticks_in : Reply → ℕ
ticks_in (Advanced asked went) = went
ticks_in _ = 0

-- whether work is open on the core after an entry, by whether it was before: a turn of the core ends
-- the work that was open, and may begin some
abbrev pub is_working_after : ℕ → Bool → Entry → Bool
is_working_after core before e = if is_turn core e then is_begun e else before

-- work is open on the core: its last turn began some
abbrev pub is_working : ℕ → List Entry → Bool
is_working core history = fold (is_working_after core) false history

-- the ticks of the entry if work is open on the core
abbrev pub busy_by : ℕ → List Entry → Entry → List ℕ
busy_by core before e = if is_working core before then ticks_in e.reply ∷ [] else []

-- the ticks of the entry if no work is open on the core
abbrev pub idle_by : ℕ → List Entry → Entry → List ℕ
idle_by core before e = if is_working core before then [] else ticks_in e.reply ∷ []

-- the busy ticks of the core: those that pass while work is open on it
abbrev pub busy_ticks : ℕ → List Entry → ℕ
busy_ticks core history = sum (along (busy_by core) [] history)

-- the idle ticks of the core: all others
abbrev pub idle_ticks : ℕ → List Entry → ℕ
idle_ticks core history = sum (along (idle_by core) [] history)

-- how many of each hundred of these and those ticks are of these, rounded down; none if no tick has
-- passed
abbrev pub percent_of : ℕ → ℕ → Option ℕ
percent_of these those =
    if these + those == 0 then None else Some (these * 100 / (these + those))

-- the part of the ticks in which the core was busy, in percent
abbrev pub busy_percent : CoreFigures → Option ℕ
busy_percent f = percent_of f.busy_ticks f.idle_ticks

-- the figures of the core; the work done and lost is in units
abbrev pub core_figures : List Entry → ℕ → CoreFigures
core_figures history core = record {
  core = core;
  turns = count_by (is_turn core) history;
  idle = count_by (is_idle_turn core) history;
  calls = count_by (is_service_turn core) history;
  lost = count_by (is_lost_turn core) history;
  work_done = sum_by (units_if is_done_turn core) history;
  work_lost = sum_by (units_if is_lost_turn core) history;
  is_working = is_working core history;
  busy_ticks = busy_ticks core history;
  idle_ticks = idle_ticks core history;
}
