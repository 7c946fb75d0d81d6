-- The pace: how many turns a core has before time may pass, and how many ticks work takes. It says
-- which schedules are meant if a table comes without one (this profile).
use Rattle.std.specs.Prelude.{◌≡◌, ℕ, ◌+◌, ◌-◌, ◌*◌, ◌/◌, zero, suc, Bool, true, false, List, [], ◌∷◌, Option, None, Some, is_none, is_some, option_map, nat_lt, ◌==◌, ◌&&◌, ◌||◌, not, min, max, if◌then◌else◌}
use Rattle.apex_pace.specs.Terms.{Event, OpenWork, Pace}
use Rattle.apex_types.specs.declared.entries.Event.TheVariants.{Turn, Tick}
use Rattle.apex_types.specs.declared.limits.TheConstants.{MOST_TICKS}
use Rattle.apex_types.specs.Modes.{is_cold_start}
use Rattle.apex_machine.specs.Machine.{opening, situation_of}
use Rattle.apex_machine.specs.Situations.{Situation, due_call, step}
use Rattle.apex_machine.specs.processes.Dues.{is_instant, next_instant, sooner}
use Rattle.apex_machine.specs.processes.Running.{chosen}
use Rattle.apex_machine.specs.table.Table.{Table}

-- a situation and what a pace counts of each core: its turns since the last tick, and the ticks since
-- it began its open work
pub record Paced : Type 0 where
  pub situation : Situation
  pub turns : ℕ → ℕ
  pub worked : ℕ → ℕ

-- the partition is still in COLD_START
abbrev pub is_starting : Paced → Bool
is_starting s = is_cold_start s.situation.roster.mode

-- idle: no work is open on the core, and it has no process to run
abbrev pub is_idle : Paced → ℕ → Bool
is_idle s core = is_none (s.situation.works core) && is_none (chosen s.situation.roster core)

-- the work is unbroken, and fewer ticks have passed than these of its amount
abbrev pub is_within : (ℕ → ℕ) → ℕ → Option OpenWork → Bool
is_within ticks passed None = false
is_within ticks passed (Some o) = o.unbroken && nat_lt passed (ticks o.work.amount)

-- all ticks of an amount of work
abbrev pub all_ticks : ℕ → ℕ
all_ticks amount = amount

-- the least ticks that an amount of work takes: this percentage of its ticks, rounded up
abbrev pub least_ticks : ℕ → ℕ → ℕ
least_ticks percent amount = (percent * amount + 99) / 100

-- at work: the core's open work is unbroken, and fewer ticks than its amount have passed
abbrev pub is_at_work : Paced → ℕ → Bool
is_at_work s core = is_within all_ticks (s.worked core) (s.situation.works core)

-- the core's open work is unbroken and needs more ticks
abbrev pub needs_time : ℕ → Paced → ℕ → Bool
needs_time percent s core = is_within (least_ticks percent) (s.worked core) (s.situation.works core)

-- quiet: the core is idle, or its work needs more ticks
abbrev pub is_quiet : ℕ → Paced → ℕ → Bool
is_quiet percent s core = is_idle s core || needs_time percent s core

-- settled: the core is idle or at work, or has had its turns since the last tick
abbrev pub is_settled : Pace → Paced → ℕ → Bool
is_settled pace s core =
    is_idle s core || is_at_work s core || not (nat_lt (s.turns core) pace.turns)

-- each of the first n cores passes
abbrev pub all_cores : (ℕ → Bool) → ℕ → Bool
all_cores passes zero = true
all_cores passes (suc n) = passes n && all_cores passes n

-- the instant from which the work of a core needs no more ticks
abbrev pub work_end : ℕ → Paced → ℕ → Option ℕ
work_end percent s core =
    if needs_time percent s core then option_map (λ (o : OpenWork). s.situation.roster.now
    + (least_ticks percent o.work.amount - s.worked core)) (s.situation.works core)
    else None

-- the soonest of these instants of the first n cores
abbrev pub first_work_end : ℕ → Paced → ℕ → Option ℕ
first_work_end percent s zero = None
first_work_end percent s (suc n) = sooner (work_end percent s n) (first_work_end percent s n)

-- the next moment if all cores are quiet: the next instant, or the end of work
abbrev pub next_moment : ℕ → Table → Paced → Option ℕ
next_moment percent table s =
    sooner (next_instant s.situation.roster) (first_work_end percent s table.cores)

-- the ticks from now to a moment, as far as one tick goes
abbrev pub ticks_to : Paced → ℕ → ℕ
ticks_to s moment = max 1 (min MOST_TICKS (moment - s.situation.roster.now))

-- how far a tick goes once all cores are settled: to the next moment if all are quiet, else one tick
abbrev pub settled_tick : ℕ → Table → Paced → Option ℕ
settled_tick percent table s =
    if all_cores (is_quiet percent s) table.cores then option_map (ticks_to s)
    (next_moment percent table s)
    else Some 1

-- the tick that may come: none in COLD_START, and none while a core is unsettled
abbrev pub next_tick : Pace → Table → Paced → Option ℕ
next_tick pace table s =
    if not (is_starting s) && all_cores (is_settled pace s) table.cores
    then settled_tick pace.percent table s
    else None

-- the core may take a turn: in COLD_START if an init step is due, later if it is not quiet
abbrev pub may_turn : Pace → Table → Paced → ℕ → Bool
may_turn pace table s core =
    if is_starting s then is_some (due_call table s.situation core)
    else not (is_quiet pace.percent s core)

-- the event is allowed
abbrev pub is_allowed : Pace → Table → Paced → Event → Bool
is_allowed pace table s (Turn core) = nat_lt core table.cores && may_turn pace table s core
is_allowed pace table s (Tick n) = is_instant n (next_tick pace table s)

-- at rest: no turn is allowed, and no tick
pub record IsAtRest (pace : Pace) (table : Table) (s : Paced) : Type 0 where
  pub turns : all_cores (λ core. not (may_turn pace table s core)) table.cores ≡ true
  pub ticks : next_tick pace table s ≡ None

-- the turns since the last tick after an event; those in COLD_START do not count
abbrev pub turns_after : Paced → Event → ℕ → ℕ
turns_after s (Turn c) core =
    if not (is_starting s) && core == c then s.turns core + 1 else s.turns core
turns_after s (Tick n) core = 0

-- the ticks since open work began after an event, which left this time
abbrev pub worked_after : Paced → Event → ℕ → ℕ → ℕ
worked_after s (Turn c) now core = if core == c then 0 else s.worked core
worked_after s (Tick n) now core = s.worked core + (now - s.situation.roster.now)

-- after an event
abbrev pub paced_step : Table → Paced → Event → Paced
paced_step table s event = let next = step table s.situation event in record {
  situation = next;
  turns = turns_after s event;
  worked = worked_after s event next.roster.now;
}

-- after each of these events
abbrev pub paced_run : Table → Paced → List Event → Paced
paced_run table s [] = s
paced_run table s (event ∷ events) = paced_run table (paced_step table s event) events

-- before any event
abbrev pub paced_opening : Table → Paced
paced_opening table = record {
  situation = situation_of table (opening table);
  turns = λ core. 0;
  worked = λ core. 0;
}

-- the events keep the pace from here on: each one is allowed when it comes
abbrev pub KeepsPace : Pace → Table → Paced → List Event → Type 0
KeepsPace pace table s [] = Unit {0}
KeepsPace pace table s (event ∷ events) =
    (is_allowed pace table s event ≡ true) × KeepsPace pace table (paced_step table s event) events
