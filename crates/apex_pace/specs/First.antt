-- The first schedule of a pace: in rounds each core in order takes the turn that it is allowed, and
-- a round without a turn ends with the tick that may come (this profile).
use Rattle.std.specs.Prelude.{ℕ, ◌+◌, ◌-◌, zero, suc, Bool, true, false, List, [], ◌∷◌, ◌++◌, Option, None, Some, nat_lt, ◌&&◌, ◌||◌, not, if◌then◌else◌}
use Rattle.apex_pace.specs.Pace.{Paced, is_at_work, is_starting, may_turn, next_tick, paced_opening, paced_run, paced_step}
use Rattle.apex_pace.specs.Terms.{Event, Pace}
use Rattle.apex_types.specs.declared.entries.Event.TheVariants.{Turn, Tick}
use Rattle.apex_machine.specs.table.Table.{Table}

-- the core takes a turn in a round: it may, and if the partition is not starting it is not at work, so
-- that work ends as late as it may, and has not had all its turns since the last tick
abbrev pub takes_turn : Pace → Table → Paced → ℕ → Bool
takes_turn pace table s core =
    may_turn pace table s core
    && (is_starting s || (not (is_at_work s core) && nat_lt (s.turns core) pace.turns))

-- the turns of a round that are left once `n` cores are to come
abbrev pub round : Pace → Table → Paced → ℕ → List Event
round pace table s zero = []
round pace table s (suc n) =
    let core = table.cores - suc n in
    if takes_turn pace table s core
    then Turn core ∷ round pace table (paced_step table s (Turn core)) n
    else round pace table s n

-- a part of a schedule, and whether the schedule ends with it
pub record Part : Type 0 where
  pub events : List Event
  pub ends : Bool

-- the tick that may come; it goes as far as this time, with which the schedule ends
abbrev pub closing : ℕ → Paced → Option ℕ → Part
closing until s None = record { events = []; ends = true }
closing until s (Some n) =
    if nat_lt (s.situation.roster.now + n) until
    then record { events = Tick n ∷ []; ends = false }
    else record { events = Tick (until - s.situation.roster.now) ∷ []; ends = true }

-- the turns of a round, or else the tick that may come
abbrev pub turns_or_tick : Pace → Table → ℕ → Paced → List Event → Part
turns_or_tick pace table until s [] = closing until s (next_tick pace table s)
turns_or_tick pace table until s (turn ∷ turns) = record { events = turn ∷ turns; ends = false }

abbrev pub part : Pace → Table → ℕ → Paced → Part
part pace table until s = turns_or_tick pace table until s (round pace table s table.cores)

-- the events of at most n rounds, up to this time
abbrev pub rounds : Pace → Table → ℕ → ℕ → Paced → List Event
rounds pace table until zero s = []
rounds pace table until (suc n) s =
    if nat_lt s.situation.roster.now until then (let next = part pace table until s in
    next.events
    ++ (if next.ends then [] else rounds pace table until n (paced_run table s next.events)))
    else []

-- the first schedule up to a time: each round has an event, so the history is full after as many
-- rounds as it has room for entries, if the schedule has not ended before
abbrev pub first_schedule : Pace → Table → ℕ → List Event
first_schedule pace table until = rounds pace table until table.limit (paced_opening table)
