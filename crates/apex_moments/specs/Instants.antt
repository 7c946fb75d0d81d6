-- The instants of a history on the axis of a trace. The moments of one time follow one another from the beginning of
-- the tick: the first `WIDE_MOMENTS` a thousandth of the tick apart, the others a hundredth of that, so that all
-- moments of a history have room in the tick. The axis has microseconds, and the length of a tick is given in them; times are
-- nanoseconds.
use Rattle.std.specs.Prelude.{ℕ, ◌+◌, ◌*◌, ◌-◌, ◌/◌, List, [], ◌∷◌, ◌==◌, if◌then◌else◌, nat_lt}
use Rattle.apex_moments.specs.Terms.{Entry}
use Rattle.apex_moments.specs.declared.instants.Instant.{Instant}
use Rattle.apex_moments.specs.declared.instants.TheConstants.{WIDE_MOMENTS}

-- the instant of the moment before any entry
abbrev pub opening_instant : Instant
opening_instant = record { now = 0; place = 0 }

-- the instant after this one, at which the time is now
abbrev pub next_instant : Instant → ℕ → Instant
next_instant instant now =
    if now == instant.now then record { now = now; place = instant.place + 1 }
    else record { now = now; place = 0 }

-- the instant after these entries, by that before them
abbrev pub instant_from : Instant → List Entry → Instant
instant_from instant [] = instant
instant_from instant (entry ∷ entries) = instant_from (next_instant instant entry.now) entries

-- the instant after these entries: the time, and how many moments of that time come before
abbrev pub instant_after : List Entry → Instant
instant_after done = instant_from opening_instant done

-- the time from the beginning of a tick of this length to a place in it
abbrev pub within_tick : ℕ → ℕ → ℕ
within_tick tick place =
    if nat_lt place WIDE_MOMENTS then tick * place
    else tick * WIDE_MOMENTS + tick * (place - WIDE_MOMENTS) / 100

-- the time of an instant, for ticks of this length
abbrev pub time_at : ℕ → Instant → ℕ
time_at tick instant = 1000 * tick * instant.now + within_tick tick instant.place
