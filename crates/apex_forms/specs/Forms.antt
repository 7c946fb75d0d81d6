-- The canonical form as the code makes it: record by record, with the ranks counted before.
use Rattle.std.specs.Prelude.{◌≡◌, ℕ, ◌-◌, ◌<◌, ◌==◌, ◌&&◌, length, ◌≤◌, min, Bool, true, false, count_by, take, List, Option, None, Some, ℤ, slice_index, slice_index_or, if◌then◌else◌}
use Rattle.apex_alike.specs.Canonical.{age, canonical, canonical_record, earlier, rank, vies}
use Rattle.apex_machine.specs.processes.Roster.{Roster, record_at, with_record}
use Rattle.apex_machine.specs.processes.Queues.{is_same_queue}
use Rattle.apex_machine.specs.processes.Running.{is_eligible, is_older}
use Rattle.apex_machine.specs.processes.Waiters.{queue_in}
use Rattle.apex_pace.specs.Pace.{Paced}
use Rattle.apex_forms.specs.Terms.{Contest, Mode, Moments, OpenWork, Pace, Queue, Record}
use Rattle.apex_forms.specs.declared.forms.Contest.TheVariants as contests
use Rattle.apex_types.specs.Places.{map_places}
use Rattle.apex_types.specs.declared.limits.TheConstants.{MOST_PROCESSES}

-- the canonical record at this stamp and time
abbrev pub form_of : Roster → ℤ → ℕ → Record → Record
form_of roster since now r = record r {
  since = since;
  due = earlier (roster.now - now) r.due;
  deadline = earlier (roster.now - now) r.deadline;
  release = now - age roster.now r;
  inbox = None;
}

-- what the canonical record has in place of its own, at this stamp and time
abbrev pub moments_of : Roster → ℤ → ℕ → Record → Moments
moments_of roster since now r = record {
  since = since;
  due = earlier (roster.now - now) r.due;
  deadline = earlier (roster.now - now) r.deadline;
  release = now - age roster.now r;
}

-- the record, with these moments in place of its own, and an empty inbox
abbrev pub with_moments : Record → Moments → Record
with_moments r moments = record r {
  since = moments.since;
  due = moments.due;
  deadline = moments.deadline;
  release = moments.release;
  inbox = None;
}

-- the roster, with that of process p
abbrev pub with_form : Roster → ℕ → ℤ → ℕ → Roster
with_form roster p since now =
    with_record roster p (form_of roster since now (record_at roster p))

-- the roster, with the canonical records of all processes, at this time
abbrev pub with_forms : Roster → ℕ → Roster
with_forms roster now = record roster {
  records = map_places (canonical_record roster now) 0 roster.records;
}

-- what a process vies for: its core if it is eligible, or else its place in its queue
abbrev pub contest_by : Bool → ℕ → Option Queue → Contest
contest_by true core queue = contests.Core core
contest_by false core (Some queue) = contests.Queue queue
contest_by false core None = contests.Nothing

abbrev pub contest_of : Mode → Record → Contest
contest_of mode r = contest_by (is_eligible mode r) r.core (queue_in r)

-- the two vie for one core or in one queue
abbrev pub vie : Contest → Contest → Bool
vie (contests.Core core) (contests.Core other) = other == core
vie (contests.Queue queue) (contests.Queue other) = is_same_queue queue other
vie _ _ = false

-- what the processes before a place vie for
pub record AreContests (roster : Roster) (contests : List Contest) (place : ℕ) : Type 0 where
  pub many : length contests ≡ MOST_PROCESSES
  pub each : (p : ℕ) (other : Contest) → p < place
      → slice_index_or contests p other ≡ contest_of roster.mode (record_at roster p)

-- the number of processes before a place that are older rivals of process p
abbrev pub older_before : Roster → ℕ → ℕ → ℕ
older_before roster p place =
    let r = record_at roster p in
    count_by (λ s. vies roster.mode r s && is_older s r) (take place roster.records)

-- the first ranks, `many` of them, count the older rivals before a place
pub record AreCounted (roster : Roster) (ranks : List ℕ) (many place : ℕ) : Type 0 where
  pub room : length ranks ≡ MOST_PROCESSES
  pub each : (p : ℕ) → p < many → slice_index ranks p ≡ older_before roster p place

-- the ranks of the processes, one each, and no more of them than there is room for
pub record AreRanks (roster : Roster) (ranks : List ℕ) : Type 0 where
  pub each : (p : ℕ) → p < length roster.records
      → slice_index ranks p ≡ rank roster (record_at roster p)
  pub few : (p : ℕ) → p < length roster.records
      → rank roster (record_at roster p) ≤ MOST_PROCESSES

-- the turns count up to those of the pace
abbrev pub kept_turns : Pace → ℕ → ℕ
kept_turns pace turns = min turns pace.turns

-- the ticks since open work began count up to its amount, and only for unbroken work
abbrev pub kept_worked : Option OpenWork → ℕ → ℕ
kept_worked None worked = 0
kept_worked (Some o) worked = if o.unbroken then min worked o.work.amount else 0

-- the paced situation in canonical form, with the counts as far as they matter at the pace
abbrev pub canonical_paced : Pace → Paced → Paced
canonical_paced pace s = record {
  situation = canonical s.situation;
  turns = λ core. kept_turns pace (s.turns core);
  worked = λ core. kept_worked (s.situation.works core) (s.worked core);
}
