-- Rosters that are alike: they differ in the names of stamps, in a shift of time, and in fields
-- that no longer matter.
use Rattle.std.specs.Prelude.{◌≡◌, ℕ, ◌+◌, ◌*◌, ◌<◌, ◌≤◌, ◌⊎◌, Bool, true, false, length, Option, None, Some, ℤ, option_map}
use Rattle.apex_machine.specs.processes.Distinct.{IsStamped}
use Rattle.apex_laws.specs.Terms.{Message, Mode, Queue, Record, TimeCall, Wait}
use Rattle.apex_machine.specs.processes.Periods.{awaits_first}
use Rattle.apex_types.specs.declared.calls.TimeCall.TheVariants.{GetTime}
use Rattle.apex_machine.specs.declared.records.Wait.TheVariants.{Normal}
use Rattle.apex_machine.specs.processes.Roster.{Roster, record_at}
use Rattle.apex_machine.specs.processes.Running.{is_older, runs_on}
use Rattle.apex_machine.specs.processes.Waiters.{waits_in}
use Rattle.apex_machine.specs.services.InTurn.{Changed}
use Rattle.apex_machine.specs.services.Rows.{Outcome}

-- an instant, this many ticks later
abbrev pub later : ℕ → Option ℕ → Option ℕ
later d instant = option_map (λ t. t + d) instant

-- the record with another stamp, release and inbox, and with its due and its deadline d later
abbrev pub moved : ℕ → ℤ → ℕ → Option Message → Record → Record
moved d since release inbox r = record r {
  since = since;
  due = later d r.due;
  deadline = later d r.deadline;
  release = release;
  inbox = inbox;
}

-- the process waits for NORMAL
abbrev pub awaits_normal : Option Wait → Bool
awaits_normal (Some (Normal delay)) = true
awaits_normal _ = false

-- the second release serves as the first one would d later: it is whole periods earlier, and none
-- unless the first one is more than a period ago
pub record ServesAs (d now period first second : ℕ) : Type 0 where
  pub periods : ℕ
  pub is : first + d ≡ second + periods * period
  pub past : (periods ≡ 0) ⊎ (first + period < now)

-- so it is with a period; without one a release does not matter
abbrev pub ServesFor : ℕ → ℕ → Option ℕ → ℕ → ℕ → Type 0
ServesFor d now None first second = Unit {0}
ServesFor d now (Some period) first second = ServesAs d now period first second

-- the second record is the first one d later, but for its stamp, its inbox, and a release that does
-- not matter, which is one of a process that is aperiodic, dormant, or waits for its first release;
-- a process that waits for NORMAL has no due, no release is in the future, and no period is 0
pub record IsLater (d now : ℕ) (r s : Record) : Type 0 where
  pub since : ℤ
  pub release : ℕ
  pub inbox : Option Message
  pub is : s ≡ moved d since release inbox r
  pub released : r.started ≡ true → awaits_first r.wait ≡ false
      → ServesFor d now r.attributes.period r.release release
  pub undue : awaits_normal r.wait ≡ true → r.due ≡ None
  pub before : r.release ≤ now
  pub spans : (period : ℕ) → r.attributes.period ≡ Some period → 1 ≤ period

-- the two processes are bound to one core and eligible, or wait in one queue
abbrev pub AreRivals : Mode → Record → Record → Type 0
AreRivals mode r s =
    ((core : ℕ) × (runs_on mode core r ≡ true) × (runs_on mode core s ≡ true))
    ⊎ ((queue : Queue) × (waits_in queue r ≡ true) × (waits_in queue s ≡ true))

-- the second roster is the first one d later, and the stamps of rivals have the same order
pub record AreAlike (d : ℕ) (first second : Roster) : Type 0 where
  pub cores : second.cores ≡ first.cores
  pub mode : second.mode ≡ first.mode
  pub time : second.now ≡ first.now + d
  pub many : length second.records ≡ length first.records
  pub each : (p : ℕ) → IsLater d first.now (record_at first p) (record_at second p)
  pub order : (p q : ℕ) → p < length first.records → q < length first.records
      → AreRivals first.mode (record_at first p) (record_at first q)
      → is_older (record_at second p) (record_at second q)
      ≡ is_older (record_at first p) (record_at first q)
  pub disciplines : second.disciplines ≡ first.disciplines
  pub rules : second.rules ≡ first.rules
  pub stamped : IsStamped first
  pub stamped2 : IsStamped second

-- two changes leave rosters that are alike, with the same notices
pub record AreAlikeChanges (d : ℕ) (one other : Changed) : Type 0 where
  pub rosters : AreAlike d one.roster other.roster
  pub notices : other.notices ≡ one.notices

-- two services leave rosters that are alike and the same object, with the same reply and notices
pub record AreAlikeOutcomes (d : ℕ) {X : Type 0} (one other : Outcome X) : Type 0 where
  pub rosters : AreAlike d one.roster other.roster
  pub object : other.object ≡ one.object
  pub reply : other.reply ≡ one.reply
  pub notices : other.notices ≡ one.notices

-- the call is GET_TIME
abbrev pub is_get_time : TimeCall → Bool
is_get_time GetTime = true
is_get_time _ = false
