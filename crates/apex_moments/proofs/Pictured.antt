-- The picture of a run, one column more each time.
use Rattle.std.proofs.Common.{◌≡◌, ◌∙◌, ◌<◌, List, [], ◌∷◌, ◌++◌, None, Some, refl, sym, ap, arith, length, subst, append-nil, append_assoc, length-append, inl, inr}
use Rattle.std.specs.List.{last_or}
use Rattle.std.proofs.lemmas.Bool.{cases_lt}
use Rattle.apex_types.specs.declared.entries.Event.TheVariants.{Turn, Tick}
use Rattle.apex_machine.specs.Machine.{Machine, accept, events_of, happen, opening, replay, run, tick, turn}
use Rattle.apex_machine.specs.processes.Roster.{Roster, opening_roster}
use Rattle.apex_machine.specs.table.Table.{Table}
use Rattle.apex_laws.proofs.Runs.{accept-full, accept-room}
use Rattle.apex_moments.specs.Instants.{instant_after, next_instant}
use Rattle.apex_moments.specs.Moments.{Column, column_of, columns_from, moment_in, picture, IsPictured, last_roster}
use Rattle.apex_moments.specs.Terms.{Entry, Event}
use Rattle.apex_moments.specs.declared.instants.Instant.{Instant}
use Rattle.apex_moments.proofs.NextInstants.{instant_next, next_now}
use Rattle.apex_history.proofs.EntriesOf.{last_put}

last_push : (before : Roster) (rosters : List Roster) (roster : Roster)
    → last_roster before (rosters ++ roster ∷ []) ≡ roster
last_push before [] roster = refl
last_push before (r ∷ rosters) roster = last_push r rosters roster

columns_push : (table : Table) (done : List Entry) (before : Roster) (entries : List Entry) (rosters : List Roster)
    (entry : Entry) (roster : Roster) → length rosters ≡ length entries
    → columns_from table done before (entries ++ entry ∷ []) (rosters ++ roster ∷ [])
    ≡ columns_from table done before entries rosters
    ++ column_of table (done ++ entries) (last_roster before rosters) entry roster ∷ []
columns_push table done before [] [] entry roster same =
    ap (λ (l : List Entry). column_of table l before entry roster ∷ []) (sym (append-nil done))
columns_push table done before [] (r ∷ rosters) entry roster same = absurd (omega (arith, same))
columns_push table done before (e ∷ entries) [] entry roster same = absurd (omega (arith, same))
columns_push table done before (e ∷ entries) (r ∷ rosters) entry roster same =
    ap (λ (columns : List Column). column_of table done before e r ∷ columns)
    (columns_push table (done ++ e ∷ []) r entries rosters entry roster (omega (arith, same))
    ∙ ap (λ (l : List Entry). columns_from table (done ++ e ∷ []) r entries rosters
    ++ column_of table l (last_roster r rosters) entry roster ∷ []) (append_assoc done (e ∷ []) entries))

-- the machine with one entry more and the roster after it
abbrev pub longer : Machine → Entry → Roster → Machine
longer machine entry roster = record {
  roster = roster;
  past = machine.past ++ roster ∷ [];
  history = machine.history ++ entry ∷ [];
}

pub event_adds : (table : Table) (machine : Machine) (event : Event)
    → (entry : Entry) × (roster : Roster) × (happen table machine event ≡ longer machine entry roster)
unfolding turn tick
event_adds table machine (Turn core) = (_, _, refl)
event_adds table machine (Tick n) = (_, _, refl)

-- the time of the entry is that of the roster after it
pub event_timed : (table : Table) (machine : Machine) (event : Event)
    → (entry : Entry) × (happen table machine event).history ≡ machine.history ++ entry ∷ []
    × (happen table machine event).roster.now ≡ entry.now
unfolding turn tick
event_timed table machine (Turn core) = (_, refl, refl)
event_timed table machine (Tick n) = (_, refl, refl)

-- the instant after an event for which there was room
pub instant_more : (table : Table) (machine new : Machine) (event : Event) → length machine.history < table.limit
    → new ≡ accept table machine event
    → instant_after new.history ≡ next_instant (instant_after machine.history) new.roster.now
instant_more table machine new event room is =
    let (entry, history, now) = event_timed table machine event in
    let whole : new ≡ happen table machine event = is ∙ accept-room table machine event room in
    ap (λ (m : Machine). instant_after m.history) whole ∙ ap instant_after history
    ∙ instant_next machine.history entry
    ∙ ap (next_instant (instant_after machine.history)) (sym (ap (λ (m : Machine). m.roster.now) whole ∙ now))

-- the time of the instant after a history is that of the roster
abbrev IsTimed : Machine → Type 0
IsTimed machine = (instant_after machine.history).now ≡ machine.roster.now

timed_accept : (table : Table) (machine : Machine) (event : Event) → IsTimed machine → IsTimed (accept table machine event)
timed_accept table machine event timed = elim (cases_lt (length machine.history) table.limit) [
  | inl room ↦
      ap (λ (i : Instant). i.now) (instant_more table machine (accept table machine event) event room refl)
      ∙ next_now (instant_after machine.history) (accept table machine event).roster.now
  | inr full ↦ subst IsTimed (sym (accept-full table machine event full)) timed
]

timed_run : (table : Table) (events : List Event) (machine : Machine) → IsTimed machine → IsTimed (run table machine events)
timed_run table [] machine timed = timed
timed_run table (event ∷ events) machine timed =
    timed_run table events (accept table machine event) (timed_accept table machine event timed)

pub timed_machine : (table : Table) (machine : Machine) → replay table machine.history ≡ machine
    → (instant_after machine.history).now ≡ machine.roster.now
timed_machine table machine again =
    subst IsTimed again (timed_run table (events_of machine.history) (opening table) refl)

-- the columns of a machine with one entry more
module _ (table : Table) (machine : Machine) (pictured : IsPictured table machine) where
  pictured_longer : (entry : Entry) (roster : Roster) → IsPictured table (longer machine entry roster)
  pictured_longer entry roster = record {
    many = rw (length-append, length-append) (omega (arith, pictured.many));
    last = last_push _ machine.past roster;
  }

  pub pictured_accept : (event : Event) → IsPictured table (accept table machine event)
  pictured_accept event = elim (cases_lt (length machine.history) table.limit) [
    | inl room ↦
        let (entry, roster, is) = event_adds table machine event in
        subst (IsPictured table) (sym (accept-room table machine event room ∙ is)) (pictured_longer entry roster)
    | inr full ↦ subst (IsPictured table) (sym (accept-full table machine event full)) pictured
  ]

  column_longer : (entry : Entry) (roster : Roster) → picture table (longer machine entry roster)
      ≡ picture table machine ++ column_of table machine.history machine.roster entry roster ∷ []
  column_longer entry roster =
      columns_push table [] (opening_roster table) machine.history machine.past entry roster pictured.many
      ∙ ap (λ (before : Roster). picture table machine ++ column_of table machine.history before entry roster ∷ []) pictured.last

  -- the column that an event adds, for which there was room
  pub column_more : (event : Event) (new : Machine) (found : Entry) → length machine.history < table.limit
      → new ≡ accept table machine event → last_or None new.history ≡ Some found
      → picture table new ≡ picture table machine
      ++ record {
        begun = instant_after machine.history;
        instant = instant_after new.history;
        before = moment_in table machine;
        entry = found;
        after = moment_in table new;
      } ∷ []
  column_more event new found room is latest =
      let (entry, roster, adds) = event_adds table machine event in
      let whole : new ≡ longer machine entry roster = is ∙ accept-room table machine event room ∙ adds in
      let some : Some entry ≡ Some found =
      sym (last_put None machine.history entry) ∙ ap (λ (m : Machine). last_or None m.history) (sym whole) ∙ latest in
      let same : entry ≡ found = cc in
      ap (picture table) whole ∙ column_longer entry roster
      ∙ ap (λ (m : Machine). picture table machine
      ++ record {
        begun = instant_after machine.history;
        instant = instant_after m.history;
        before = moment_in table machine;
        entry = entry;
        after = moment_in table m;
      } ∷ []) (sym whole)
      ∙ ap (λ (e : Entry). picture table machine
      ++ record {
        begun = instant_after machine.history;
        instant = instant_after new.history;
        before = moment_in table machine;
        entry = e;
        after = moment_in table new;
      } ∷ []) same

  -- an event adds columns
  accept_more : (event : Event) → (columns : List Column) × (picture table (accept table machine event) ≡ picture table machine ++ columns)
  accept_more event = elim (cases_lt (length machine.history) table.limit) [
    | inl room ↦
        let (entry, roster, adds) = event_adds table machine event in
        (column_of table machine.history machine.roster entry roster ∷ [], ap (picture table) (accept-room table machine event room ∙ adds) ∙ column_longer entry roster)
    | inr full ↦ ([], ap (picture table) (accept-full table machine event full) ∙ sym (append-nil (picture table machine)))
  ]

-- a run adds columns
pub run_more : (table : Table) (events : List Event) (machine : Machine) → IsPictured table machine
    → (columns : List Column) × (picture table (run table machine events) ≡ picture table machine ++ columns)
run_more table [] machine pictured = ([], sym (append-nil (picture table machine)))
run_more table (event ∷ events) machine pictured =
    let (first, one) = accept_more table machine pictured event in
    let (others, rest) = run_more table events (accept table machine event) (pictured_accept table machine pictured event) in
    (first ++ others, rest ∙ ap (λ (columns : List Column). columns ++ others) one ∙ append_assoc (picture table machine) first others)

-- every run is pictured
pub pictured_run : (table : Table) (events : List Event) (machine : Machine) → IsPictured table machine
    → IsPictured table (run table machine events)
pictured_run table [] machine pictured = pictured
pictured_run table (event ∷ events) machine pictured =
    pictured_run table events (accept table machine event) (pictured_accept table machine pictured event)

pub pictured_opening : (table : Table) → IsPictured table (opening table)
pictured_opening table = record { many = refl; last = refl }

-- the machine of a history is pictured
pub pictured_machine : (table : Table) (machine : Machine) → replay table machine.history ≡ machine → IsPictured table machine
pictured_machine table machine again =
    subst (IsPictured table) again (pictured_run table (events_of machine.history) (opening table) (pictured_opening table))
