-- The times of the entries of a run are in order.
use Rattle.std.proofs.Common.{◌≡◌, ◌∙◌, ℕ, ◌-◌, ◌<◌, ◌≤◌, List, [], ◌∷◌, ◌++◌, inl, inr, All, None, ap, arith, drop, length, map, subst, sym, take}
use Rattle.std.proofs.lemmas.Bool.{cases_lt}
use Rattle.std.proofs.lemmas.List.{get_or-map, get_or_past, length-map}
use Rattle.std.proofs.lemmas.List.Elements.{All-drop, All-filter, All-map, All-nil, All-push, All-take, All-weaker}
use Rattle.std.proofs.lemmas.List.Kept.{IsNonDecreasingBy-filter}
use Rattle.std.proofs.lemmas.List.Sorted.{IsNonDecreasingBy-drop, IsNonDecreasingBy-from_default, IsNonDecreasingBy-push, IsNonDecreasingBy-short, IsNonDecreasingBy-take}
use Rattle.std.specs.List.{filter}
use Rattle.std.specs.List.Sorted.{IsNonDecreasingBy}
use Rattle.apex_machine.specs.Machine.{Machine, accept, events_of, opening, replay, run}
use Rattle.apex_machine.specs.table.Table.{Table, IsLawful}
use Rattle.apex_types.specs.declared.entries.Caller.TheVariants.{Nobody}
use Rattle.apex_types.specs.declared.entries.Reply.TheVariants.{Idle}
use Rattle.apex_types.specs.declared.entries.Who.TheVariants.{Ticker}
use Rattle.apex_laws.proofs.Runs.{accept-full, accept-room}
use Rattle.apex_laws.proofs.Sound.{IsSound, forward_after, sound_accept, sound_opening}
use Rattle.apex_pictures.specs.Axes.{time_of}
use Rattle.apex_pictures.specs.Excerpts.{columns_of, drawn, has_column, left_out, never, timed}
use Rattle.apex_pictures.specs.declared.excerpts.Extent.{Extent}
use Rattle.apex_pictures.specs.declared.excerpts.Timed.{Timed}
use Rattle.apex_pictures.specs.declared.excerpts.TheConstants.{MOST_COLUMNS}
use Rattle.apex_moments.specs.Terms.{Entry, Event}
use Rattle.apex_moments.proofs.Pictured.{event_timed}

-- the times of a history are in order, and none is later than now
pub record AreTimed (history : List Entry) (now : ℕ) : Type 0 where
  pub before : All (λ entry. entry.now ≤ now) history
  pub rises : IsNonDecreasingBy (λ entry. entry.now) history

timed_none : (now : ℕ) → AreTimed [] now
timed_none now = record {
  before = All-nil (λ (entry : Entry). entry.now ≤ now);
  rises = IsNonDecreasingBy-short (λ (entry : Entry). entry.now) [] (omega arith);
}

timed_push : (done : List Entry) (entry : Entry) (now new : ℕ) → AreTimed done now → now ≤ new → new ≡ entry.now
    → AreTimed (done ++ entry ∷ []) new
timed_push done entry now new timed forward is = record {
  before = All-push (λ (e : Entry). e.now ≤ new) done entry
      (All-weaker (λ (e : Entry). e.now ≤ now) (λ (e : Entry). e.now ≤ new) (λ e old. omega (arith, old, forward)) done timed.before)
      (omega (arith, is));
  rises = IsNonDecreasingBy-push (λ (e : Entry). e.now) done entry timed.rises
      (λ d some. omega (arith, timed.before (length done - 1) d (omega (arith, some)), forward, is));
}

abbrev pub IsOrdered : Machine → Type 0
IsOrdered machine = AreTimed machine.history machine.roster.now

timed_accept : (table : Table) → IsLawful table → (machine : Machine) → IsSound table machine → (event : Event)
    → IsOrdered machine → IsOrdered (accept table machine event)
timed_accept table lawful machine sound event timed = elim (cases_lt (length machine.history) table.limit) [
  | inl room ↦
      let (entry, history, now) = event_timed table machine event in
      let new = accept table machine event in
      let whole = accept-room table machine event room in
      let forward = forward_after table lawful machine (event ∷ []) sound in
      subst (λ (l : List Entry). AreTimed l new.roster.now) (sym (ap (λ (m : Machine). m.history) whole ∙ history))
      (timed_push machine.history entry machine.roster.now new.roster.now timed forward
      (ap (λ (m : Machine). m.roster.now) whole ∙ now))
  | inr full ↦ subst IsOrdered (sym (accept-full table machine event full)) timed
]

timed_run : (table : Table) → IsLawful table → (events : List Event) (machine : Machine) → IsSound table machine
    → IsOrdered machine → IsOrdered (run table machine events)
timed_run table lawful [] machine sound timed = timed
timed_run table lawful (event ∷ events) machine sound timed =
    timed_run table lawful events (accept table machine event) (sound_accept table lawful machine sound event)
    (timed_accept table lawful machine sound event timed)

pub timed_after : (table : Table) → IsLawful table → (events : List Event) → IsOrdered (run table (opening table) events)
timed_after table lawful events =
    timed_run table lawful events (opening table) (sound_opening table lawful) (timed_none _)

timed_replay : (table : Table) → IsLawful table → (machine : Machine) → replay table machine.history ≡ machine → IsOrdered machine
timed_replay table lawful machine again = subst IsOrdered again (timed_after table lawful (events_of machine.history))

-- the entry of no event
pub nothing : Entry
nothing = record { number = 0; now = 0; who = Ticker; process = Nobody; call = None; reply = Idle; notices = [] }

-- the times of some entries are in order if the entries are
rises_alone : (entries : List Entry) → IsNonDecreasingBy (λ entry. entry.now) entries
    → IsNonDecreasingBy (λ entry. entry.now) (map timed entries)
rises_alone entries rises =
    IsNonDecreasingBy-from_default (λ (e : Timed). e.now) (map timed entries) never
    (λ i j order within.
    let inside : j < length entries = omega (arith, within, length-map entries timed) in
    omega (
      arith,
      rises i j nothing order inside,
      ap (λ (e : Timed). e.now) (get_or-map timed entries i nothing never (omega (arith, order, inside))),
      ap (λ (e : Timed). e.now) (get_or-map timed entries j nothing never inside),
    ))

-- the times of entries that have a column are in order, and none is later than now
pub record AreInOrder (entries : List Timed) (now : ℕ) : Type 0 where
  pub before : All (λ entry. entry.now ≤ now) entries
  pub rises : IsNonDecreasingBy (λ entry. entry.now) entries

pub columns_in_order : (extent : Extent) (others many : ℕ) (history : List Entry) (now : ℕ) → AreTimed history now
    → AreInOrder (take many (drop others (columns_of extent history))) now
columns_in_order extent others many history now is =
    let columns = filter (has_column extent) history in
    record {
      before = All-take (λ (e : Timed). e.now ≤ now) many (drop others (map timed columns))
          (All-drop (λ (e : Timed). e.now ≤ now) others (map timed columns)
          (All-map (λ (e : Timed). e.now ≤ now) timed columns (All-filter (has_column extent) (λ (e : Entry). e.now ≤ now) history is.before)));
      rises = IsNonDecreasingBy-take (λ (e : Timed). e.now) many (drop others (map timed columns))
          (IsNonDecreasingBy-drop (λ (e : Timed). e.now) others (map timed columns)
          (rises_alone columns (IsNonDecreasingBy-filter (λ (e : Entry). e.now) (has_column extent) history is.rises)));
    }

-- so are those that are drawn
pub drawn_in_order : (table : Table) → IsLawful table → (machine : Machine) → replay table machine.history ≡ machine
    → (extent : Extent) → AreInOrder (drawn extent machine.history) machine.roster.now
drawn_in_order table lawful machine again extent =
    columns_in_order extent (left_out extent.side (length (columns_of extent machine.history))) MOST_COLUMNS
    machine.history machine.roster.now (timed_replay table lawful machine again)

-- no entry that has a column is later than now
pub last_before : (entries : List Timed) (now n : ℕ) → AreInOrder entries now → time_of entries n ≤ now
last_before entries now n is = elim (cases_lt n (length entries)) [
  | inl inside ↦ is.before n never inside
  | inr past ↦ omega (arith, ap (λ (e : Timed). e.now) (get_or_past entries n never past))
]
