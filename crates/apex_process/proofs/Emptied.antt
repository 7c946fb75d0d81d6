-- The ready lists are empty if no process is eligible: at the opening, and in a mode other than
-- NORMAL.
use Rattle.std.proofs.Common.{◌≡◌, ◌≢◌, ℕ, ◌+◌, ◌<◌, ◌≤◌, true, false, List, [], ◌∷◌, length, replicate, Option, None, Some, inl, inr, refl, ap, sym, ◌∙◌, arith}
use Rattle.std.proofs.lemmas.Bool.{cases_Bool, cases_lt, false≢true}
use Rattle.std.proofs.lemmas.List.{length-replicate}
use Rattle.std.proofs.lemmas.Option.{none-some}
use Rattle.apex_types.specs.declared.limits.TheConstants.{MOST_PROCESSES}
use Rattle.apex_machine.specs.table.Table.{Table}
use Rattle.apex_types.specs.declared.modes.Mode.{Mode}
use Rattle.apex_machine.specs.declared.records.Queue.{Queue}
use Rattle.apex_machine.specs.declared.records.Record.{Record}
use Rattle.apex_machine.specs.processes.Held.{holds}
use Rattle.apex_types.specs.Modes.{is_normal}
use Rattle.apex_machine.specs.processes.Roster.{Roster, opening_record, opening_roster, record_at}
use Rattle.apex_machine.specs.processes.Running.{current_priority, is_eligible}
use Rattle.apex_machine.specs.processes.Stamps as stamps
use Rattle.apex_machine.specs.processes.Waiters.{goes_by_priority, queue_in}
use Rattle.apex_machine.proofs.DistinctStamps.{stamped_opening, stamped_set_mode}
use Rattle.apex_types.proofs.Places.{length-map_places}
use Rattle.apex_links.specs.declared.numbers.TheConstants.{ALL_LISTS, QUEUE_LISTS, READY_LISTS}
use Rattle.apex_links.specs.Neighbours.{stands_in}
use Rattle.apex_links.specs.Links.{Links, list_at, removed, IsFree, IsSound}
use Rattle.apex_links.specs.Sorted.{IsSorted}
use Rattle.apex_links.proofs.Places.{as_many_removed, at_removed, same_all, stood_before, without_out}
use Rattle.apex_links.proofs.Sorted.{sorted_same}
use Rattle.apex_ready.specs.ReadyOrders.{is_marked, ready_list}
use Rattle.apex_waitq.specs.WaitQueues.{AreCounted, IsNumbered}
use Rattle.apex_process.specs.Lists.{goes_before, is_list, list_of, queue_list}
use Rattle.apex_process.specs.Owners.{is_owner, AreOwners}
use Rattle.apex_process.specs.Queued.{AreEmptied, AreKept, IsQueued, IsUnreadied, Standings, IsListedReady}
use Rattle.apex_process.proofs.Kept.{goes_same, order_same, place_none}
use Rattle.apex_process.proofs.Places.{in_no_ready, listed_ready, listed_waiting, no_queue}
use Rattle.apex_process.proofs.Renewals.{listed_none}
use Rattle.apex_process.proofs.Timers.{opening_field}

-- counts stay those of their lists as a process leaves the other ones
pub removed_counted : (counts : List ℕ) (links : Links) (p : ℕ) → AreCounted counts links
    → ((n : ℕ) → n < QUEUE_LISTS → stands_in p (list_at links (READY_LISTS + n)) ≡ false) → AreCounted counts (removed links p)
removed_counted counts links p counted out n low =
    rw (at_removed links p (READY_LISTS + n), without_out p (list_at links (READY_LISTS + n)) (out n low)) (counted n low)

-- empty lists, and their marks and counts
pub opened_kept : (links : Links) (marks counts priorities : List ℕ) (processes : ℕ) → links ≡ record { processes = processes; lists = replicate ALL_LISTS [] }
    → ((l : ℕ) → is_marked marks l ≡ false) → counts ≡ replicate QUEUE_LISTS 0 → priorities ≡ replicate processes 0 → processes ≤ MOST_PROCESSES
    → AreKept (record { links = links; marks = marks; counts = counts; priorities = priorities })
opened_kept links marks counts priorities processes is unmarked none zeros few = record {
  marked = λ l _. rw (is, unmarked l, same_all {A = List ℕ} [] ALL_LISTS l) refl;
  counted = λ n _. rw (is, none, same_all {A = List ℕ} [] ALL_LISTS (READY_LISTS + n), same_all {A = ℕ} 0 QUEUE_LISTS n) refl;
  room = rw is (length-replicate {A = List ℕ} ALL_LISTS []);
  noted = rw (is, zeros) (length-replicate {A = ℕ} processes 0);
  few = rw is few;
}

-- a list without a process is empty
no_member : (ps : List ℕ) → ((p : ℕ) → stands_in p ps ≡ false) → ps ≡ []
no_member [] out = refl
no_member (x ∷ xs) out = absurd (grind (arith, out x))

-- the loop that takes all out of the ready lists
pub record AreOut (old links : Links) (place : ℕ) : Type 0 where
  pub gone : (p l : ℕ) → p < place → l < READY_LISTS → stands_in p (list_at links l) ≡ false
  pub queues : (l : ℕ) → READY_LISTS ≤ l → list_at links l ≡ list_at old l
  pub processes : links.processes ≡ old.processes
  pub many : length links.lists ≡ length old.lists

pub all_out : (old links : Links) (place : ℕ) → AreOut old links place → links.processes ≤ place → IsSound links → AreEmptied old links
all_out old links place are whole sound = record {
  ready = λ l low. no_member (list_at links l) (λ p. elim (cases_Bool (stands_in p (list_at links l))) as (λ _. stands_in p (list_at links l) ≡ false) [
    | inl stands ↦ are.gone p l (omega (arith, sound.known l p stands, whole)) low
    | inr out ↦ out
  ]);
  queues = are.queues;
  processes = are.processes;
  many = are.many;
}

-- in a mode other than NORMAL no process is ready, and waiters wait on
pub cleared : (old : Roster) (s t : Standings) (mode : Mode) → IsQueued old s → is_normal mode ≡ false → AreEmptied s.links t.links → t.priorities ≡ s.priorities → IsQueued (stamps.set_mode old mode) t
cleared old s t mode was other emptied priorities = record {
  lists = record {
    members = λ p l. elim (cases_lt l READY_LISTS) as (λ _. stands_in p (list_at t.links l) ≡ is_list l (list_of (stamps.set_mode old mode) p)) [
      | inl low ↦ rw (emptied.ready l low, waits_alone p) (sym (in_no_ready (queue_in (record_at old p)) l low))
      | inr above ↦ rw (emptied.queues l above, waits_alone p) (was.lists.members p l ∙ as_before p l above)
    ];
    sorted = λ l. elim (cases_lt l READY_LISTS) as (λ _. IsSorted (goes_before (stamps.set_mode old mode)) (list_at t.links l)) [
      | inl low ↦ rw (emptied.ready l low) tt
      | inr above ↦ rw (emptied.queues l above) (sorted_same (goes_before old) (goes_before (stamps.set_mode old mode)) (list_at s.links l)
          (λ p q _ _. order_same old (stamps.set_mode old mode) p q refl refl refl) (was.lists.sorted l))
    ];
  };
  places = λ p. record {
    core = λ e. absurd (false≢true (sym (nobody_ready p) ∙ e));
    priority = λ e. absurd (false≢true (sym (nobody_ready p) ∙ e));
    queue = λ _ queue is. numbered p queue is;
  };
  noted = λ p goes. rw priorities (was.noted p (goes_as p (queue_in (record_at old p)) goes));
  stamped = stamped_set_mode old was.stamped mode;
  known = emptied.processes ∙ was.known;
  room = emptied.many ∙ was.room;
  rows = rw priorities was.rows;
  few = was.few;
} where
  nobody_ready : (p : ℕ) → is_eligible mode (record_at old p) ≡ false
  nobody_ready p = rw other refl

  waits_alone : (p : ℕ) → list_of (stamps.set_mode old mode) p ≡ queue_list (queue_in (record_at old p))
  waits_alone p = listed_waiting mode (record_at old p) (nobody_ready p)

  as_before : (p l : ℕ) → READY_LISTS ≤ l → is_list l (list_of old p) ≡ is_list l (queue_list (queue_in (record_at old p)))
  as_before p l above = elim (cases_Bool (is_eligible old.mode (record_at old p))) [
    | inl e ↦ rw (listed_ready old.mode (record_at old p) e, no_queue old.mode (record_at old p) e)
        (let place = was.places p in let apart : l ≢ ready_list (record_at old p).core (current_priority (record_at old p)) = λ f. omega (arith, f, above, place.core e, place.priority e) in grind (arith, apart))
    | inr e ↦ rw (listed_waiting old.mode (record_at old p) e) refl
  ]

  numbered : (p : ℕ) (queue : Queue) → queue_in (record_at old p) ≡ Some queue → IsNumbered queue
  numbered p queue is = elim (cases_Bool (is_eligible old.mode (record_at old p))) [
    | inl e ↦ absurd (none-some queue (sym (no_queue old.mode (record_at old p) e) ∙ is))
    | inr e ↦ (was.places p).queue e queue is
  ]

  goes_as : (p : ℕ) (o : Option Queue) → goes_by_priority (stamps.set_mode old mode) o ≡ true → goes_by_priority old o ≡ true
  goes_as p o goes = sym (goes_same old (stamps.set_mode old mode) refl o) ∙ goes

-- before any event no process waits, is eligible, or owns anything
module _ (table : Table) where
  opening_none : (p : ℕ) → list_of (opening_roster table) p ≡ None
  opening_none p = listed_none (opening_roster table).mode (record_at (opening_roster table) p) refl
      (opening_field (λ (r : Record). r.wait) None (λ q e. refl) refl table.processes 0 p)

  pub opens : (s : Standings) (processes : ℕ) → processes ≡ length table.processes → processes ≤ MOST_PROCESSES
      → s.links ≡ record { processes = processes; lists = replicate ALL_LISTS [] } → length s.priorities ≡ processes → IsQueued (opening_roster table) s
  opens s processes many few links rows = record {
    lists = record {
      members = λ p l. rw (links, same_all {A = List ℕ} [] ALL_LISTS l, opening_none p) refl;
      sorted = λ l. rw (links, same_all {A = List ℕ} [] ALL_LISTS l) tt;
    };
    places = λ p. place_none (opening_roster table).mode (record_at (opening_roster table) p) (opening_none p);
    noted = λ p goes. absurd (false≢true (rw (opening_field (λ (r : Record). r.wait) None (λ q e. refl) refl table.processes 0 p) at goes));
    stamped = stamped_opening table;
    known = rw links (many ∙ sym count);
    room = rw links (length-replicate {A = List ℕ} ALL_LISTS []);
    rows = rows ∙ many ∙ sym count;
    few = rw (count, ← many) few;
  } where
    count : length (opening_roster table).records ≡ length table.processes
    count = length-map_places opening_record 0 table.processes

  pub opens_owners : (words : List ℕ) → ((m p : ℕ) → is_owner words m p ≡ false) → AreOwners (opening_roster table) words
  opens_owners words none m p known low = none m p ∙ sym (ap (holds m) (opening_field (λ (r : Record). r.owned) [] (λ q e. refl) refl table.processes 0 p))

pub cleared_by : (old new : Roster) (s t : Standings) (mode : Mode) → IsQueued old s → new ≡ stamps.set_mode old mode → is_normal mode ≡ false
    → AreEmptied s.links t.links → t.priorities ≡ s.priorities → IsQueued new t
cleared_by old new s t mode was is other emptied priorities = rw is (cleared old s t mode was other emptied priorities)

pub opens_by : (table : Table) (roster : Roster) (s : Standings) (processes : ℕ) → roster ≡ opening_roster table → processes ≡ length table.processes → processes ≤ MOST_PROCESSES
    → s.links ≡ record { processes = processes; lists = replicate ALL_LISTS [] } → length s.priorities ≡ processes → IsQueued roster s
opens_by table roster s processes is many few links rows = rw is (opens table s processes many few links rows)

pub opens_owners_by : (table : Table) (roster : Roster) (words : List ℕ) → roster ≡ opening_roster table → ((m p : ℕ) → is_owner words m p ≡ false) → AreOwners roster words
opens_owners_by table roster words is none = rw is (opens_owners table words none)

pub unreadied : (links new : Links) (p : ℕ) → IsListedReady links p true → new ≡ removed links p → IsFree new p → IsUnreadied links new p
unreadied links new p stands left free = record {
  gone = λ m _. free m;
  stood = λ q m here. stood_before p q (list_at links m) (rw (left, at_removed links p m) at here);
  queues = λ m above. rw (left, at_removed links p m) (without_out p (list_at links m) (stands.ready refl m above));
  processes = rw left refl;
  many = rw left (as_many_removed links p);
}
