-- A store stays queued as one process goes to its place by its record, or leaves its list, or as no
-- process's place changes.
use Rattle.std.proofs.Common.{◌≡◌, ◌≢◌, ℕ, ◌<◌, ◌≤◌, ◌<ℤ◌, true, false, List, ◌∷◌, [], ◌++◌, length, Option, None, Some, inl, inr, refl, ap, sym, ◌∙◌, arith}
use Rattle.std.proofs.lemmas.Bool.{cases_eq, cases_Bool, cond_both, false≢true}
use Rattle.std.proofs.lemmas.Bool.Decides.{nat_tests}
use Rattle.std.proofs.lemmas.Int.{ints}
use Rattle.std.proofs.lemmas.Option.{none-some}
use Rattle.std.proofs.lemmas.List.{get_or-set_other, get_or-set_same, length-set}
use Rattle.apex_types.specs.declared.limits.TheConstants.{MOST_CORES}
use Rattle.apex_types.specs.declared.modes.Discipline.{Discipline}
use Rattle.apex_types.specs.declared.modes.Mode.{Mode}
use Rattle.apex_machine.specs.declared.records.Queue.{Queue}
use Rattle.apex_machine.specs.declared.records.Record.{Record}
use Rattle.apex_types.specs.declared.modes.Discipline.TheVariants.{Fifo, Priority}
use Rattle.apex_machine.specs.processes.Roster.{Roster, record_at}
use Rattle.apex_machine.specs.processes.Running.{current_priority, is_before, is_eligible, is_older}
use Rattle.apex_machine.specs.processes.Waiters.{discipline_of, goes_by_priority, is_by_priority, queue_in, waits_before}
use Rattle.apex_links.specs.declared.numbers.TheConstants.{PRIORITIES}
use Rattle.apex_links.specs.Neighbours.{stands_in}
use Rattle.apex_links.specs.Links.{Links, list_at, with_list, removed}
use Rattle.apex_links.specs.Placing.{placed}
use Rattle.apex_ready.specs.ReadyOrders.{ready_list}
use Rattle.apex_waitq.specs.WaitQueues.{is_lower, priority_of, queued, wait_list, IsNumbered}
use Rattle.apex_process.specs.Lists.{discipline_in, goes_before, list_for, list_of, noted, noted_newest, placed_newest, placed_oldest, queue_list, waits_then, AreLists, HasPlace, HavePlaces}
use Rattle.apex_process.specs.Queued.{IsQueued, Standings}
use Rattle.apex_links.proofs.Places.{as_many_removed, as_many_with, stands_behind, stands_placed}
use Rattle.apex_links.proofs.Sorted.{sorted_behind, sorted_placed}
use Rattle.apex_process.proofs.Standing.{leave_keeps, rest_keeps, enter_keeps, stay_keeps, other_there, AreListsBut}
use Rattle.apex_process.proofs.Places.{discipline_same, listed_known, listed_ready, listed_waiting, no_queue, one_queue, place_below}
use Rattle.apex_process.proofs.Renewals.{Renews, Ages, Keeps, AreAlike}

-- no record goes before itself
pub waits_itself : (d : Discipline) (r : Record) → waits_before d r r ≡ false
waits_itself Fifo r = grind (arith, ints)
waits_itself Priority r = grind (arith, ints, nat_tests)

pub order_same : (old new : Roster) (p q : ℕ) → new.disciplines ≡ old.disciplines → record_at new p ≡ record_at old p → record_at new q ≡ record_at old q
    → goes_before new p q ≡ goes_before old p q
order_same old new p q disciplines e f = rw (e, f, discipline_same old new disciplines (queue_in (record_at old p))) refl

goes_is : (roster : Roster) (o : Option Queue) → goes_by_priority roster o ≡ is_by_priority (discipline_in roster o)
goes_is roster None = refl
goes_is roster (Some queue) = refl

pub goes_same : (old new : Roster) → new.disciplines ≡ old.disciplines → (o : Option Queue) → goes_by_priority new o ≡ goes_by_priority old o
goes_same old new e o = goes_is new o ∙ ap is_by_priority (discipline_same old new e o) ∙ sym (goes_is old o)

-- a process that goes behind those of its list has the latest stamp, and one with a higher priority
-- goes before
older_first : (r s : Record) → r.since <ℤ s.since → is_older r s ≡ true
older_first r s less = grind (arith, ints, less)

level_first : (r s : Record) → current_priority s ≤ current_priority r → r.since <ℤ s.since → is_before r s ≡ true
level_first r s least less = grind (arith, ints, nat_tests, least, less)

higher_first : (r s : Record) → current_priority s < current_priority r → is_before r s ≡ true
higher_first r s more = grind (arith, nat_tests, more)

not_higher : (r s : Record) → is_before r s ≡ true → current_priority s ≤ current_priority r
not_higher r s e = grind (arith, nat_tests, e)

-- a record that is in no list needs none
pub place_none : (mode : Mode) (r : Record) → list_for mode r ≡ None → HasPlace mode r
place_none mode r none = record {
  core = λ e. absurd (grind (arith, listed_ready mode r e, none));
  priority = λ e. absurd (grind (arith, listed_ready mode r e, none));
  queue = λ e queue is. absurd (grind (arith, listed_waiting mode r e, is, none));
}

module _ (old new : Roster) (s : Standings) (p : ℕ) (was : IsQueued old s) (disciplines : new.disciplines ≡ old.disciplines) (mode : new.mode ≡ old.mode)
    (others : (q : ℕ) → q ≢ p → record_at new q ≡ record_at old q) where
  abbrev links : Links
  links = removed s.links p

  abbrev fields : Record
  fields = record_at new p

  -- the lists without process p
  but : AreListsBut (list_of new) (goes_before new) links p
  but = leave_keeps (list_of old) (list_of new) (goes_before old) (goes_before new) s.links was.lists p (λ q. waits_itself _ (record_at old q))
      (λ q apart. rw (mode, others q apart) refl)
      (λ q r a b. order_same old new q r disciplines (others q a) (others r b))

  pub places_then : HasPlace new.mode fields → HavePlaces new
  places_then place q = elim (cases_eq q p) as (λ _. HasPlace new.mode (record_at new q)) [
    | inl e ↦ rw e place
    | inr apart ↦ rw (mode, others q apart) (was.places q)
  ]

  noted_others : (q : ℕ) → q ≢ p → goes_by_priority new (queue_in (record_at new q)) ≡ true → priority_of s.priorities q ≡ current_priority (record_at new q)
  noted_others q apart goes =
      let before = rw (others q apart) at (sym (goes_same old new disciplines (queue_in (record_at new q))) ∙ goes) in
      rw (others q apart) (was.noted q before)

  module _ (place : HasPlace new.mode fields) where
    -- the others of its list wait in the same queue
    with_it : (q l : ℕ) → list_of new q ≡ Some l → list_of new p ≡ Some l → queue_in (record_at new q) ≡ queue_in fields
    with_it q l e f = one_queue new.mode (record_at new q) fields l (places_then place q) place e f

    -- process p goes behind all others, or by its priority, as the newest
    module _ (newest : (l : ℕ) → list_of new p ≡ Some l → fields.since ≡ old.young) where
      older : (q l : ℕ) → q ≢ p → list_of new q ≡ Some l → list_of new p ≡ Some l → (record_at new q).since <ℤ fields.since
      older q l apart e f =
          let before : list_of old q ≡ Some l = rw (mode, others q apart) at e in
          rw (newest l f, others q apart) (was.stamped.given q (listed_known old q l before))

      behind : (l : ℕ) → list_of new p ≡ Some l → discipline_in new (queue_in fields) ≡ Fifo → l < length links.lists
          → AreLists (list_of new) (goes_before new) (with_list links l (list_at links l ++ p ∷ []))
      behind l here fifo known = enter_keeps (list_of new) (goes_before new) links p but l _ here known (λ q. stands_behind p q (list_at links l))
          (sorted_behind (goes_before new) p (list_at links l)
          (λ q stands. let other = other_there (list_of new) (goes_before new) links p but q l stands in
          rw (with_it q l other.1 here, fifo) (older_first (record_at new q) fields (older q l other.0 other.1 here)))
          (but.sorted l))

      ranked : (l : ℕ) → list_of new p ≡ Some l → discipline_in new (queue_in fields) ≡ Priority → l < length links.lists
          → AreLists (list_of new) (goes_before new) (with_list links l (placed (is_lower s.priorities (current_priority fields)) p (list_at links l)))
      ranked l here rank known = enter_keeps (list_of new) (goes_before new) links p but l _ here known (λ q. stands_placed (is_lower s.priorities (current_priority fields)) p q (list_at links l))
          (sorted_placed (goes_before new) (is_lower s.priorities (current_priority fields)) p (list_at links l)
          (λ q stands low. rw rank (higher_first fields (record_at new q) (less q (noted_there q stands) low)))
          (λ q stands high. let other = there q stands in
          rw (with_it q l other.1 here, rank) (level_first (record_at new q) fields (least q (noted_there q stands) high) (older q l other.0 other.1 here)))
          (λ q r stands stands' low ahead.
          let not = not_higher (record_at new q) (record_at new r) (rw (with_it q l (there q stands).1 here, rank) at ahead) in
          rw rank (higher_first fields (record_at new r) (omega (arith, not, less q (noted_there q stands) low))))
          (but.sorted l)) where
            there : (q : ℕ) → stands_in q (list_at links l) ≡ true → (q ≢ p) × (list_of new q ≡ Some l)
            there q stands = other_there (list_of new) (goes_before new) links p but q l stands

            noted_there : (q : ℕ) → stands_in q (list_at links l) ≡ true → priority_of s.priorities q ≡ current_priority (record_at new q)
            noted_there q stands = let other = there q stands in
                noted_others q other.0 (goes_is new (queue_in (record_at new q)) ∙ rw (with_it q l other.1 here, rank) refl)

            least : (q : ℕ) → priority_of s.priorities q ≡ current_priority (record_at new q) → is_lower s.priorities (current_priority fields) q ≡ false
                → current_priority fields ≤ current_priority (record_at new q)
            least q e f = grind (arith, nat_tests, e, f)

            less : (q : ℕ) → priority_of s.priorities q ≡ current_priority (record_at new q) → is_lower s.priorities (current_priority fields) q ≡ true
                → current_priority (record_at new q) < current_priority fields
            less q e f = grind (arith, nat_tests, e, f)

      within : (queue : Queue) → IsNumbered queue → wait_list queue < length links.lists
      within queue i = omega (arith, place_below queue i, as_many_removed s.links p, was.room)

      in_queue : (queue : Queue) (d : Discipline) → IsNumbered queue → list_of new p ≡ Some (wait_list queue) → discipline_in new (queue_in fields) ≡ d
          → AreLists (list_of new) (goes_before new) (with_list links (wait_list queue) (queued d s.priorities p (current_priority fields) (list_at links (wait_list queue))))
      in_queue queue Fifo i here is = behind (wait_list queue) here is (within queue i)
      in_queue queue Priority i here is = ranked (wait_list queue) here is (within queue i)

      waiting_then : is_eligible new.mode fields ≡ false → (o : Option Queue) → queue_in fields ≡ o → AreLists (list_of new) (goes_before new) (waits_then new s.priorities links p fields o)
      waiting_then out None e = rest_keeps (list_of new) (goes_before new) links p but (rw (listed_waiting new.mode fields out, e) refl)
      waiting_then out (Some queue) e = in_queue queue (discipline_of new queue) (place.queue out queue e) (rw (listed_waiting new.mode fields out, e) refl) (rw e refl)

      pub lists_then : AreLists (list_of new) (goes_before new) (placed_newest new s.priorities links p fields)
      lists_then = cond_both {A = Links} (is_eligible new.mode fields) _ _ (λ it. AreLists (list_of new) (goes_before new) it)
          (λ e. behind (ready_list fields.core (current_priority fields)) (listed_ready new.mode fields e) (rw (no_queue new.mode fields e) refl)
          (omega (arith, place.core e, place.priority e, as_many_removed s.links p, was.room)))
          (λ e. waiting_then e (queue_in fields) refl)

-- a process's place changes neither the number of processes nor that of lists
same_processes : (new : Roster) (priorities : List ℕ) (links : Links) (p : ℕ) (r : Record) → (placed_newest new priorities links p r).processes ≡ links.processes
same_processes new priorities links p r = cond_both {A = Links} (is_eligible new.mode r) _ _ (λ it. it.processes ≡ links.processes) (λ _. refl) (λ _. waits (queue_in r)) where
  waits : (o : Option Queue) → (waits_then new priorities links p r o).processes ≡ links.processes
  waits None = refl
  waits (Some queue) = refl

same_lists : (new : Roster) (priorities : List ℕ) (links : Links) (p : ℕ) (r : Record) → length (placed_newest new priorities links p r).lists ≡ length links.lists
same_lists new priorities links p r = cond_both {A = Links} (is_eligible new.mode r) _ _ (λ it. length it.lists ≡ length links.lists)
    (λ _. length-set links.lists _ _) (λ _. waits (queue_in r)) where
      waits : (o : Option Queue) → length (waits_then new priorities links p r o).lists ≡ length links.lists
      waits None = refl
      waits (Some queue) = length-set links.lists _ _

same_rows : (new : Roster) (priorities : List ℕ) (p : ℕ) (r : Record) → length (noted_newest new priorities p r) ≡ length priorities
same_rows new priorities p r = cond_both {A = List ℕ} (is_eligible new.mode r) _ _ (λ it. length it ≡ length priorities) (λ _. refl) (λ _. waits (queue_in r)) where
  waits : (o : Option Queue) → length (noted priorities p (current_priority r) o) ≡ length priorities
  waits None = refl
  waits (Some queue) = length-set priorities p (current_priority r)

noted_other : (new : Roster) (priorities : List ℕ) (p q : ℕ) (r : Record) → q ≢ p → priority_of (noted_newest new priorities p r) q ≡ priority_of priorities q
noted_other new priorities p q r apart = cond_both {A = List ℕ} (is_eligible new.mode r) _ _ (λ it. priority_of it q ≡ priority_of priorities q) (λ _. refl) (λ _. waits (queue_in r)) where
  waits : (o : Option Queue) → priority_of (noted priorities p (current_priority r) o) q ≡ priority_of priorities q
  waits None = refl
  waits (Some queue) = get_or-set_other priorities p q (current_priority r) 0 apart

noted_here : (new : Roster) (priorities : List ℕ) (p : ℕ) (r : Record) → p < length priorities → goes_by_priority new (queue_in r) ≡ true
    → priority_of (noted_newest new priorities p r) p ≡ current_priority r
noted_here new priorities p r known goes = cond_both {A = List ℕ} (is_eligible new.mode r) _ _ (λ it. priority_of it p ≡ current_priority r)
    (λ e. absurd (false≢true (rw (no_queue new.mode r e) at goes))) (λ _. waits (queue_in r) goes) where
      waits : (o : Option Queue) → goes_by_priority new o ≡ true → priority_of (noted priorities p (current_priority r) o) p ≡ current_priority r
      waits None f = absurd (false≢true f)
      waits (Some queue) f = get_or-set_same priorities p (current_priority r) 0 known

-- process p goes to its place as the newest there
pub renewed : (old new : Roster) (s t : Standings) (p : ℕ) → p < length old.records → IsQueued old s → Renews old new p
    → t.links ≡ placed_newest new s.priorities (removed s.links p) p (record_at new p) → t.priorities ≡ noted_newest new s.priorities p (record_at new p)
    → HasPlace new.mode (record_at new p) → IsQueued new t
renewed old new s t p known was renews links priorities place = record {
  lists = rw links (lists_then old new s p was renews.alone.disciplines renews.alone.mode renews.alone.others place renews.newest);
  places = places_then old new s p was renews.alone.disciplines renews.alone.mode renews.alone.others place;
  noted = rw priorities (λ q goes. elim (cases_eq q p) as (λ _. priority_of (noted_newest new s.priorities p (record_at new p)) q ≡ current_priority (record_at new q)) [
    | inl e ↦ rw e (noted_here new s.priorities p (record_at new p) (rw (← was.rows) at known) (rw e at goes))
    | inr apart ↦ noted_other new s.priorities p q (record_at new p) apart ∙ noted_others old new s p was renews.alone.disciplines renews.alone.mode renews.alone.others q apart goes
  ]);
  stamped = renews.alone.stamped;
  known = rw (links, renews.alone.many) (same_processes new s.priorities (removed s.links p) p (record_at new p) ∙ was.known);
  room = rw links (same_lists new s.priorities (removed s.links p) p (record_at new p) ∙ as_many_removed s.links p ∙ was.room);
  rows = rw (priorities, renews.alone.many) (same_rows new s.priorities p (record_at new p) ∙ was.rows);
  few = rw renews.alone.many was.few;
}

-- a process without a list waits in no queue
nowhere : (roster : Roster) (o : Option Queue) → queue_list o ≡ None → goes_by_priority roster o ≡ false
nowhere roster None e = refl
nowhere roster (Some q) e = absurd (none-some _ (sym e))

waits_nowhere : (roster : Roster) (p : ℕ) → list_of roster p ≡ None → goes_by_priority roster (queue_in (record_at roster p)) ≡ false
waits_nowhere roster p none = elim (cases_Bool (is_eligible roster.mode (record_at roster p))) [
  | inl e ↦ ap (goes_by_priority roster) (no_queue roster.mode (record_at roster p) e)
  | inr e ↦ nowhere roster (queue_in (record_at roster p)) (sym (listed_waiting roster.mode (record_at roster p) e) ∙ none)
]

-- process p leaves its list, and has no other
pub left : (old new : Roster) (s t : Standings) (p : ℕ) → IsQueued old s → Renews old new p → list_of new p ≡ None
    → t.links ≡ removed s.links p → t.priorities ≡ s.priorities → IsQueued new t
left old new s t p was renews none links priorities =
    let place = place_none new.mode (record_at new p) none in
    record {
      lists = rw links (rest_keeps (list_of new) (goes_before new) (removed s.links p) p (but old new s p was renews.alone.disciplines renews.alone.mode renews.alone.others) none);
      places = places_then old new s p was renews.alone.disciplines renews.alone.mode renews.alone.others place;
      noted = rw priorities (λ q goes. elim (cases_eq q p) as (λ _. priority_of s.priorities q ≡ current_priority (record_at new q)) [
        | inl e ↦ absurd (false≢true (sym (waits_nowhere new p none) ∙ rw e at goes))
        | inr apart ↦ noted_others old new s p was renews.alone.disciplines renews.alone.mode renews.alone.others q apart goes
      ]);
      stamped = renews.alone.stamped;
      known = rw (links, renews.alone.many) was.known;
      room = rw links (as_many_removed s.links p ∙ was.room);
      rows = rw (priorities, renews.alone.many) was.rows;
      few = rw renews.alone.many was.few;
    }

pub left_by : (old new target : Roster) (s t : Standings) (p : ℕ) → IsQueued old s → new ≡ target → Renews old target p → list_of target p ≡ None
    → t.links ≡ removed s.links p → t.priorities ≡ s.priorities → IsQueued new t
left_by old new target s t p was is renews none links priorities = left old new s t p was (rw is renews) (rw is none) links priorities

-- process p, which is eligible, goes before all others of its ready list
pub aged : (old new : Roster) (s t : Standings) (p : ℕ) → IsQueued old s → Ages old new p
    → t.links ≡ placed_oldest (removed s.links p) p (record_at new p) → t.priorities ≡ s.priorities
    → (record_at new p).core < MOST_CORES → current_priority (record_at new p) < PRIORITIES → IsQueued new t
aged old new s t p was ages links priorities core priority = record {
  lists = rw links (enter_keeps (list_of new) (goes_before new) (removed s.links p) p outside own _ here
      (omega (arith, core, priority, as_many_removed s.links p, was.room))
      (λ q. refl) ((λ q stands. ahead q (other_there (list_of new) (goes_before new) (removed s.links p) p outside q own stands)), outside.sorted own));
  places = places_then old new s p was ages.alone.disciplines ages.alone.mode ages.alone.others place;
  noted = rw priorities (λ q goes. elim (cases_eq q p) as (λ _. priority_of s.priorities q ≡ current_priority (record_at new q)) [
    | inl e ↦ absurd (false≢true (rw (e, no_queue new.mode (record_at new p) ages.eligible) at goes))
    | inr apart ↦ noted_others old new s p was ages.alone.disciplines ages.alone.mode ages.alone.others q apart goes
  ]);
  stamped = ages.alone.stamped;
  known = rw (links, ages.alone.many) was.known;
  room = rw links (as_many_with (removed s.links p) own _ ∙ as_many_removed s.links p ∙ was.room);
  rows = rw (priorities, ages.alone.many) was.rows;
  few = rw ages.alone.many was.few;
} where
  place : HasPlace new.mode (record_at new p)
  place = record {
    core = λ _. core;
    priority = λ _. priority;
    queue = λ out. absurd (false≢true (sym out ∙ ages.eligible));
  }

  outside : AreListsBut (list_of new) (goes_before new) (removed s.links p) p
  outside = but old new s p was ages.alone.disciplines ages.alone.mode ages.alone.others

  own : ℕ
  own = ready_list (record_at new p).core (current_priority (record_at new p))

  here : list_of new p ≡ Some own
  here = listed_ready new.mode (record_at new p) ages.eligible

  ahead : (q : ℕ) → (q ≢ p) × (list_of new q ≡ Some own) → goes_before new p q ≡ true
  ahead q other =
      let before : list_of old q ≡ Some own = rw (ages.alone.mode, ages.alone.others q other.0) at other.1 in
      let less = was.stamped.newer q (listed_known old q own before) in
      rw (no_queue new.mode (record_at new p) ages.eligible) (older_first (record_at new p) (record_at new q) (rw (ages.oldest, ages.alone.others q other.0) less))

-- no process's place changes
pub kept : (old new : Roster) (s : Standings) → IsQueued old s → Keeps old new → IsQueued new s
kept old new s was keeps = record {
  lists = stay_keeps (list_of old) (list_of new) (goes_before old) (goes_before new) s.links was.lists (λ q. listed_alike q (keeps.alike q)) order;
  places = λ q. placed_alike q (keeps.alike q) (was.places q);
  noted = λ q goes.
      let like = keeps.alike q in
      let before = rw like.queue at (sym (goes_same old new keeps.disciplines (queue_in (record_at new q))) ∙ goes) in
      was.noted q before ∙ sym (like.rank before);
  stamped = keeps.stamped;
  known = was.known ∙ sym keeps.many;
  room = was.room;
  rows = was.rows ∙ sym keeps.many;
  few = rw keeps.many was.few;
} where
  listed_alike : (q : ℕ) → AreAlike old new q → list_of new q ≡ list_of old q
  listed_alike q like = elim (cases_Bool (is_eligible old.mode (record_at old q))) [
    | inl e ↦ listed_ready new.mode (record_at new q) (like.eligible ∙ e) ∙ rw (like.core e, like.priority e) (sym (listed_ready old.mode (record_at old q) e))
    | inr e ↦ listed_waiting new.mode (record_at new q) (like.eligible ∙ e) ∙ rw like.queue (sym (listed_waiting old.mode (record_at old q) e))
  ]

  placed_alike : (q : ℕ) → AreAlike old new q → HasPlace old.mode (record_at old q) → HasPlace new.mode (record_at new q)
  placed_alike q like place = record {
    core = λ e. let f = sym like.eligible ∙ e in rw (like.core f) (place.core f);
    priority = λ e. let f = sym like.eligible ∙ e in rw (like.priority f) (place.priority f);
    queue = λ e queue is. place.queue (sym like.eligible ∙ e) queue (sym like.queue ∙ is);
  }

  by_rank : (d : Discipline) (r s r' s' : Record) → r'.since ≡ r.since → s'.since ≡ s.since
      → (is_by_priority d ≡ true → current_priority r' ≡ current_priority r) → (is_by_priority d ≡ true → current_priority s' ≡ current_priority s)
      → waits_before d r' s' ≡ waits_before d r s
  by_rank Fifo r s r' s' e f a b = rw (e, f) refl
  by_rank Priority r s r' s' e f a b = rw (e, f, a refl, b refl) refl

  order : (l q r : ℕ) → list_of old q ≡ Some l → list_of old r ≡ Some l → goes_before new q r ≡ goes_before old q r
  order l q r e f =
      let like = keeps.alike q in
      let like' = keeps.alike r in
      let same : queue_in (record_at old q) ≡ queue_in (record_at old r) = one_queue old.mode (record_at old q) (record_at old r) l (was.places q) (was.places r) e f in
      rw (like.queue, discipline_same old new keeps.disciplines (queue_in (record_at old q)))
      (by_rank (discipline_in old (queue_in (record_at old q))) (record_at old q) (record_at old r) (record_at new q) (record_at new r) like.since like'.since
      (λ rank. like.rank (goes_is old (queue_in (record_at old q)) ∙ rank))
      (λ rank. like'.rank (goes_is old (queue_in (record_at old r)) ∙ rw same at rank)))

pub kept_by : (old new target : Roster) (s : Standings) → IsQueued old s → new ≡ target → Keeps old target → IsQueued new s
kept_by old new target s was is keeps = kept old new s was (rw is keeps)

-- the same, if the record of process p was read
pub renewed_row : (old new target : Roster) (s t : Standings) (p : ℕ) (fields : Record) → p < length old.records → IsQueued old s → new ≡ target → Renews old target p
    → fields ≡ record_at new p → t.links ≡ placed_newest new s.priorities (removed s.links p) p fields → t.priorities ≡ noted_newest new s.priorities p fields
    → HasPlace new.mode fields → IsQueued new t
renewed_row old new target s t p fields known was is renews read links priorities place =
    renewed old new s t p known was (rw is renews) (rw read at links) (rw read at priorities) (rw read at place)

pub aged_row : (old new target : Roster) (s t : Standings) (p : ℕ) (fields : Record) → IsQueued old s → new ≡ target → Ages old target p
    → fields ≡ record_at new p → t.links ≡ placed_oldest (removed s.links p) p fields → t.priorities ≡ s.priorities
    → fields.core < MOST_CORES → current_priority fields < PRIORITIES → IsQueued new t
aged_row old new target s t p fields was is ages read links priorities core priority =
    aged old new s t p was (rw is ages) (rw read at links) priorities (rw read at core) (rw read at priority)
