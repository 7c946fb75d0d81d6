-- A mutex that changes hands wakes its waiter, and no process waits then that did not wait before.
use Rattle.std.proofs.Common.{◌≡◌, ℕ, true, false, List, [], ◌∷◌, ◌++◌, Option, None, Some, refl, sym, ◌∙◌, inl, inr}
use Rattle.std.proofs.lemmas.Bool.{both_ways, cases_Bool, cond_both}
use Rattle.std.proofs.lemmas.List.Folds.{list_any-append}
use Rattle.std.proofs.lemmas.Option.{none-some}
use Rattle.apex_laws.specs.Terms.{Holding, Notice, Record}
use Rattle.apex_machine.specs.declared.records.Queue.TheVariants as queues
use Rattle.apex_machine.specs.services.Handovers.{halted, hand_on, hand_over, hand_to}
use Rattle.apex_machine.specs.processes.Held.{in_order}
use Rattle.apex_machine.specs.processes.Roster.{Roster, record_at, with_record}
use Rattle.apex_machine.specs.processes.Stamps.{awake, is_level, oldest, own, stop, stopped}
use Rattle.apex_machine.specs.processes.Waiters.{first_waiter}
use Rattle.apex_laws.proofs.AskedWaits.{Frees, awaits_at, awake_free, first_awaits, frees_changed, frees_lessened, frees_moved, frees_none, frees_then}
use Rattle.apex_laws.proofs.Satisfied.{AwaitsAt, WokenAt, is_waking, wakes, woken_alone}

-- no process waits that did not wait before, and one that is woken with NO_ERROR waited for this
-- mutex
pub record HandsOn (m : ℕ) (old new : Roster) (notices : List Notice) : Type 0 where
  pub frees : Frees old new
  pub woken : (q : ℕ) → wakes q notices ≡ true → AwaitsAt (Some (queues.Mutex m)) (record_at old q)

hands_to : (roster : Roster) (holding : Holding) (found : Option ℕ) → first_waiter roster (queues.Mutex holding.mutex) ≡ found
    → HandsOn holding.mutex roster (hand_to roster holding found).roster (hand_to roster holding found).notices
hands_to roster holding None is = record { frees = frees_none roster; woken = λ q woken. absurd (both_ways false refl woken) }
hands_to roster holding (Some p) is =
    let r : Record = record (record_at roster p) { owned = record holding { depth = 1 } ∷ [] } in
    record {
      frees = frees_lessened roster p (awake r) (λ w h. absurd (none-some w (sym (awake_free r.suspended) ∙ h)));
      woken = λ q woken. rw (woken_alone q p woken) (awaits_at (first_awaits roster (queues.Mutex holding.mutex) p refl is).1);
    }

pub hands_over : (roster : Roster) (holding : Holding)
    → HandsOn holding.mutex roster (hand_over roster holding).roster (hand_over roster holding).notices
hands_over roster holding = hands_to roster holding (first_waiter roster (queues.Mutex holding.mutex)) refl

-- after a change by which no process waits that did not wait before
hands_after : (m : ℕ) (first second third : Roster) (notices : List Notice) → Frees first second → HandsOn m second third notices
    → HandsOn m first third notices
hands_after m first second third notices frees hands = record {
  frees = frees_then frees hands.frees;
  woken = λ q woken. let waits = hands.woken q woken in (waits.0, frees.still q waits.0 waits.1, waits.2);
}

module _ (roster : Roster) (p : ℕ) where
  -- a process that owns a mutex from now on, or gives one up, waits as before
  pub own_frees : (owned : List Holding) → Frees roster (own roster p owned)
  own_frees owned =
      let r : Record = record (record_at roster p) { owned = owned } in
      cond_both {A = Roster} (is_level r (record_at roster p)) (with_record roster p r) (oldest roster p r) (Frees roster)
      (λ _. frees_moved roster (with_record roster p r) p r refl (λ w h. h))
      (λ _. frees_moved roster (oldest roster p r) p (record r { since = roster.old }) refl (λ w h. h))

  pub gives_up : (holding : Holding) (owned : List Holding)
      → HandsOn holding.mutex roster (hand_over (own roster p owned) holding).roster (hand_over (own roster p owned) holding).notices
  gives_up holding owned =
      let given = own roster p owned in
      let left = hand_over given holding in
      hands_after holding.mutex roster given left.roster left.notices (own_frees owned) (hands_over given holding)

  stop_frees : Frees roster (stop roster p)
  stop_frees = frees_changed roster (stop roster p) p (stopped (record_at roster p)) refl refl

-- no process waits that did not wait before, and one that was woken with NO_ERROR had waited for time or
-- for a mutex
pub record IsServed (old new : Roster) (notices : List Notice) : Type 0 where
  pub frees : Frees old new
  pub woken : (q : ℕ) → wakes q notices ≡ true → WokenAt None (record_at old q)

-- who waits in the one roster waited in the other
pub waited_then : (old new : Roster) (q : ℕ) → Frees old new → WokenAt None (record_at new q) → WokenAt None (record_at old q)
waited_then old new q frees waits = elim waits [
  | inl timed ↦ inl (timed.0, frees.still q timed.0 timed.1, timed.2)
  | inr mutex ↦ inr (mutex.0, (mutex.1.0, frees.still q mutex.1.0 mutex.1.1, mutex.1.2))
]

-- one change more
pub served_then : (old roster new : Roster) (before told : List Notice) → IsServed old roster before → IsServed roster new told
    → IsServed old new (before ++ told)
served_then old roster new before told first second = record {
  frees = frees_then first.frees second.frees;
  woken = λ q h. elim (cases_Bool (wakes q before)) [
    | inl earlier ↦ first.woken q earlier
    | inr not_earlier ↦
        waited_then old roster q first.frees (second.woken q (rw (list_any-append (is_waking q) before told, not_earlier) at h))
  ];
}

pub served_none : (roster : Roster) → IsServed roster roster []
served_none roster = record { frees = frees_none roster; woken = λ q h. absurd (both_ways false refl h) }

-- mutexes that change hands wake only processes that waited for one of them
served_handed : (roster : Roster) (holding : Holding)
    → IsServed roster (hand_over roster holding).roster (hand_over roster holding).notices
served_handed roster holding =
    let hands = hands_over roster holding in
    record { frees = hands.frees; woken = λ q woken. inr (holding.mutex, hands.woken q woken) }

served_handed_on : (held : List Holding) (roster : Roster) → IsServed roster (hand_on held roster).roster (hand_on held roster).notices
served_handed_on [] roster = served_none roster
served_handed_on (holding ∷ held) roster =
    let handed = hand_over roster holding in
    let others = hand_on held handed.roster in
    served_then roster handed.roster others.roster handed.notices others.notices (served_handed roster holding)
    (served_handed_on held handed.roster)

-- a stop: the processes that it wakes had waited for a mutex of the stopped one
pub halts : (roster : Roster) (p : ℕ) → IsServed roster (halted roster p).roster (halted roster p).notices
halts roster p =
    let after = stop roster p in
    let others = hand_on (in_order (record_at roster p).owned) after in
    served_then roster after others.roster [] others.notices
    (record { frees = stop_frees roster p; woken = λ q woken. absurd (both_ways false refl woken) })
    (served_handed_on (in_order (record_at roster p).owned) after)
