-- Changes of several processes, one after the other, keep rosters alike.
use Rattle.std.proofs.Common.{◌≡◌, ℕ, zero, suc, ◌<◌, false, List, [], ◌∷◌, ◌++◌, length, Option, None, Some, option_and_then, refl, sym, ◌∙◌, ap}
use Rattle.std.proofs.lemmas.Bool.{both_ways}
use Rattle.std.proofs.lemmas.List.{length-set}
use Rattle.std.proofs.lemmas.Option.{none-some, same_Some}
use Rattle.apex_laws.specs.Terms.{Holding, Message, Queue, Record, ReturnCode, Wait}
use Rattle.apex_types.specs.declared.entries.ReturnCode.TheVariants.{NoError}
use Rattle.apex_machine.specs.declared.records.Queue.TheVariants as queues
use Rattle.apex_machine.specs.declared.records.Wait.TheVariants as wait
use Rattle.apex_machine.specs.processes.Held.{in_order}
use Rattle.apex_machine.specs.processes.Periods.{awaits_first}
use Rattle.apex_machine.specs.processes.Queues.{is_same_queue, queue_of}
use Rattle.apex_machine.specs.processes.Roster.{Roster, record_at}
use Rattle.apex_machine.specs.processes.Waiters.{first_waiter}
use Rattle.apex_machine.specs.services.Handovers.{halted, hand_on, hand_over, hand_to}
use Rattle.apex_machine.specs.services.InTurn.{Changed, followed_by, in_turn, next_and, unchanged}
use Rattle.apex_machine.specs.services.Waking.{first_in, grant_all, granted, woken}
use Rattle.apex_machine.proofs.Rosters.{at_record}
use Rattle.apex_machine.proofs.Starts.{first_stands, first_within}
use Rattle.apex_alike.specs.Alike.{AreAlike, AreAlikeChanges}
use Rattle.apex_alike.proofs.Choices.{same_waiter}
use Rattle.apex_alike.proofs.Stamps.{alike_inherit, alike_receive, alike_stop, alike_unblock}

module _ {d : ℕ} where
  pub alike_unchanged : {first second : Roster} → AreAlike d first second → AreAlikeChanges d (unchanged first) (unchanged second)
  alike_unchanged alike = record { rosters = alike; notices = refl }

  -- one change, and then another
  pub alike_followed : {one other : Changed} (others : Roster → Changed) → AreAlikeChanges d one other
      → (AreAlike d one.roster other.roster → AreAlikeChanges d (others one.roster) (others other.roster))
      → AreAlikeChanges d (followed_by one others) (followed_by other others)
  alike_followed {one} {other} others changes rest =
      let after = rest changes.rosters in
      record {
        rosters = after.rosters;
        notices = ap (λ n. n ++ (others other.roster).notices) changes.notices ∙ ap (λ n. one.notices ++ n) after.notices;
      }

  -- as long as a process is next
  module _ (next : Roster → Option ℕ) (change : Roster → ℕ → Changed)
      (same : (first second : Roster) → AreAlike d first second → next second ≡ next first)
      (changes : (first second : Roster) → AreAlike d first second → (p : ℕ) → next first ≡ Some p
      → AreAlikeChanges d (change first p) (change second p)) where
    alike_and : (others : Roster → Changed)
        → ((first second : Roster) → AreAlike d first second → AreAlikeChanges d (others first) (others second))
        → (first second : Roster) → AreAlike d first second → (found : Option ℕ) → next first ≡ found
        → AreAlikeChanges d (next_and others change first found) (next_and others change second found)
    alike_and others rest first second alike None is = alike_unchanged alike
    alike_and others rest first second alike (Some p) is =
        alike_followed others (changes first second alike p is) (rest (change first p).roster (change second p).roster)

    pub alike_in_turn : (n : ℕ) (first second : Roster) → AreAlike d first second
        → AreAlikeChanges d (in_turn next change n first) (in_turn next change n second)
    alike_in_turn zero first second alike = alike_unchanged alike
    alike_in_turn (suc n) first second alike =
        rw (same first second alike)
        (alike_and (in_turn next change n) (alike_in_turn n) first second alike (next first) refl)

-- a process in a queue other than that for NORMAL has been released
pub queue_free : (waits : Option Wait) (queue : Queue) → option_and_then queue_of waits ≡ Some queue
    → is_same_queue queues.Normal queue ≡ false → awaits_first waits ≡ false
queue_free None queue e apart = refl
queue_free (Some (wait.Normal delay)) queue e apart =
    absurd (both_ways _ apart (ap (is_same_queue queues.Normal) (sym (same_Some queues.Normal queue e))))
queue_free (Some wait.Start) queue e apart = absurd (none-some queue e)
queue_free (Some _) queue e apart = refl

module _ {d : ℕ} {first second : Roster} (alike : AreAlike d first second) (p : ℕ) (known : p < length first.records) where
  pub alike_woken : (code : ReturnCode) → awaits_first (record_at first p).wait ≡ false
      → AreAlikeChanges d (woken first p code) (woken second p code)
  alike_woken code free = record { rosters = alike_unblock alike p known free; notices = refl }

pub alike_granted : {d : ℕ} (message : Option Message) {first second : Roster} (alike : AreAlike d first second) (p : ℕ) (known : p < length first.records)
    → awaits_first (record_at first p).wait ≡ false → AreAlikeChanges d (granted message first p) (granted message second p)
alike_granted None alike p known free = alike_woken alike p known NoError free
alike_granted (Some message) {first} {second} alike p known free =
    let r : Record = record (record_at first p) { inbox = Some message } in
    alike_woken (alike_receive alike p known message) p (rw (length-set first.records p r) known) NoError
    (rw (at_record first p known r) free)

-- the first waiter of a queue has been released
pub first_free : (roster : Roster) (queue : Queue) (p : ℕ) → is_same_queue queues.Normal queue ≡ false
    → first_waiter roster queue ≡ Some p → awaits_first (record_at roster p).wait ≡ false
first_free roster queue p apart is =
    queue_free (record_at roster p).wait queue (first_stands roster queue p is) apart

module _ {d : ℕ} where
  pub alike_grant_all : (queue : Queue) (message : Option Message) → is_same_queue queues.Normal queue ≡ false
      → {first second : Roster} → AreAlike d first second
      → AreAlikeChanges d (grant_all queue message first) (grant_all queue message second)
  unfolding grant_all
  alike_grant_all queue message apart {first} {second} alike =
      rw alike.many
      (alike_in_turn {d = d} (first_in queue) (granted message)
      (λ one other a. same_waiter a queue)
      (λ one other a p is. alike_granted message a p (first_within one queue p is) (first_free one queue p apart is))
      (length first.records) first second alike)

  -- mutexes go on
  alike_hand_to : (holding : Holding) {first second : Roster} → AreAlike d first second → (found : Option ℕ)
      → first_waiter first (queues.Mutex holding.mutex) ≡ found → AreAlikeChanges d (hand_to first holding found) (hand_to second holding found)
  alike_hand_to holding alike None is = alike_unchanged alike
  alike_hand_to holding {first} {second} alike (Some q) is = record {
    rosters = alike_inherit alike q (first_within first (queues.Mutex holding.mutex) q is) (record holding { depth = 1 })
        (first_free first (queues.Mutex holding.mutex) q refl is);
    notices = refl;
  }

  pub alike_hand_over : (holding : Holding) {first second : Roster} → AreAlike d first second
      → AreAlikeChanges d (hand_over first holding) (hand_over second holding)
  alike_hand_over holding {first} {second} alike =
      rw (same_waiter alike (queues.Mutex holding.mutex))
      (alike_hand_to holding alike (first_waiter first (queues.Mutex holding.mutex)) refl)

  pub alike_hand_on : (lost : List Holding) {first second : Roster} → AreAlike d first second
      → AreAlikeChanges d (hand_on lost first) (hand_on lost second)
  alike_hand_on [] alike = alike_unchanged alike
  alike_hand_on (holding ∷ others) alike =
      alike_followed (hand_on others) (alike_hand_over holding alike) (λ a. alike_hand_on others a)

  pub alike_halted : {first second : Roster} (alike : AreAlike d first second) (p : ℕ) → p < length first.records
      → AreAlikeChanges d (halted first p) (halted second p)
  alike_halted {first} {second} alike p known =
      rw (ap (λ (x : Record). in_order x.owned) (alike.each p).is)
      (alike_hand_on (in_order (record_at first p).owned) (alike_stop alike p known))
