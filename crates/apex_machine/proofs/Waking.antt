-- Processes that have what they waited for: each leaves its queue, and in the end no process is
-- there.
use Rattle.std.proofs.Common.{◌≡◌, ℕ, zero, suc, ◌+◌, ◌<◌, ◌≤◌, ◌≤ℤ◌, ◌+ℤ◌, pos, true, false, if◌then◌else◌, length, Option, None, Some, refl, ◌∙◌, inl, inr, arith}
use Rattle.std.proofs.lemmas.Bool.{both_ways, cases_Bool, cases_lt, cond_both}
use Rattle.std.proofs.lemmas.List.{get_or_past}
use Rattle.std.proofs.lemmas.List.Sums.{count_by-le-length, sum_by-set}
use Rattle.apex_machine.specs.Terms.{Message, Queue, Record}
use Rattle.apex_machine.specs.declared.records.Queue.TheVariants as queues
use Rattle.apex_machine.specs.services.InTurn.{Changed, next_and, in_turn}
use Rattle.apex_machine.specs.processes.Queues.{is_same_queue}
use Rattle.apex_machine.specs.processes.Roster.{Roster, nobody, record_at, with_record}
use Rattle.apex_machine.specs.processes.Running.{is_eligible}
use Rattle.apex_machine.specs.processes.Stamps.{HasOrderlyStarts, awake, newest, readied, receive}
use Rattle.apex_machine.specs.processes.Waiters.{discipline_of, first_waiter, waiter_count, waits_before, waits_in}
use Rattle.apex_machine.specs.services.Waking.{first_in, granted, grant_all}
use Rattle.apex_machine.proofs.Choice.{place_none, place_passes}
use Rattle.apex_machine.proofs.Orders.{waits_strict}
use Rattle.apex_machine.proofs.Reaches.{Reaches, reaches_then, reaches_unblock, reaches_receive, reaches_in_turn}
use Rattle.apex_machine.proofs.Rosters.{at_record, changes_newest, changes_record}
use Rattle.apex_machine.proofs.Starts.{first_stands, first_within, queued_normal}

-- a process that waits at an object has what it waited for
pub reach_granted : (message : Option Message) (roster : Roster) (p : ℕ) (queue : Queue) → is_same_queue queues.Normal queue ≡ false
    → HasOrderlyStarts roster → first_waiter roster queue ≡ Some p → Reaches 1 roster (granted message roster p).roster
reach_granted None roster p queue apart starts is =
    reaches_unblock roster p (first_within roster queue p is)
    (queued_normal roster starts p queue (first_stands roster queue p is) apart)
reach_granted (Some message) roster p queue apart starts is =
    let known = first_within roster queue p is in
    let got = reaches_receive roster p known message in
    reaches_then 0 1 got
    (reaches_unblock (receive roster p message) p (rw got.moves.many known)
    (queued_normal roster starts p queue (first_stands roster queue p is) apart))

-- it is given one stamp at the most
pub record GivesOne (old new : Roster) : Type 0 where
  pub many : length new.records ≡ length old.records
  pub stamps : new.young ≤ℤ (old.young +ℤ pos 1)
  pub older : new.old ≡ old.old

readied_gives : (roster : Roster) (p : ℕ) (r : Record) → GivesOne roster (readied roster p r)
readied_gives roster p r =
    cond_both {A = Roster} (is_eligible roster.mode r) (newest roster p r) (with_record roster p r) (GivesOne roster)
    (λ _. record { many = (changes_newest roster p r).count; stamps = (changes_newest roster p r).one_more; older = refl })
    (λ _. record { many = (changes_record roster p r).count; stamps = (changes_record roster p r).one_more; older = refl })

pub granted_gives : (message : Option Message) (roster : Roster) (p : ℕ) → GivesOne roster (granted message roster p).roster
granted_gives None roster p = readied_gives roster p (awake (record_at roster p))
granted_gives (Some message) roster p =
    let got = receive roster p message in
    let r : Record = record (record_at roster p) { inbox = Some message } in
    let gives = readied_gives got p (awake (record_at got p)) in
    record { many = gives.many ∙ (changes_record roster p r).count; stamps = gives.stamps; older = gives.older }

-- it gives one notice
pub one_granted : (message : Option Message) (roster : Roster) (p : ℕ) → length (granted message roster p).notices ≡ 1
one_granted None roster p = refl
one_granted (Some message) roster p = refl

pub reach_grant_all : (queue : Queue) (message : Option Message) (roster : Roster) → is_same_queue queues.Normal queue ≡ false
    → HasOrderlyStarts roster → Reaches (length roster.records) roster (grant_all queue message roster).roster
unfolding grant_all
reach_grant_all queue message roster apart starts =
    reaches_in_turn (first_in queue) (granted message) HasOrderlyStarts
    (λ r p before is. (reach_granted message r p queue apart before is).moves.starts before)
    (λ r p before is. reach_granted message r p queue apart before is)
    (length roster.records) roster starts

-- no process waits past the end
past_waits : (queue : Queue) (r : Record) → r ≡ nobody → waits_in queue r ≡ false
unfolding waits_in
past_waits queue r is = rw is refl

-- if no process waits first, none waits
pub none_waits : (roster : Roster) (queue : Queue) → first_waiter roster queue ≡ None → (p : ℕ) → waits_in queue (record_at roster p) ≡ false
none_waits roster queue none p = elim (cases_lt p (length roster.records)) [
  | inl within ↦ (place_none (waits_in queue) (waits_before (discipline_of roster queue)) roster.records (waits_strict (discipline_of roster queue)) none).none p within
  | inr past ↦ past_waits queue (record_at roster p) (get_or_past roster.records p nobody past)
]

-- 1 for a process that waits in the queue, 0 for any other
abbrev waiting_at : Queue → Record → ℕ
waiting_at queue r = if waits_in queue r then 1 else 0

module _ (queue : Queue) (roster : Roster) (p : ℕ) (known : p < length roster.records) where
  -- the number of waiters after another record is set
  counted : (r : Record) → waiter_count (with_record roster p r) queue + waiting_at queue (record_at roster p) ≡ waiter_count roster queue + waiting_at queue r
  counted r = sum_by-set (waiting_at queue) roster.records p r nobody known

  -- a process that waits there, and wakes, leaves it
  leaves_newest : (r : Record) → waits_in queue (record_at roster p) ≡ true → waiter_count (newest roster p (awake r)) queue + 1 ≡ waiter_count roster queue
  unfolding waits_in
  leaves_newest r waits = let all = counted (record (awake r) { since = roster.young }) in omega (arith, rw waits at all)

  leaves_record : (r : Record) → waits_in queue (record_at roster p) ≡ true → waiter_count (with_record roster p (awake r)) queue + 1 ≡ waiter_count roster queue
  unfolding waits_in
  leaves_record r waits = let all = counted (awake r) in omega (arith, rw waits at all)

  leaves : (r : Record) → waits_in queue (record_at roster p) ≡ true → waiter_count (readied roster p (awake r)) queue + 1 ≡ waiter_count roster queue
  leaves r waits =
      cond_both {A = Roster} (is_eligible roster.mode (awake r)) (newest roster p (awake r)) (with_record roster p (awake r))
      (λ (after : Roster). waiter_count after queue + 1 ≡ waiter_count roster queue)
      (λ _. leaves_newest r waits) (λ _. leaves_record r waits)

-- a process that receives a message waits as before
received_waits : (queue : Queue) (r : Record) (message : Message) → waits_in queue (record r { inbox = Some message }) ≡ waits_in queue r
unfolding waits_in
received_waits queue r message = refl

-- a process that has what it waited for leaves its queue
granted_leaves : (queue : Queue) (message : Option Message) (roster : Roster) (p : ℕ) → p < length roster.records
    → waits_in queue (record_at roster p) ≡ true → waiter_count (granted message roster p).roster queue + 1 ≡ waiter_count roster queue
granted_leaves queue None roster p known waits = leaves queue roster p known (record_at roster p) waits
granted_leaves queue (Some message) roster p known waits =
    let r : Record = record (record_at roster p) { inbox = Some message } in
    let got = receive roster p message in
    let here : record_at got p ≡ r = at_record roster p known r in
    let same = received_waits queue (record_at roster p) message in
    let count = counted queue roster p known r in
    let known_so : p < length got.records = rw (reaches_receive roster p known message).moves.many known in
    let waits_so : waits_in queue (record_at got p) ≡ true = rw here (same ∙ waits) in
    let left = leaves queue got p known_so (record_at got p) waits_so in
    omega (arith, left, rw same at count)

-- with enough turns no process is left that waits
module _ (queue : Queue) (message : Option Message) where
  abbrev IsLeft : Roster → Type 0
  IsLeft roster = (p : ℕ) → waits_in queue (record_at roster p) ≡ false

  left_and : (others : Roster → Changed) (left : ℕ)
      → ((roster : Roster) → waiter_count roster queue ≤ left → IsLeft (others roster).roster)
      → (roster : Roster) → waiter_count roster queue ≤ suc left → (found : Option ℕ) → first_in queue roster ≡ found
      → IsLeft (next_and others (granted message) roster found).roster
  left_and others left rest roster few None is = none_waits roster queue is
  left_and others left rest roster few (Some p) is =
      let waits = place_passes (waits_in queue) (waits_before (discipline_of roster queue)) roster.records p nobody is in
      let fewer = granted_leaves queue message roster p (first_within roster queue p is) waits in
      rest (granted message roster p).roster (omega (arith, few, fewer))

  -- if no waiters are counted, no process waits
  none_counted : (roster : Roster) → waiter_count roster queue ≤ 0 → IsLeft roster
  none_counted roster none p = elim (cases_Bool (waits_in queue (record_at roster p))) [
    | inl waits ↦ elim (cases_lt p (length roster.records)) [
      | inl within ↦ let fewer = granted_leaves queue None roster p within waits in absurd (omega (arith, none, fewer))
      | inr past ↦ absurd (both_ways _ (past_waits queue (record_at roster p) (get_or_past roster.records p nobody past)) waits)
    ]
    | inr free ↦ free
  ]

  left_in_turn : (left : ℕ) (roster : Roster) → waiter_count roster queue ≤ left
      → IsLeft (in_turn (first_in queue) (granted message) left roster).roster
  left_in_turn zero roster few = none_counted roster few
  left_in_turn (suc left) roster few =
      left_and (in_turn (first_in queue) (granted message) left) left (left_in_turn left) roster few (first_in queue roster) refl

  pub none_left : (roster : Roster) → IsLeft (grant_all queue message roster).roster
  unfolding grant_all
  none_left roster = left_in_turn (length roster.records) roster (count_by-le-length (waits_in queue) roster.records)
