-- The first of a queue's list is its first waiter, the one behind a process there is the next
-- waiter, and the list is as long as the number of waiters.
use Rattle.std.proofs.Common.{◌≡◌, ℕ, ◌<◌, Bool, true, false, List, length, Option, None, Some, IfSome, inl, inr, refl, sym, subst, ◌∙◌}
use Rattle.std.proofs.lemmas.Bool.{and_from, and_parts, cases_Bool, false≢true}
use Rattle.std.proofs.lemmas.Option.{get_or_from_slice_get, none-some, slice_get-get_or}
use Rattle.apex_types.specs.declared.modes.Discipline.{Discipline}
use Rattle.apex_machine.specs.declared.records.Queue.{Queue}
use Rattle.apex_machine.specs.declared.records.Record.{Record}
use Rattle.apex_machine.specs.processes.Roster.{Roster, nobody, record_at}
use Rattle.apex_machine.specs.processes.Waiters.{discipline_of, first_waiter, next_waiter, waiter_count, waits_before, waits_behind, waits_in}
use Rattle.apex_machine.proofs.Choice.{place_found, place_is}
use Rattle.apex_machine.proofs.Orders.{waits_strict}
use Rattle.apex_links.specs.Neighbours.{stands_in, after_in, first_of, IsDistinct}
use Rattle.apex_links.specs.Links.{list_at}
use Rattle.apex_links.proofs.Counting.{count_places}
use Rattle.apex_links.proofs.Places.{first_none, first_stands}
use Rattle.apex_links.proofs.Sorted.{first_before, next_before, next_behind, next_none, next_stands}
use Rattle.apex_links.specs.Sorted.{IsSorted}
use Rattle.apex_waitq.specs.WaitQueues.{wait_list, IsNumbered}
use Rattle.apex_process.specs.Lists.{list_of}
use Rattle.apex_process.specs.Queued.{IsQueued, Standings}
use Rattle.apex_process.proofs.Places.{listed_known, no_queue}
use Rattle.apex_machine.specs.processes.Running.{is_eligible}
use Rattle.apex_machine.proofs.Starts.{stands_in as queue_is}
use Rattle.apex_process.proofs.Standing.{place_of}
use Rattle.apex_process.proofs.States.{wait_lists_are, wait_members}

behind_parts : (d : Discipline) (queue : Queue) (ahead r : Record) → waits_behind d queue ahead r ≡ true → (waits_in queue r ≡ true) × (waits_before d ahead r ≡ true)
unfolding waits_behind
behind_parts d queue ahead r e = and_parts _ _ e

behind_from : (d : Discipline) (queue : Queue) (ahead r : Record) → waits_in queue r ≡ true → waits_before d ahead r ≡ true → waits_behind d queue ahead r ≡ true
unfolding waits_behind
behind_from d queue ahead r e f = and_from _ _ e f

nobody_in : (queue : Queue) → waits_in queue nobody ≡ false
unfolding waits_in
nobody_in queue = refl

-- a queue in which a process waits has a list
pub numbered : (roster : Roster) (s : Standings) → IsQueued roster s → (queue : Queue) (p : ℕ) → waits_in queue (record_at roster p) ≡ true → IsNumbered queue
numbered roster s is queue p waits = elim (cases_Bool (is_eligible roster.mode (record_at roster p))) [
  | inl e ↦ absurd (none-some queue (sym (no_queue roster.mode (record_at roster p) e) ∙ queue_is queue (record_at roster p) waits))
  | inr e ↦ (is.places p).queue e queue (queue_is queue (record_at roster p) waits)
]

module _ (roster : Roster) (s : Standings) (is : IsQueued roster s) (queue : Queue) (i : IsNumbered queue) where
  abbrev xs : List ℕ
  xs = list_at s.links (wait_list queue)

  abbrev d : Discipline
  d = discipline_of roster queue

  abbrev before : ℕ → ℕ → Bool
  before p q = waits_before d (record_at roster p) (record_at roster q)

  sorted : IsSorted before xs
  sorted = (wait_lists_are roster s is).sorted queue i

  one_way : (p q : ℕ) → before p q ≡ true → before q p ≡ false
  one_way p q e = (waits_strict d).one_way (record_at roster p) (record_at roster q) e

  waits : (p : ℕ) → stands_in p xs ≡ true → waits_in queue (record_at roster p) ≡ true
  waits p stands = sym (wait_members roster s is queue p i) ∙ stands

  pub stands : (p : ℕ) → waits_in queue (record_at roster p) ≡ true → stands_in p xs ≡ true
  stands p e = wait_members roster s is queue p i ∙ e

  there : (p : ℕ) → stands_in p xs ≡ true → p < length roster.records
  there p e = listed_known roster p (wait_list queue) (place_of (wait_list queue) (list_of roster p) (sym (is.lists.members p (wait_list queue)) ∙ e))

  first_cases : (found : Option ℕ) → first_of xs ≡ found → found ≡ first_waiter roster queue
  first_cases None e = sym (place_found (waits_in queue) (waits_before d) roster.records None (record {
    none = λ q within. elim (cases_Bool (waits_in queue (record_at roster q))) [
      | inl w ↦ absurd (false≢true (sym (first_none q xs e) ∙ stands q w))
      | inr out ↦ out
    ];
  }))
  first_cases (Some n) e =
      let here = first_stands n xs e in
      sym (place_is (waits_in queue) (waits_before d) roster.records (waits_strict d) n (record_at roster n) (record {
        here = slice_get-get_or roster.records n nobody (there n here);
        passing = waits n here;
        first = λ q r at passed apart.
            let same = get_or_from_slice_get roster.records q r nobody at in
            subst (λ (t : Record). waits_before d (record_at roster n) t ≡ true) same
            (first_before before n q xs sorted e (stands q (subst (λ (t : Record). waits_in queue t ≡ true) (sym same) passed)) apart);
      }))

  pub first_is : first_of xs ≡ first_waiter roster queue
  first_is = first_cases (first_of xs) refl

  pub first_known : IfSome (first_of xs) (λ p. p < length roster.records)
  first_known = within (first_of xs) refl where
    within : (found : Option ℕ) → first_of xs ≡ found → IfSome found (λ p. p < length roster.records)
    within None e = tt
    within (Some n) e = there n (first_stands n xs e)

  module _ (p : ℕ) (stands_there : stands_in p xs ≡ true) where
    next_cases : (found : Option ℕ) → after_in p xs ≡ found → found ≡ next_waiter roster queue p
    next_cases None e = sym (place_found (waits_behind d queue (record_at roster p)) (waits_before d) roster.records None (record {
      none = λ q within. elim (cases_Bool (waits_behind d queue (record_at roster p) (record_at roster q))) [
        | inl w ↦
            let both = behind_parts d queue (record_at roster p) (record_at roster q) w in
            absurd (next_none before one_way p q xs sorted stands_there e (stands q both.0) both.1)
        | inr out ↦ out
      ];
    }))
    next_cases (Some n) e =
        let here = next_stands before p n xs e in
        sym (place_is (waits_behind d queue (record_at roster p)) (waits_before d) roster.records (waits_strict d) n (record_at roster n) (record {
          here = slice_get-get_or roster.records n nobody (there n here);
          passing = behind_from d queue (record_at roster p) (record_at roster n) (waits n here) (next_behind before p n xs sorted e);
          first = λ q r at passed apart.
              let same = get_or_from_slice_get roster.records q r nobody at in
              let both = behind_parts d queue (record_at roster p) (record_at roster q) (subst (λ (t : Record). waits_behind d queue (record_at roster p) t ≡ true) (sym same) passed) in
              subst (λ (t : Record). waits_before d (record_at roster n) t ≡ true) same
              (next_before before one_way p n q xs sorted stands_there e (stands q both.0) both.1 apart);
        }))

    pub next_is : after_in p xs ≡ next_waiter roster queue p
    next_is = next_cases (after_in p xs) refl

    pub next_known : IfSome (after_in p xs) (λ q. q < length roster.records)
    next_known = within (after_in p xs) refl where
      within : (found : Option ℕ) → after_in p xs ≡ found → IfSome found (λ q. q < length roster.records)
      within None e = tt
      within (Some n) e = there n (next_stands before p n xs e)

  pub count_is : IsDistinct xs → length xs ≡ waiter_count roster queue
  count_is distinct = count_places (waits_in queue) nobody (nobody_in queue) roster.records xs distinct (λ p. wait_members roster s is queue p i)
