-- The owner of a mutex after one entry more, by what the entry does to the depths at which processes
-- own it.
use Rattle.std.proofs.Common.{◌≡◌, ◌≢◌, ℕ, zero, suc, ◌+◌, ◌-◌, ◌≤◌, ◌==◌, ◌&&◌, ◌||◌, Bool, true, false, not, nat_le, List, [], ◌∷◌, Option, None, Some, fold, option_map, option_and_then, if◌then◌else◌, ◌⊎◌, refl, sym, ◌∙◌, ap, subst, arith, lit≤, inl, inr}
use Rattle.std.specs.List.{filter_map}
use Rattle.std.specs.Option.{option_or}
use Rattle.std.proofs.lemmas.Bool.{both_ways, and_parts, cases_Bool, cases_eq, eq-eqb, eqb-true, leb-false, leb-true, ne_eqb}
use Rattle.std.proofs.lemmas.Option.{none-some, same_Some}
use Rattle.apex_types.specs.declared.calls.BlackboardService.TheVariants as blackboard
use Rattle.apex_types.specs.declared.calls.BufferService.TheVariants as buffer
use Rattle.apex_types.specs.declared.calls.Call.TheVariants as call
use Rattle.apex_types.specs.declared.calls.CallerCall.TheVariants.{SuspendSelf}
use Rattle.apex_types.specs.declared.calls.EventFlagService.TheVariants as event_flag
use Rattle.apex_types.specs.declared.calls.MutexService.TheVariants as mutex
use Rattle.apex_types.specs.declared.calls.ObjectCall.TheVariants.{KindService}
use Rattle.apex_types.specs.declared.calls.SemaphoreService.TheVariants as semaphore
use Rattle.apex_types.specs.declared.calls.TimeCall.TheVariants.{TimedWait}
use Rattle.apex_types.specs.declared.entries.Caller.TheVariants.{Process}
use Rattle.apex_types.specs.declared.entries.Notice.TheVariants.{Woken, Released, Missed}
use Rattle.apex_machine.specs.declared.records.Queue.TheVariants as queues
use Rattle.apex_machine.specs.declared.records.Wait.TheVariants.{Normal, Start, Period, Time, Semaphore, Receive, Send, Blackboard, EventFlag, Mutex}
use Rattle.apex_machine.specs.processes.Held.{holding_of}
use Rattle.apex_machine.specs.processes.Owners.{HasOrderlyOwners, depth_of, owns}
use Rattle.apex_machine.specs.processes.Queues.{is_queue, queue_of}
use Rattle.apex_machine.specs.processes.Roster.{Roster, record_at}
use Rattle.apex_machine.specs.processes.Stamps.{is_by_itself}
use Rattle.apex_machine.specs.services.Callers.{is_by_process}
use Rattle.apex_machine.specs.services.Calls.{names}
use Rattle.apex_machine.specs.services.Satisfied.{is_accepted, is_no_error, latest_call}
use Rattle.apex_machine.proofs.Held.{is_held}
use Rattle.apex_laws.specs.AskedWaits.{asked_of, awaited, begins, or_suspended}
use Rattle.apex_laws.specs.Terms.{Holding, Record, Wait}
use Rattle.apex_laws.proofs.Satisfied.{begins_named, wakes}
use Rattle.apex_laws.proofs.Truths.{and_false, neither, or_false, or_true}
use Rattle.apex_report.specs.Ownerships.{acquires, depth_after, gives_up, heir, heir_after, is_acquire, is_acquired, is_release, is_released, is_stopped, next_owner, owner_after, owner_from, releases_mutex, taker}
use Rattle.apex_report.specs.Terms.{Call, Entry, Notice, Owner, Queue}
use Rattle.apex_report.specs.Waits.{waking_by, wakings}
use Rattle.apex_report.proofs.Holders.{depth_at, is_for_it, unowned, waits_at}

-- the wait is for a mutex
abbrev is_mutex : Wait → Bool
is_mutex (Mutex n) = true
is_mutex _ = false

-- a call that begins a wait for a mutex is ACQUIRE_MUTEX
acquire_begins : (c : Call) (w : Wait) → begins c ≡ Some w → is_acquire c ≡ is_mutex w
acquire_begins (call.Semaphore (KindService t (semaphore.Wait timeout))) w h = ap is_mutex (same_Some (Semaphore t) w h)
acquire_begins (call.Buffer (KindService b (buffer.Send message timeout))) w h = ap is_mutex (same_Some (Send b message) w h)
acquire_begins (call.Buffer (KindService b (buffer.Receive timeout))) w h = ap is_mutex (same_Some (Receive b) w h)
acquire_begins (call.Blackboard (KindService b (blackboard.Read timeout))) w h = ap is_mutex (same_Some (Blackboard b) w h)
acquire_begins (call.EventFlag (KindService e (event_flag.Wait timeout))) w h = ap is_mutex (same_Some (EventFlag e) w h)
acquire_begins (call.Mutex (KindService m (mutex.Acquire timeout))) w h = ap is_mutex (same_Some (Mutex m) w h)
acquire_begins (call.Time (TimedWait timeout)) w h = ap is_mutex (same_Some Time w h)
acquire_begins (call.Caller (SuspendSelf timeout)) w h = ap is_mutex (same_Some Time w h)
acquire_begins _ w h = cc

-- a call does not both acquire and release
one_of_them : (c : Call) → is_acquire c ≡ true → is_release c ≡ false
one_of_them (call.Mutex (KindService m (mutex.Acquire timeout))) h = refl
one_of_them _ h = cc

same_both_ways : (n m : ℕ) → (n == m) ≡ (m == n)
same_both_ways n m = elim (cases_eq n m) [
  | inl e ↦ eq-eqb n m e ∙ sym (eq-eqb m n (sym e))
  | inr apart ↦ ne_eqb n m apart ∙ sym (ne_eqb m n (λ e. apart (sym e)))
]

and_true_too : (b : Bool) → b ≡ (b && true)
and_true_too true = refl
and_true_too false = refl

module _ (m : ℕ) where
  abbrev queue : Queue
  queue = queues.Mutex m

  -- the wait that a process asked for is for the mutex
  suspended_time : (by_itself : Bool) (w : Wait) → or_suspended None by_itself ≡ Some w
      → false ≡ (is_queue queue (queue_of w) && is_mutex w)
  suspended_time true w h = ap (λ (w : Wait). is_queue queue (queue_of w) && is_mutex w) (same_Some Time w h)
  suspended_time false w h = absurd (none-some w h)

  pub for_it : (wait : Option Wait) (by_itself : Bool) (w : Wait) → or_suspended (asked_of wait) by_itself ≡ Some w
      → is_for_it m wait ≡ (is_queue queue (queue_of w) && is_mutex w)
  for_it (Some (Mutex n)) by_itself w h =
      same_both_ways n m ∙ and_true_too (m == n) ∙ ap (λ (w : Wait). is_queue queue (queue_of w) && is_mutex w) (same_Some (Mutex n) w h)
  for_it (Some Time) by_itself w h = ap (λ (w : Wait). is_queue queue (queue_of w) && is_mutex w) (same_Some Time w h)
  for_it (Some (Semaphore s)) by_itself w h = ap (λ (w : Wait). is_queue queue (queue_of w) && is_mutex w) (same_Some (Semaphore s) w h)
  for_it (Some (Receive b)) by_itself w h = ap (λ (w : Wait). is_queue queue (queue_of w) && is_mutex w) (same_Some (Receive b) w h)
  for_it (Some (Send b message)) by_itself w h = ap (λ (w : Wait). is_queue queue (queue_of w) && is_mutex w) (same_Some (Send b message) w h)
  for_it (Some (Blackboard b)) by_itself w h = ap (λ (w : Wait). is_queue queue (queue_of w) && is_mutex w) (same_Some (Blackboard b) w h)
  for_it (Some (EventFlag e)) by_itself w h = ap (λ (w : Wait). is_queue queue (queue_of w) && is_mutex w) (same_Some (EventFlag e) w h)
  for_it (Some (Normal delay)) by_itself w h = suspended_time by_itself w h
  for_it (Some Start) by_itself w h = suspended_time by_itself w h
  for_it (Some Period) by_itself w h = suspended_time by_itself w h
  for_it None by_itself w h = suspended_time by_itself w h

  -- so the latest call of a process that waits acquires the mutex exactly if the process waits for it
  pub waits_as_asked : (r : Record) (w : Wait) (latest : Option Call) → awaited r ≡ Some w → option_and_then begins latest ≡ Some w
      → acquires queue latest ≡ is_for_it m r.wait
  waits_as_asked r w None waits asked = absurd (none-some w asked)
  waits_as_asked r w (Some c) waits asked =
      ap (λ (at : Option Queue). is_queue queue at && is_acquire c) (begins_named c w asked)
      ∙ ap (λ (b : Bool). is_queue queue (queue_of w) && b) (acquire_begins c w asked)
      ∙ sym (for_it r.wait (is_by_itself r.suspended) w waits)

  -- a process that owns the mutex does so alone, and waits for nothing
  deep_owns : (roster : Roster) (p : ℕ) (found : Option Holding) → holding_of m (record_at roster p).owned ≡ found → 1 ≤ depth_of found
      → owns m (record_at roster p) ≡ true
  deep_owns roster p None is deep = absurd (omega (arith, deep))
  deep_owns roster p (Some holding) is deep = (is_held m holding (record_at roster p).owned is).held

  pub one_deep : (roster : Roster) → HasOrderlyOwners roster → (p q : ℕ) → 1 ≤ depth_at m roster p → 1 ≤ depth_at m roster q → p ≡ q
  one_deep roster orderly p q first second =
      orderly.one m p q (deep_owns roster p (holding_of m (record_at roster p).owned) refl first)
      (deep_owns roster q (holding_of m (record_at roster q).owned) refl second)

  mutex_waits : (wait : Option Wait) → is_for_it m wait ≡ true → wait ≡ Some (Mutex m)
  mutex_waits (Some (Mutex n)) h = ap (λ (k : ℕ). Some (Mutex k)) (eqb-true n m h)
  mutex_waits _ h = cc

  pub waits_owns_none : (roster : Roster) → HasOrderlyOwners roster → (p : ℕ) → waits_at m roster p ≡ true → depth_at m roster p ≡ 0
  waits_owns_none roster orderly p h =
      ap (λ owned. depth_of (holding_of m owned)) (unowned roster orderly p m (mutex_waits (record_at roster p).wait h))

  -- the depth at which process s owns the mutex after the entry
  abbrev pub target : Roster → Entry → ℕ → ℕ
  target old e s =
      if is_stopped s e then 0 else if wakes s e.notices && waits_at m old s then 1
      else if is_by_process s e.process then depth_after queue e (depth_at m old s) else depth_at m old s

  -- the entry does this to the depths: a process that acquires or releases it calls, and one that
  -- releases it owns it
  pub record Transfers (old new : Roster) (e : Entry) : Type 0 where
    pub depth : (s : ℕ) → depth_at m new s ≡ target old e s
    pub taken : is_acquired queue e ≡ true → (c : ℕ) × (e.process ≡ Process c)
    pub given : is_released queue e ≡ true → (c : ℕ) × (e.process ≡ Process c) × (1 ≤ depth_at m old c)
    pub alive : is_acquired queue e ≡ true → (s : ℕ) → is_stopped s e ≡ false

  -- the owner that is read off the history is the one of the roster
  abbrev pub Stands : Roster → Option Owner → Type 0
  Stands roster None = (s : ℕ) → depth_at m roster s ≡ 0
  Stands roster (Some one) = (depth_at m roster one.process ≡ one.depth) × (1 ≤ one.depth)

  module _ (history : List Entry) (e : Entry) where
    -- process q is woken with the mutex
    abbrev IsHeir : ℕ → List Notice → Type 0
    IsHeir q notices = (wakes q notices ≡ true) × (acquires queue (latest_call q history) ≡ true) × (is_stopped q e ≡ false)

    record Heirs (before : Option ℕ) (notices : List Notice) (found : Option ℕ) : Type 0 where
      some : (q : ℕ) → found ≡ Some q → (before ≡ Some q) ⊎ IsHeir q notices
      none : found ≡ None → (before ≡ None)
          × ((s : ℕ) → wakes s notices ≡ true → acquires queue (latest_call s history) ≡ true → is_stopped s e ≡ true)

    -- one notice more that wakes
    heirs_woken : (q : ℕ) (b c d : Bool) (before : Option ℕ) (notices : List Notice) (found : Option ℕ) (told : List Notice)
        → ((s : ℕ) → wakes s told ≡ ((s == q && b) || wakes s notices)) → acquires queue (latest_call q history) ≡ c → is_stopped q e ≡ d
        → Heirs (if b && c && not d then Some q else before) notices found → Heirs before told found
    heirs_woken q true true false before notices found told more calls stops h = record {
      some = λ k is. elim (h.some k is) [
        | inl now ↦
            let same : q ≡ k = same_Some q k now in
            inr (subst (λ (k : ℕ). IsHeir k told) same (more q ∙ rw (eq-eqb q q refl) refl, calls, stops))
        | inr later ↦ inr (more k ∙ rw later.0 (or_true (k == q && true)), later.1, later.2)
      ];
      none = λ is. absurd (none-some q (sym (h.none is).0));
    }
    heirs_woken q true true true before notices found told more calls stops h = record {
      some = λ k is. elim (h.some k is) [
        | inl now ↦ inl now
        | inr later ↦ inr (more k ∙ rw later.0 (or_true (k == q && true)), later.1, later.2)
      ];
      none = λ is. (
        (h.none is).0,
        λ s wakes_s calls_s. elim (cases_eq s q) [
          | inl same ↦ ap (λ (k : ℕ). is_stopped k e) same ∙ stops
          | inr apart ↦ (h.none is).1 s (rw (more s, ne_eqb s q apart) at wakes_s) calls_s
        ],
      );
    }
    heirs_woken q true false d before notices found told more calls stops h = record {
      some = λ k is. elim (h.some k is) [
        | inl now ↦ inl now
        | inr later ↦ inr (more k ∙ rw later.0 (or_true (k == q && true)), later.1, later.2)
      ];
      none = λ is. (
        (h.none is).0,
        λ s wakes_s calls_s. elim (cases_eq s q) [
          | inl same ↦ absurd (both_ways _ calls (sym (ap (λ (k : ℕ). acquires queue (latest_call k history)) same) ∙ calls_s))
          | inr apart ↦ (h.none is).1 s (rw (more s, ne_eqb s q apart) at wakes_s) calls_s
        ],
      );
    }
    heirs_woken q false c d before notices found told more calls stops h = record {
      some = λ k is. elim (h.some k is) [
        | inl now ↦ inl now
        | inr later ↦ inr (more k ∙ rw later.0 (or_true (k == q && false)), later.1, later.2)
      ];
      none = λ is. (
        (h.none is).0,
        λ s wakes_s calls_s. (h.none is).1 s (rw (more s, and_false (s == q)) at wakes_s) calls_s,
      );
    }

    heirs : (notices : List Notice) (before : Option ℕ) → Heirs before notices (fold (heir_after queue e) before (filter_map (waking_by history) notices))
    heirs [] before = record { some = λ q is. inl is; none = λ is. (is, λ s h. absurd (both_ways false refl h)) }
    heirs (Released p ∷ notices) before = let h = heirs notices before in record { some = h.some; none = h.none }
    heirs (Missed p kind ∷ notices) before = let h = heirs notices before in record { some = h.some; none = h.none }
    heirs (Woken q code ∷ notices) before =
        heirs_woken q (is_no_error code) (acquires queue (latest_call q history)) (is_stopped q e) before notices _ (Woken q code ∷ notices)
        (λ s. refl) refl refl (heirs notices _)

    module _ (old new : Roster) (first : HasOrderlyOwners old) (second : HasOrderlyOwners new) (is : Transfers old new e)
        (asked : (s : ℕ) → wakes s e.notices ≡ true → acquires queue (latest_call s history) ≡ waits_at m old s) where
      abbrev woken_for_it : ℕ → Bool
      woken_for_it s = wakes s e.notices && waits_at m old s

      -- neither stopped nor woken with it
      plain_depth : (s : ℕ) → is_stopped s e ≡ false → woken_for_it s ≡ false
          → depth_at m new s ≡ (if is_by_process s e.process then depth_after queue e (depth_at m old s) else depth_at m old s)
      plain_depth s alive quiet = is.depth s ∙ rw (alive, quiet) refl

      by_caller : (c : ℕ) → e.process ≡ Process c → is_by_process c e.process ≡ true
      by_caller c by = rw by (eq-eqb c c refl)

      not_both : is_acquired queue e ≡ true → is_released queue e ≡ false
      not_both h = by_call e.call h where
        by_call : (asked : Option Call) → (acquires queue asked && is_accepted e.reply) ≡ true → (releases_mutex queue asked && is_accepted e.reply) ≡ false
        by_call None h = cc
        by_call (Some c) h =
            let both = and_parts (acquires queue (Some c)) (is_accepted e.reply) h in
            let acquire = and_parts (names queue c) (is_acquire c) both.0 in
            rw (one_of_them c acquire.1, acquire.0) refl

      -- the owner of a mutex that is free after the entry, but for one who gets it
      stands_next : ((s : ℕ) → is_stopped s e ≡ false → woken_for_it s ≡ false → is_acquired queue e ≡ false → depth_at m new s ≡ 0)
          → ((c : ℕ) → is_acquired queue e ≡ true → e.process ≡ Process c → depth_at m new c ≡ 1)
          → Stands new (option_map (owner_from e) (next_owner queue e (wakings history e)))
      stands_next free takes = by_taker (is_acquired queue e) refl where
        found_heir : (found : Option ℕ) → Heirs None e.notices found → is_acquired queue e ≡ false → Stands new (option_map (owner_from e) found)
        found_heir (Some q) h apart = elim (h.some q refl) [
          | inl clash ↦ absurd (none-some q clash)
          | inr so ↦
              let waits : waits_at m old q ≡ true = sym (asked q so.0) ∙ so.1 in
              (is.depth q ∙ rw (so.2, so.0, waits) refl, lit≤ tt)
        ]
        found_heir None h apart = λ s. elim (cases_Bool (is_stopped s e)) [
          | inl stops ↦ is.depth s ∙ rw stops refl
          | inr alive ↦ elim (cases_Bool (woken_for_it s)) [
            | inl woken ↦
                let both = and_parts (wakes s e.notices) (waits_at m old s) woken in
                absurd (both_ways _ alive ((h.none refl).1 s both.0 (asked s both.0 ∙ both.1)))
            | inr quiet ↦ free s alive quiet apart
          ]
        ]

        by_taker : (b : Bool) → is_acquired queue e ≡ b → Stands new (option_map (owner_from e) (next_owner queue e (wakings history e)))
        by_taker true h =
            let c = is.taken h in
            let one = takes c.0 h c.1 in
            let t : taker queue e ≡ Some c.0 = rw (h, c.1) refl in
            subst (λ (found : Option ℕ). Stands new (option_map (owner_from e) (option_or found (heir queue e (wakings history e)))))
            (sym t) (one, lit≤ tt)
        by_taker false h =
            let t : taker queue e ≡ None = rw h refl in
            subst (λ (found : Option ℕ). Stands new (option_map (owner_from e) (option_or found (heir queue e (wakings history e)))))
            (sym t) (found_heir (heir queue e (wakings history e)) (heirs e.notices None) h)

      zero_more : (d : ℕ) → d ≡ 0 → is_acquired queue e ≡ false → depth_after queue e d ≡ 0
      zero_more d none apart = rw (apart, none) (by (is_released queue e)) where
        by : (b : Bool) → (if b then 0 - 1 else 0) ≡ 0
        by true = refl
        by false = refl

      both_zero : (b : Bool) (x y : ℕ) → x ≡ 0 → y ≡ 0 → (if b then x else y) ≡ 0
      both_zero true x y e f = e
      both_zero false x y e f = f

      pub owner_stands : (found : Option Owner) → Stands old found → Stands new (owner_after queue e (wakings history e) found)
      owner_stands None none =
          stands_next
          (λ s alive quiet apart. plain_depth s alive quiet ∙ both_zero (is_by_process s e.process) _ _ (zero_more (depth_at m old s) (none s) apart) (none s))
          (λ c h by. is.depth c ∙ rw (is.alive h c, by_caller c by, h, none c) (by_woken (woken_for_it c))) where
            by_woken : (b : Bool) → (if b then 1 else 0 + 1) ≡ 1
            by_woken true = refl
            by_woken false = refl
      owner_stands (Some one) stands = by_giving (gives_up queue e one) refl where
        deep : 1 ≤ depth_at m old one.process
        deep = omega (arith, stands.0, stands.1)

        awake_so : woken_for_it one.process ≡ false
        awake_so = by (wakes one.process e.notices) (waits_at m old one.process) refl where
          by : (a b : Bool) → waits_at m old one.process ≡ b → (a && b) ≡ false
          by a true h = absurd (omega (arith, waits_owns_none old first one.process h, deep))
          by a false h = and_false a

        others : (s : ℕ) → s ≢ one.process → depth_at m old s ≡ 0
        others s apart = by (depth_at m old s) refl where
          by : (d : ℕ) → depth_at m old s ≡ d → d ≡ 0
          by zero h = refl
          by (suc d) h = absurd (apart (one_deep old first s one.process (omega (arith, h)) deep))

        not_given : is_acquired queue e ≡ true → gives_up queue e one ≡ false
        not_given h = rw (not_both h, is.alive h one.process) refl

        given_up : (s : ℕ) → s ≡ one.process → gives_up queue e one ≡ true → is_stopped s e ≡ false → woken_for_it s ≡ false
            → is_acquired queue e ≡ false → depth_at m new s ≡ 0
        given_up s same gives alive quiet apart =
            let kept : is_stopped one.process e ≡ false = sym (ap (λ (k : ℕ). is_stopped k e) same) ∙ alive in
            let both = and_parts (is_released queue e) (nat_le one.depth 1)
            (sym (or_false (is_released queue e && nat_le one.depth 1)) ∙ sym (ap (λ (b : Bool). is_released queue e && nat_le one.depth 1 || b) kept) ∙ gives) in
            let giver = is.given both.0 in
            let itself : giver.0 ≡ s = one_deep old first giver.0 one.process giver.2 deep ∙ sym same in
            let by_s : is_by_process s e.process ≡ true = subst (λ (k : ℕ). is_by_process k e.process ≡ true) itself (by_caller giver.0 giver.1) in
            let shallow = leb-true one.depth 1 both.1 in
            let here : depth_at m old s ≡ one.depth = ap (depth_at m old) same ∙ stands.0 in
            plain_depth s alive quiet ∙ rw (by_s, apart, both.0) (omega (arith, here, shallow))

        elsewhere : is_stopped one.process e ≡ false → is_by_process one.process e.process ≡ false
            → (is_acquired queue e ≡ false) × (is_released queue e ≡ false)
        elsewhere alive other = (by_taking (is_acquired queue e) refl, by_releasing (is_released queue e) refl) where
          taken_depth : (b : Bool) (d : ℕ) → 1 ≤ (if b then 1 else d + 1)
          taken_depth true d = lit≤ tt
          taken_depth false d = omega arith

          still_deep : 1 ≤ depth_at m new one.process
          still_deep = let after : depth_at m new one.process ≡ depth_at m old one.process = plain_depth one.process alive awake_so ∙ rw other refl in omega (arith, after, deep)

          by_taking : (b : Bool) → is_acquired queue e ≡ b → b ≡ false
          by_taking false h = refl
          by_taking true h =
              let c = is.taken h in
              let now : depth_at m new c.0 ≡ (if woken_for_it c.0 then 1 else depth_at m old c.0 + 1) =
              is.depth c.0 ∙ rw (is.alive h c.0, by_caller c.0 c.1, h) refl in
              let some = taken_depth (woken_for_it c.0) (depth_at m old c.0) in
              let itself = one_deep new second c.0 one.process (omega (arith, now, some)) still_deep in
              absurd (both_ways _ other (subst (λ (k : ℕ). is_by_process k e.process ≡ true) itself (by_caller c.0 c.1)))

          by_releasing : (b : Bool) → is_released queue e ≡ b → b ≡ false
          by_releasing false h = refl
          by_releasing true h =
              let c = is.given h in
              let itself = one_deep old first c.0 one.process c.2 deep in
              absurd (both_ways _ other (subst (λ (k : ℕ). is_by_process k e.process ≡ true) itself (by_caller c.0 c.1)))

        goes_on : is_stopped one.process e ≡ false → depth_at m new one.process ≡ depth_after queue e one.depth
        goes_on alive = by (is_by_process one.process e.process) refl where
          by : (b : Bool) → is_by_process one.process e.process ≡ b → depth_at m new one.process ≡ depth_after queue e one.depth
          by true mine = plain_depth one.process alive awake_so ∙ rw mine (ap (depth_after queue e) stands.0)
          by false other =
              let none = elsewhere alive other in
              plain_depth one.process alive awake_so ∙ rw (other, none.0, none.1) stands.0

        still_owned : (taking releasing : Bool) → (releasing && nat_le one.depth 1) ≡ false
            → 1 ≤ (if taking then one.depth + 1 else if releasing then one.depth - 1 else one.depth)
        still_owned true releasing h = omega arith
        still_owned false true h = let more = leb-false one.depth 1 h in omega (arith, more)
        still_owned false false h = stands.1

        by_giving : (b : Bool) → gives_up queue e one ≡ b
            → Stands new (if b then option_map (owner_from e) (next_owner queue e (wakings history e)) else Some (record one { depth = depth_after queue e one.depth }))
        by_giving true gives =
            stands_next
            (λ s alive quiet apart. elim (cases_eq s one.process) [
              | inl same ↦ given_up s same gives alive quiet apart
              | inr other ↦
                  plain_depth s alive quiet
                  ∙ both_zero (is_by_process s e.process) _ _ (zero_more (depth_at m old s) (others s other) apart) (others s other)
            ])
            (λ c h by. absurd (both_ways _ (not_given h) gives))
        by_giving false keeps =
            let none = neither (is_released queue e && nat_le one.depth 1) (is_stopped one.process e) keeps in
            (goes_on none.1, still_owned (is_acquired queue e) (is_released queue e) none.0)
