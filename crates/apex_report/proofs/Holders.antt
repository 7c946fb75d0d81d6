-- The depths at which processes own a mutex, as processes change.
use Rattle.std.proofs.Common.{◌≡◌, ◌≢◌, ℕ, ◌==◌, ◌&&◌, ◌||◌, Bool, true, false, List, [], ◌∷◌, ◌++◌, length, Option, None, Some, cond, if◌then◌else◌, set, get_or, ◌⊎◌, refl, sym, ◌∙◌, ap, subst, arith, inl, inr}
use Rattle.std.specs.List.{list_any}
use Rattle.std.proofs.lemmas.Bool.{both_ways, cases_Bool, cases_eq, cases_lt, cond_both, eq-eqb, eqb-true, ne_eqb, or_from}
use Rattle.std.proofs.lemmas.Grind.{get_or-set_at}
use Rattle.std.proofs.lemmas.List.{get_or-set_other, get_or_past, length-set}
use Rattle.std.proofs.lemmas.List.Folds.{list_any-append}
use Rattle.std.proofs.lemmas.Option.{none-some}
use Rattle.apex_types.specs.declared.entries.Notice.TheVariants.{Woken, Missed}
use Rattle.apex_types.specs.declared.entries.ReturnCode.TheVariants.{NoError}
use Rattle.apex_types.specs.declared.modes.DeadlineType.TheVariants.{Soft, Hard}
use Rattle.apex_machine.specs.declared.records.Queue.TheVariants as queues
use Rattle.apex_machine.specs.declared.records.Wait.TheVariants.{Mutex}
use Rattle.apex_machine.specs.declared.records.Wait.TheVariants as wait
use Rattle.apex_machine.specs.processes.Dues.{first_due, first_missed}
use Rattle.apex_machine.specs.processes.Held.{holding_of, in_order}
use Rattle.apex_machine.specs.processes.Owners.{HasOrderlyOwners, depth_of}
use Rattle.apex_machine.specs.processes.Roster.{Roster, nobody, record_at, with_record}
use Rattle.apex_machine.specs.processes.Running.{is_eligible}
use Rattle.apex_machine.specs.processes.Stamps.{awake, newest, readied, released_at, set_deadline, stop, stopped, without_due}
use Rattle.apex_machine.specs.processes.Waiters.{first_waiter}
use Rattle.apex_machine.specs.services.Handovers.{halted, hand_on, hand_over, hand_to}
use Rattle.apex_machine.specs.Ticks.{miss, serve_deadlines, serve_due, serve_dues, serve_missed, wait_over}
use Rattle.apex_machine.proofs.Handovers.{mutex_wait}
use Rattle.apex_machine.proofs.InTurn.{holds_in_turn}
use Rattle.apex_machine.proofs.Replaces.{replaces_readied}
use Rattle.apex_machine.proofs.Starts.{first_stands, first_within}
use Rattle.apex_laws.specs.Terms.{DeadlineType, Holding, Record, Wait}
use Rattle.apex_laws.specs.AskedWaits.{awaited}
use Rattle.apex_laws.proofs.AskedWaits.{Frees, frees_moved, frees_none, frees_release, frees_then, frees_unblock}
use Rattle.apex_laws.proofs.Satisfied.{is_waking, wakes, woken_alone}
use Rattle.apex_laws.proofs.Truths.{and_false, neither}
use Rattle.apex_report.specs.Jobs.{is_hard_miss_of}
use Rattle.apex_report.specs.Terms.{Notice}

-- one process has another record, and the others keep theirs
pub record_then : (P : Record → Record → Type 0) → ((x : Record) → P x x) → (old new : Roster) (p : ℕ) (r : Record)
    → new.records ≡ set old.records p r → P (record_at old p) r → (s : ℕ) → P (record_at old s) (record_at new s)
record_then P same old new p r is here s =
    let now : record_at new s ≡ get_or (set old.records p r) s nobody = ap (λ (rs : List Record). get_or rs s nobody) is in
    elim (cases_eq s p) [
      | inl e ↦ elim (cases_lt p (length old.records)) [
        | inl within ↦
            let at_p : record_at new s ≡ r = now ∙ get_or-set_at old.records p s r nobody e within in
            subst (P (record_at old s)) (sym at_p) (subst (λ (k : ℕ). P (record_at old k) r) (sym e) here)
        | inr past ↦
            let many = length-set old.records p r in
            let was : record_at old s ≡ nobody = get_or_past old.records s nobody (omega (arith, past, e)) in
            let none : record_at new s ≡ nobody = now ∙ get_or_past (set old.records p r) s nobody (omega (arith, past, e, many)) in
            subst (P (record_at old s)) (sym none) (subst (λ (x : Record). P x nobody) (sym was) (same nobody))
      ]
      | inr apart ↦
          let at_s : record_at new s ≡ record_at old s = now ∙ get_or-set_other old.records p s r nobody apart in
          subst (P (record_at old s)) (sym at_s) (same (record_at old s))
    ]

-- a process that waits for a mutex owns none
abbrev pub IsUnowned : Roster → Type 0
IsUnowned roster = (p n : ℕ) → (record_at roster p).wait ≡ Some (Mutex n) → (record_at roster p).owned ≡ []

pub unowned : (roster : Roster) → HasOrderlyOwners roster → IsUnowned roster
unowned roster orderly p n is = (orderly.waiters p n is).without

-- two changes, one after the other, in truth values
pass_both : (lost one told more waits after : Bool) (d0 d1 d2 : ℕ) → (after ≡ true → waits ≡ true)
    → (told ≡ false → lost ≡ false → after ≡ waits) → (lost ≡ true → after ≡ false)
    → d1 ≡ (if lost then 0 else if told && waits then 1 else d0)
    → d2 ≡ (if one then 0 else if more && after then 1 else d1)
    → d2 ≡ (if lost || one then 0 else if (told || more) && waits then 1 else d0)
pass_both true true told more waits after d0 d1 d2 a b c e f = f
pass_both true false told true waits true d0 d1 d2 a b c e f = let clash : true ≡ false = c refl in cc
pass_both true false told true waits false d0 d1 d2 a b c e f = f ∙ e
pass_both true false told false waits after d0 d1 d2 a b c e f = f ∙ e
pass_both false true told more waits after d0 d1 d2 a b c e f = f
pass_both false false true true true true d0 d1 d2 a b c e f = f
pass_both false false true true true false d0 d1 d2 a b c e f = f ∙ e
pass_both false false true false true after d0 d1 d2 a b c e f = f ∙ e
pass_both false false true more false true d0 d1 d2 a b c e f = let clash : false ≡ true = a refl in cc
pass_both false false true true false false d0 d1 d2 a b c e f = f ∙ e
pass_both false false true false false false d0 d1 d2 a b c e f = f ∙ e
pass_both false false false more true false d0 d1 d2 a b c e f = let clash : false ≡ true = b refl refl in cc
pass_both false false false true true true d0 d1 d2 a b c e f = f
pass_both false false false false true true d0 d1 d2 a b c e f = f ∙ e
pass_both false false false more false true d0 d1 d2 a b c e f = let clash : false ≡ true = a refl in cc
pass_both false false false true false false d0 d1 d2 a b c e f = f ∙ e
pass_both false false false false false false d0 d1 d2 a b c e f = f ∙ e

module _ (m : ℕ) where
  -- the depth at which process s owns the mutex, or 0
  abbrev pub depth_in : Record → ℕ
  depth_in r = depth_of (holding_of m r.owned)

  abbrev pub depth_at : Roster → ℕ → ℕ
  depth_at roster s = depth_in (record_at roster s)

  -- the wait is for the mutex
  abbrev pub is_for_it : Option Wait → Bool
  is_for_it (Some (Mutex n)) = n == m
  is_for_it _ = false

  abbrev pub waits_at : Roster → ℕ → Bool
  waits_at roster s = is_for_it (record_at roster s).wait

  -- a lost process owns it no longer, one that is woken with NO_ERROR while it waits for it owns it at
  -- depth 1, and any other goes on as before; no process begins to wait for it, and one that is neither
  -- lost nor woken still waits
  pub record Passes (lost : ℕ → Bool) (old new : Roster) (told : List Notice) : Type 0 where
    pub depth : (s : ℕ) → depth_at new s ≡ (if lost s then 0 else if wakes s told && waits_at old s then 1 else depth_at old s)
    pub before : (s : ℕ) → waits_at new s ≡ true → waits_at old s ≡ true
    pub still : (s : ℕ) → wakes s told ≡ false → lost s ≡ false → waits_at new s ≡ waits_at old s
    pub gone : (s : ℕ) → lost s ≡ true → waits_at new s ≡ false

  pub passes_none : (roster : Roster) → Passes (λ s. false) roster roster []
  passes_none roster = record { depth = λ s. refl; before = λ s h. h; still = λ s _ _. refl; gone = λ s h. absurd (both_ways false refl h) }

  pub passes_then : {lost one : ℕ → Bool} {first second third : Roster} {told more : List Notice} → Passes lost first second told
      → Passes one second third more → Passes (λ s. lost s || one s) first third (told ++ more)
  passes_then {lost} {one} {first} {second} {third} {told} {more} f g = record {
    depth = λ s.
        rw (list_any-append (is_waking s) told more)
        (pass_both (lost s) (one s) (wakes s told) (wakes s more) (waits_at first s) (waits_at second s) (depth_at first s) (depth_at second s)
        (depth_at third s) (f.before s) (f.still s) (f.gone s) (f.depth s) (g.depth s));
    before = λ s h. f.before s (g.before s h);
    still = λ s quiet kept.
        let woken = neither (wakes s told) (wakes s more) (sym (list_any-append (is_waking s) told more) ∙ quiet) in
        let stays = neither (lost s) (one s) kept in
        g.still s woken.1 stays.1 ∙ f.still s woken.0 stays.0;
    gone = λ s h. elim (cases_lost (lost s) (one s) h) [
      | inl e ↦ gone_still s (f.gone s e)
      | inr e ↦ g.gone s e
    ];
  } where
    cases_lost : (a b : Bool) → (a || b) ≡ true → (a ≡ true) ⊎ (b ≡ true)
    cases_lost true b h = inl refl
    cases_lost false b h = inr h

    gone_still : (s : ℕ) → waits_at second s ≡ false → waits_at third s ≡ false
    gone_still s e = by (waits_at third s) refl where
      by : (b : Bool) → waits_at third s ≡ b → b ≡ false
      by true h = absurd (both_ways _ e (g.before s h))
      by false h = refl

  pub passes_as : {lost one : ℕ → Bool} {old new : Roster} {told more : List Notice} → ((s : ℕ) → lost s ≡ one s)
      → ((s : ℕ) → wakes s told ≡ wakes s more) → Passes lost old new told → Passes one old new more
  passes_as same woken f = record {
    depth = λ s. rw (← same s, ← woken s) (f.depth s);
    before = f.before;
    still = λ s quiet kept. f.still s (woken s ∙ quiet) (same s ∙ kept);
    gone = λ s h. f.gone s (same s ∙ h);
  }

  -- a change of one record that keeps what it owns and waits for
  abbrev IsSame : Record → Record → Type 0
  IsSame r s = (s.owned ≡ r.owned) × (s.wait ≡ r.wait)

  passes_same : (old new : Roster) → ((s : ℕ) → IsSame (record_at old s) (record_at new s)) → Passes (λ s. false) old new []
  passes_same old new same = record {
    depth = λ s. ap (λ owned. depth_of (holding_of m owned)) (same s).0;
    before = λ s h. sym (ap is_for_it (same s).1) ∙ h;
    still = λ s _ _. ap is_for_it (same s).1;
    gone = λ s h. absurd (both_ways false refl h);
  }

  -- the mutex of a holding that no process has goes to its first waiter
  module _ (roster : Roster) (holding : Holding) where
    abbrev heir : ℕ → Record
    heir q = awake (record (record_at roster q) { owned = record holding { depth = 1 } ∷ [] })

    abbrev own : ℕ → List Notice
    own q = Woken q NoError ∷ []

    fresh_depth : (b : Bool) → depth_of (cond b (Some (record holding { depth = 1 })) None) ≡ (if b then 1 else 0)
    fresh_depth true = refl
    fresh_depth false = refl

    abbrev Deepens : ℕ → ℕ → Type 0
    Deepens q s = depth_at (readied roster q (heir q)) s ≡ (if wakes s (own q) && waits_at roster s then 1 else depth_at roster s)

    deep : (q : ℕ) → (record_at roster q).wait ≡ Some (Mutex holding.mutex) → IsUnowned roster
        → depth_at (readied roster q (heir q)) q ≡ depth_of (cond (holding.mutex == m) (Some (record holding { depth = 1 })) None)
        → Deepens q q
    deep q waits free is =
        let none : depth_at roster q ≡ 0 = ap (λ owned. depth_of (holding_of m owned)) (free q holding.mutex waits) in
        rw (eq-eqb q q refl, waits, none) (is ∙ fresh_depth (holding.mutex == m))

    passes_to : (found : Option ℕ) → first_waiter roster (queues.Mutex holding.mutex) ≡ found → IsUnowned roster
        → Passes (λ s. false) roster (hand_to roster holding found).roster (hand_to roster holding found).notices
    passes_to None is free = passes_none roster
    passes_to (Some q) is free =
        let queue = queues.Mutex holding.mutex in
        let has = replaces_readied roster q (first_within roster queue q is) (heir q) refl in
        let waits = mutex_wait (record_at roster q).wait holding.mutex (first_stands roster queue q is) in
        let here : waits_at (readied roster q (heir q)) q ≡ false = ap (λ (x : Record). is_for_it x.wait) has.here in
        record {
          depth = λ s. elim (cases_eq s q) [
            | inl e ↦ subst (Deepens q) (sym e) (deep q waits free (ap depth_in has.here))
            | inr apart ↦ rw (ne_eqb s q apart) (ap depth_in (has.others s apart))
          ];
          before = λ s h. elim (cases_eq s q) [
            | inl e ↦ absurd (both_ways _ (ap (waits_at (readied roster q (heir q))) e ∙ here) h)
            | inr apart ↦ sym (ap (λ (x : Record). is_for_it x.wait) (has.others s apart)) ∙ h
          ];
          still = λ s quiet _. elim (cases_eq s q) [
            | inl e ↦ absurd (both_ways _ quiet (rw (eq-eqb s q e) refl))
            | inr apart ↦ ap (λ (x : Record). is_for_it x.wait) (has.others s apart)
          ];
          gone = λ s h. absurd (both_ways false refl h);
        }

    pub passes_hand_over : IsUnowned roster → Passes (λ s. false) roster (hand_over roster holding).roster (hand_over roster holding).notices
    passes_hand_over = passes_to (first_waiter roster (queues.Mutex holding.mutex)) refl

    unowned_to : (found : Option ℕ) → first_waiter roster (queues.Mutex holding.mutex) ≡ found → IsUnowned roster
        → IsUnowned (hand_to roster holding found).roster
    unowned_to None is free p n waits = free p n waits
    unowned_to (Some q) is free p n waits =
        let has = replaces_readied roster q (first_within roster (queues.Mutex holding.mutex) q is) (heir q) refl in
        elim (cases_eq p q) [
          | inl e ↦
              let none : None ≡ Some (Mutex n) =
              sym (ap (λ (x : Record). x.wait) has.here) ∙ sym (ap (λ (k : ℕ). (record_at (readied roster q (heir q)) k).wait) e) ∙ waits in
              absurd (none-some (Mutex n) none)
          | inr apart ↦
              ap (λ (x : Record). x.owned) (has.others p apart)
              ∙ free p n (sym (ap (λ (x : Record). x.wait) (has.others p apart)) ∙ waits)
        ]

    pub unowned_hand_over : IsUnowned roster → IsUnowned (hand_over roster holding).roster
    unowned_hand_over = unowned_to (first_waiter roster (queues.Mutex holding.mutex)) refl

  -- mutexes that no process owns go on one after the other
  passes_hand_on : (held : List Holding) (roster : Roster) → IsUnowned roster
      → Passes (λ s. false) roster (hand_on held roster).roster (hand_on held roster).notices
  passes_hand_on [] roster free = passes_none roster
  passes_hand_on (holding ∷ held) roster free =
      let after = hand_over roster holding in
      passes_then (passes_hand_over roster holding free)
      (passes_hand_on held after.roster (unowned_hand_over roster holding free))

  unowned_hand_on : (held : List Holding) (roster : Roster) → IsUnowned roster → IsUnowned (hand_on held roster).roster
  unowned_hand_on [] roster free = free
  unowned_hand_on (holding ∷ held) roster free =
      unowned_hand_on held (hand_over roster holding).roster (unowned_hand_over roster holding free)

  -- process p is stopped, and the mutexes that it owned go on
  module _ (roster : Roster) (p : ℕ) where
    abbrev left : Roster
    left = stop roster p

    -- a process past the end owns and waits for nothing either
    stopped_at : (s : ℕ) → s ≡ p → (depth_at left s ≡ 0) × (waits_at left s ≡ false)
    stopped_at s e = elim (cases_lt p (length roster.records)) [
      | inl within ↦
          let at_p : record_at left s ≡ stopped (record_at roster p) =
          get_or-set_at roster.records p s (stopped (record_at roster p)) nobody e within in
          (ap depth_in at_p, ap (λ (x : Record). is_for_it x.wait) at_p)
      | inr past ↦
          let many = length-set roster.records p (stopped (record_at roster p)) in
          let none : record_at left s ≡ nobody = get_or_past left.records s nobody (omega (arith, past, e, many)) in
          (ap depth_in none, ap (λ (x : Record). is_for_it x.wait) none)
    ]

    others_stay : (s : ℕ) → s ≢ p → record_at left s ≡ record_at roster s
    others_stay s apart = get_or-set_other roster.records p s (stopped (record_at roster p)) nobody apart

    passes_stop : Passes (λ s. s == p) roster left []
    passes_stop = record {
      depth = λ s. elim (cases_eq s p) [
        | inl e ↦ rw (eq-eqb s p e) (stopped_at s e).0
        | inr apart ↦ rw (ne_eqb s p apart) (ap depth_in (others_stay s apart))
      ];
      before = λ s h. elim (cases_eq s p) [
        | inl e ↦ absurd (both_ways _ (stopped_at s e).1 h)
        | inr apart ↦ sym (ap (λ (x : Record). is_for_it x.wait) (others_stay s apart)) ∙ h
      ];
      still = λ s _ kept. elim (cases_eq s p) [
        | inl e ↦ absurd (both_ways _ kept (eq-eqb s p e))
        | inr apart ↦ ap (λ (x : Record). is_for_it x.wait) (others_stay s apart)
      ];
      gone = λ s h. (stopped_at s (eqb-true s p h)).1;
    }

    unowned_stop : IsUnowned roster → IsUnowned left
    unowned_stop free =
        let P = λ (r s : Record). ((n : ℕ) → r.wait ≡ Some (Mutex n) → r.owned ≡ []) → (n : ℕ) → s.wait ≡ Some (Mutex n) → s.owned ≡ [] in
        λ q. record_then P (λ _ h. h) roster left p (stopped (record_at roster p)) refl (λ _ n _. refl) q (free q)

    pub passes_halted : IsUnowned roster → Passes (λ s. s == p || false) roster (halted roster p).roster (halted roster p).notices
    passes_halted free =
        passes_then passes_stop (passes_hand_on (in_order (record_at roster p).owned) left (unowned_stop free))

    pub unowned_halted : IsUnowned roster → IsUnowned (halted roster p).roster
    unowned_halted free = unowned_hand_on (in_order (record_at roster p).owned) left (unowned_stop free)

  -- a HARD miss of process s among the notices
  abbrev pub misses : ℕ → List Notice → Bool
  misses s told = list_any (is_hard_miss_of s) told

  pub none_to : (roster : Roster) (holding : Holding) (found : Option ℕ) (s : ℕ) → misses s (hand_to roster holding found).notices ≡ false
  none_to roster holding None s = refl
  none_to roster holding (Some q) s = refl

  none_missed : (held : List Holding) (roster : Roster) (s : ℕ) → misses s (hand_on held roster).notices ≡ false
  none_missed [] roster s = refl
  none_missed (holding ∷ held) roster s =
      let after = hand_over roster holding in
      list_any-append (is_hard_miss_of s) after.notices (hand_on held after.roster).notices
      ∙ or_from _ _ (none_to roster holding (first_waiter roster (queues.Mutex holding.mutex)) s) (none_missed held after.roster s)

  pub none_halted : (roster : Roster) (p s : ℕ) → misses s (halted roster p).notices ≡ false
  none_halted roster p s = none_missed (in_order (record_at roster p).owned) (stop roster p) s

  unowned_same : (old new : Roster) → ((s : ℕ) → IsSame (record_at old s) (record_at new s)) → IsUnowned old → IsUnowned new
  unowned_same old new same free p n waits = (same p).0 ∙ free p n (sym (same p).1 ∙ waits)

  -- a miss
  module _ (roster : Roster) (p : ℕ) (free : IsUnowned roster) where
    abbrev cleared : Roster
    cleared = set_deadline roster p None

    cleared_same : (s : ℕ) → IsSame (record_at roster s) (record_at cleared s)
    cleared_same =
        let r : Record = record (record_at roster p) { deadline = None } in
        record_then IsSame (λ x. (refl, refl)) roster cleared p r refl (refl, refl)

    free_cleared : IsUnowned cleared
    free_cleared = unowned_same roster cleared cleared_same free

    abbrev PassesBy : DeadlineType → Type 0
    PassesBy kind =
        Passes (λ s. misses s (Missed p kind ∷ (miss cleared p kind).notices)) roster (miss cleared p kind).roster
        (Missed p kind ∷ (miss cleared p kind).notices)

    passes_kind : (kind : DeadlineType) → PassesBy kind
    passes_kind Soft = passes_as (λ s. refl) (λ s. refl) (passes_same roster cleared cleared_same)
    passes_kind Hard =
        passes_as (λ s. rw (none_halted cleared p s) refl) (λ s. refl)
        (passes_then (passes_same roster cleared cleared_same) (passes_halted cleared p free_cleared))

    passes_missed : Passes (λ s. misses s (serve_missed roster p).notices) roster (serve_missed roster p).roster (serve_missed roster p).notices
    passes_missed = passes_kind (record_at roster p).attributes.deadline

    unowned_kind : (kind : DeadlineType) → IsUnowned (miss cleared p kind).roster
    unowned_kind Soft = free_cleared
    unowned_kind Hard = unowned_halted cleared p free_cleared

    unowned_missed : IsUnowned (serve_missed roster p).roster
    unowned_missed = unowned_kind (record_at roster p).attributes.deadline

  -- all deadlines at an instant
  abbrev PassesUnowned : Roster → Roster → List Notice → Type 0
  PassesUnowned old new told = IsUnowned new × Passes (λ s. misses s told) old new told

  pub passes_deadlines : (roster : Roster) → IsUnowned roster
      → Passes (λ s. misses s (serve_deadlines roster).notices) roster (serve_deadlines roster).roster (serve_deadlines roster).notices
  passes_deadlines roster free =
      (holds_in_turn first_missed serve_missed (PassesUnowned roster)
      (λ r told p is holds. (
        unowned_missed r p holds.0,
        passes_as (λ s. sym (list_any-append (is_hard_miss_of s) told (serve_missed r p).notices)) (λ s. refl)
            (passes_then holds.1 (passes_missed r p holds.0)),
      ))
      (length roster.records) roster [] (free, passes_none roster)).1

  -- the owners stay as they are, no process begins to wait for a mutex, one that is woken with NO_ERROR
  -- waited for time, and no deadline is missed
  pub record Keeps (old new : Roster) (told : List Notice) : Type 0 where
    pub depth : (s : ℕ) → depth_at new s ≡ depth_at old s
    pub frees : Frees old new
    pub woken : (s : ℕ) → wakes s told ≡ true → awaited (record_at old s) ≡ Some wait.Time
    pub kept : (s : ℕ) → misses s told ≡ false

  keeps_then : {old roster new : Roster} {told more : List Notice} → Keeps old roster told → Keeps roster new more → Keeps old new (told ++ more)
  keeps_then {old} {roster} {new} {told} {more} f g = record {
    depth = λ s. g.depth s ∙ f.depth s;
    frees = frees_then f.frees g.frees;
    woken = λ s h. elim (cases_Bool (wakes s told)) [
      | inl earlier ↦ f.woken s earlier
      | inr later ↦ f.frees.still s wait.Time (g.woken s (rw (list_any-append (is_waking s) told more, later) at h))
    ];
    kept = λ s. list_any-append (is_hard_miss_of s) told more ∙ or_from _ _ (f.kept s) (g.kept s);
  }

  pub owned_readied : (roster : Roster) (p : ℕ) (r : Record) → r.owned ≡ (record_at roster p).owned → (s : ℕ)
      → depth_at (readied roster p r) s ≡ depth_at roster s
  owned_readied roster p r same =
      let is = ap (λ owned. depth_of (holding_of m owned)) same in
      cond_both {A = Roster} (is_eligible roster.mode r) (newest roster p r) (with_record roster p r)
      (λ (new : Roster). (s : ℕ) → depth_at new s ≡ depth_at roster s)
      (λ _. record_then (λ x y. depth_in y ≡ depth_in x) (λ _. refl) roster (newest roster p r) p (record r { since = roster.young }) refl is)
      (λ _. record_then (λ x y. depth_in y ≡ depth_in x) (λ _. refl) roster (with_record roster p r) p r refl is)

  -- a wait that ends at its due
  module _ (roster : Roster) (p : ℕ) where
    keeps_undue : Keeps roster (without_due roster p) []
    keeps_undue =
        let r : Record = record (record_at roster p) { due = None } in
        record {
          depth = record_then (λ x y. depth_in y ≡ depth_in x) (λ _. refl) roster (without_due roster p) p r refl refl;
          frees = frees_moved roster (without_due roster p) p r refl (λ w h. h);
          woken = λ s h. absurd (both_ways false refl h);
          kept = λ s. refl;
        }

    keeps_over : (w : Option Wait) → (record_at roster p).wait ≡ w → Keeps roster (wait_over roster p w).roster (wait_over roster p w).notices
    keeps_over (Some wait.Time) is = record {
      depth = owned_readied roster p (awake (record_at roster p)) refl;
      frees = frees_unblock roster p;
      woken = λ s h. rw (woken_alone s p h, is) refl;
      kept = λ s. refl;
    }
    keeps_over (Some wait.Start) is = record {
      depth = owned_readied roster p (released_at roster.now (record_at roster p)) refl;
      frees = frees_release roster p;
      woken = λ s h. absurd (both_ways false refl h);
      kept = λ s. refl;
    }
    keeps_over (Some wait.Period) is = record {
      depth = owned_readied roster p (released_at roster.now (record_at roster p)) refl;
      frees = frees_release roster p;
      woken = λ s h. absurd (both_ways false refl h);
      kept = λ s. refl;
    }
    keeps_over _ is = record {
      depth = owned_readied roster p (awake (record_at roster p)) refl;
      frees = frees_unblock roster p;
      woken = λ s h. absurd (both_ways _ (rw (and_false (s == p)) refl) h);
      kept = λ s. refl;
    }

  keeps_due : (roster : Roster) (p : ℕ) → Keeps roster (serve_due roster p).roster (serve_due roster p).notices
  keeps_due roster p =
      keeps_then (keeps_undue roster p)
      (keeps_over (without_due roster p) p (record_at roster p).wait (undue_waits roster p)) where
        undue_waits : (roster : Roster) (p : ℕ) → (record_at (without_due roster p) p).wait ≡ (record_at roster p).wait
        undue_waits roster p =
            let r : Record = record (record_at roster p) { due = None } in
            record_then (λ x y. y.wait ≡ x.wait) (λ _. refl) roster (without_due roster p) p r refl refl p

  pub keeps_dues : (roster : Roster) → Keeps roster (serve_dues roster).roster (serve_dues roster).notices
  keeps_dues roster =
      holds_in_turn first_due serve_due (Keeps roster) (λ r told p is holds. keeps_then holds (keeps_due r p)) (length roster.records) roster []
      (record { depth = λ s. refl; frees = frees_none roster; woken = λ s h. absurd (both_ways false refl h); kept = λ s. refl })
