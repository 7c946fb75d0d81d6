-- Each change of a process, and the lists: the process goes to its place as the newest there, or as
-- the oldest, or keeps its place.
use Rattle.std.proofs.Common.{◌≡◌, ◌≢◌, ℕ, ◌+◌, ◌<◌, Bool, true, false, not, is_some, is_none, ◌&&◌, ◌||◌, List, [], ◌∷◌, Option, None, Some, length, inl, inr, refl, ap, sym, ◌∙◌, arith}
use Rattle.std.proofs.lemmas.Bool.{and_parts, cases_Bool, cond_both, eqb-true, false≢true}
use Rattle.std.proofs.lemmas.Option.{none-some}
use Rattle.apex_machine.specs.declared.holdings.Holding.{Holding}
use Rattle.apex_types.specs.declared.calls.Message.{Message}
use Rattle.apex_types.specs.declared.modes.Mode.{Mode}
use Rattle.apex_machine.specs.declared.records.Record.{Record}
use Rattle.apex_machine.specs.declared.records.Wait.{Wait}
use Rattle.apex_machine.specs.declared.records.Suspender.TheVariants.{Other}
use Rattle.apex_machine.specs.declared.records.Wait.TheVariants.{Normal, Start}
use Rattle.apex_machine.specs.processes.Distinct.{IsStamped}
use Rattle.apex_machine.specs.processes.Owners.{owns_some}
use Rattle.apex_types.specs.Modes.{is_normal}
use Rattle.apex_machine.specs.processes.Roster.{Roster, record_at, with_record}
use Rattle.apex_machine.specs.processes.Running.{current_priority, is_eligible, IsEligible, IsIneligible}
use Rattle.apex_machine.specs.processes.Stamps as stamps
use Rattle.apex_machine.specs.processes.Waiters.{goes_by_priority, queue_in}
use Rattle.apex_machine.proofs.Replaces.{Replaces, each_stays, replaces_newest, replaces_oldest, replaces_readied, replaces_record}
use Rattle.apex_machine.proofs.Rosters.{at_record, at_newest}
use Rattle.apex_machine.proofs.DistinctStamps.{stamped_advance_to, stamped_set_mode}
use Rattle.apex_process.specs.Lists.{list_for, list_of}
use Rattle.apex_process.proofs.Places.{listed_waiting, no_queue}
use Rattle.apex_process.proofs.Starting.{start_cases}

-- process p alone has another record
pub record IsAlone (old new : Roster) (p : ℕ) : Type 0 where
  pub mode : new.mode ≡ old.mode
  pub disciplines : new.disciplines ≡ old.disciplines
  pub many : length new.records ≡ length old.records
  pub others : (q : ℕ) → q ≢ p → record_at new q ≡ record_at old q
  pub stamped : IsStamped new

alone_by : {most : ℕ} {old new : Roster} {p : ℕ} {r : Record} → Replaces most old new p r → IsStamped old → IsAlone old new p
alone_by has stamped =
    record { mode = has.mode; disciplines = has.disciplines; many = has.many; others = has.others; stamped = has.stamped stamped }

-- and the next stamp upwards if it has a list
pub record Renews (old new : Roster) (p : ℕ) : Type 0 where
  pub alone : IsAlone old new p
  pub newest : (l : ℕ) → list_of new p ≡ Some l → (record_at new p).since ≡ old.young

-- or, if it is eligible, the next stamp downwards
pub record Ages (old new : Roster) (p : ℕ) : Type 0 where
  pub alone : IsAlone old new p
  pub eligible : IsEligible new p
  pub oldest : (record_at new p).since ≡ old.old

-- a record with which a process keeps, in this mode, the place that it had with the other one
pub record IsLike (old : Roster) (mode : Mode) (r s : Record) : Type 0 where
  pub eligible : is_eligible mode r ≡ is_eligible old.mode s
  pub queue : queue_in r ≡ queue_in s
  pub since : r.since ≡ s.since
  pub core : is_eligible old.mode s ≡ true → r.core ≡ s.core
  pub priority : is_eligible old.mode s ≡ true → current_priority r ≡ current_priority s
  pub rank : goes_by_priority old (queue_in s) ≡ true → current_priority r ≡ current_priority s

like_itself : (old : Roster) (s : Record) → IsLike old old.mode s s
like_itself old s = record { eligible = refl; queue = refl; since = refl; core = λ _. refl; priority = λ _. refl; rank = λ _. refl }

-- process q keeps its place
abbrev pub AreAlike : Roster → Roster → ℕ → Type 0
AreAlike old new q = IsLike old new.mode (record_at new q) (record_at old q)

-- no process's place changes
pub record Keeps (old new : Roster) : Type 0 where
  pub disciplines : new.disciplines ≡ old.disciplines
  pub many : length new.records ≡ length old.records
  pub stamped : IsStamped new
  pub alike : (q : ℕ) → AreAlike old new q

-- a process that is not eligible and waits for nothing has no list
pub listed_none : (mode : Mode) (r : Record) → is_eligible mode r ≡ false → r.wait ≡ None → list_for mode r ≡ None
listed_none mode r out e = rw (listed_waiting mode r out, e) refl

stopped_out : (mode : Mode) (r : Record) → is_eligible mode (stamps.stopped r) ≡ false
stopped_out mode r = grind arith

suspended_out : (mode : Mode) (r : Record) → is_eligible mode (record r { suspended = Some Other }) ≡ false
suspended_out mode r = grind arith

self_suspended_out : (mode : Mode) (r : Record) (due : Option ℕ) → is_eligible mode (stamps.self_suspended r due) ≡ false
self_suspended_out mode r due = grind arith

pub none_read : (o : Option Wait) (found : Bool) → is_some o ≡ not found → is_none o ≡ found
none_read None true e = refl
none_read None false e = absurd (false≢true e)
none_read (Some w) true e = absurd (false≢true (sym e))
none_read (Some w) false e = refl

none_from : (o : Option Wait) → is_none o ≡ true → o ≡ None
none_from None e = refl
none_from (Some w) e = absurd (false≢true e)

module _ (old : Roster) (p : ℕ) (known : p < length old.records) (stamped : IsStamped old) where
  pub renews_newest : (r : Record) → Renews old (stamps.newest old p r) p
  renews_newest r = record {
    alone = alone_by (replaces_newest old p known r) stamped;
    newest = λ l _. ap (λ (s : Record). s.since) (at_newest old p known r);
  }

  pub renews_out : (r : Record) → r.since ≡ (record_at old p).since → list_for old.mode r ≡ None → Renews old (with_record old p r) p
  renews_out r same none = record {
    alone = alone_by (replaces_record old p known r same 0) stamped;
    newest = λ l e. absurd (none-some l (sym none ∙ rw (at_record old p known r) at e));
  }

  pub renews_readied : (r : Record) → r.since ≡ (record_at old p).since → r.wait ≡ None → Renews old (stamps.readied old p r) p
  renews_readied r same none = cond_both {A = Roster} (is_eligible old.mode r) _ _ (λ new. Renews old new p) (λ _. renews_newest r) (λ out. renews_out r same (listed_none old.mode r out none))

  pub ages_oldest : (r : Record) → is_eligible old.mode r ≡ true → Ages old (stamps.oldest old p r) p
  ages_oldest r eligible =
      let here = at_record old p known (record r { since = old.old }) in
      record {
        alone = alone_by (replaces_oldest old p known r) stamped;
        eligible = ap (λ (s : Record). is_eligible old.mode s) here ∙ eligible;
        oldest = ap (λ (s : Record). s.since) here;
      }

  -- a record that is alike keeps the place
  pub keeps_record : (r : Record) → IsLike old old.mode r (record_at old p) → Keeps old (with_record old p r)
  keeps_record r like =
      let has = replaces_record old p known r like.since 0 in
      record {
        disciplines = refl;
        many = has.many;
        stamped = has.stamped stamped;
        alike = each_stays has (λ s t. IsLike old old.mode t s) (like_itself old) (record {
          eligible = like.eligible;
          queue = like.queue;
          since = sym (ap (λ (s : Record). s.since) has.here) ∙ ap (λ (s : Record). s.since) (at_record old p known r) ∙ like.since;
          core = like.core;
          priority = like.priority;
          rank = like.rank;
        });
      }

  pub keeps_deadline : (deadline : Option ℕ) → Keeps old (stamps.set_deadline old p deadline)
  keeps_deadline deadline = keeps_record (record (record_at old p) { deadline = deadline }) (record { eligible = refl; queue = refl; since = refl; core = λ _. refl; priority = λ _. refl; rank = λ _. refl })

  pub keeps_due : Keeps old (stamps.without_due old p)
  keeps_due = keeps_record (record (record_at old p) { due = None }) (record { eligible = refl; queue = refl; since = refl; core = λ _. refl; priority = λ _. refl; rank = λ _. refl })

  pub keeps_step : (step : ℕ) → Keeps old (stamps.set_step old p step)
  keeps_step step = keeps_record (record (record_at old p) { step = step }) (record { eligible = refl; queue = refl; since = refl; core = λ _. refl; priority = λ _. refl; rank = λ _. refl })

  pub keeps_message : (message : Message) → Keeps old (stamps.receive old p message)
  keeps_message message = keeps_record (record (record_at old p) { inbox = Some message }) (record { eligible = refl; queue = refl; since = refl; core = λ _. refl; priority = λ _. refl; rank = λ _. refl })

  pub keeps_core : (core : ℕ) → IsIneligible old p → Keeps old (stamps.set_core old p core)
  keeps_core core out = keeps_record (record (record_at old p) { core = core }) (record { eligible = refl; queue = refl; since = refl; core = λ e. absurd (false≢true (sym out ∙ e)); priority = λ _. refl; rank = λ _. refl })

  pub keeps_suspend : IsIneligible old p → Keeps old (stamps.suspend old p)
  keeps_suspend out = keeps_record (record (record_at old p) { suspended = Some Other })
      (record { eligible = suspended_out old.mode (record_at old p) ∙ sym out; queue = refl; since = refl; core = λ _. refl; priority = λ _. refl; rank = λ _. refl })

  no_list_suspended : IsEligible old p → list_for old.mode (record (record_at old p) { suspended = Some Other }) ≡ None
  no_list_suspended eligible = listed_waiting old.mode (record (record_at old p) { suspended = Some Other }) (suspended_out old.mode (record_at old p)) ∙ rw (no_queue old.mode (record_at old p) eligible) refl

  pub renews_suspend : IsEligible old p → Renews old (stamps.suspend old p) p
  renews_suspend eligible = renews_out (record (record_at old p) { suspended = Some Other }) refl (no_list_suspended eligible)

  pub none_suspend : IsEligible old p → list_of (stamps.suspend old p) p ≡ None
  none_suspend eligible = rw (at_record old p known (record (record_at old p) { suspended = Some Other })) (no_list_suspended eligible)

  pub renews_stop : Renews old (stamps.stop old p) p
  renews_stop = renews_out (stamps.stopped (record_at old p)) refl (listed_none old.mode (stamps.stopped (record_at old p)) (stopped_out old.mode (record_at old p)) refl)

  pub none_stop : list_of (stamps.stop old p) p ≡ None
  none_stop = rw (at_record old p known (stamps.stopped (record_at old p))) (listed_none old.mode (stamps.stopped (record_at old p)) (stopped_out old.mode (record_at old p)) refl)

  pub renews_suspend_self : (due : Option ℕ) → Renews old (stamps.suspend_self old p due) p
  renews_suspend_self due = renews_newest (stamps.self_suspended (record_at old p) due)

  pub none_suspend_self : (due : Option ℕ) → list_of (stamps.suspend_self old p due) p ≡ None
  none_suspend_self due = rw (at_newest old p known (stamps.self_suspended (record_at old p) due))
      (listed_none old.mode (record (stamps.self_suspended (record_at old p) due) { since = old.young }) (self_suspended_out old.mode (record (record_at old p) { since = old.young }) due) refl)

  pub renews_block : (wait : Wait) (due : Option ℕ) → Renews old (stamps.block old p wait due) p
  renews_block wait due = renews_newest (stamps.waiting (record_at old p) wait due)

  pub renews_unblock : Renews old (stamps.unblock old p) p
  renews_unblock = renews_readied (stamps.awake (record_at old p)) refl refl

  pub renews_release : Renews old (stamps.release old p) p
  renews_release = renews_readied (stamps.released_at old.now (record_at old p)) refl refl

  pub renews_inherit : (holding : Holding) → Renews old (stamps.inherit old p holding) p
  renews_inherit holding = renews_readied (stamps.awake (record (record_at old p) { owned = holding ∷ [] })) refl refl

  pub renews_place_newest : Renews old (stamps.place_newest old p) p
  renews_place_newest = renews_newest (record_at old p)

  -- a process whose suspension ends: one that waits for nothing then goes to its place, and a
  -- waiter keeps its own
  abbrev free : Record
  free = stamps.unsuspended (record_at old p)

  pub renews_resume : is_none (record_at (stamps.resume old p) p).wait ≡ true → Renews old (stamps.resume old p) p
  renews_resume = cond_both {A = Roster} (stamps.is_by_itself (record_at old p).suspended) _ _ (λ new. is_none (record_at new p).wait ≡ true → Renews old new p)
      (λ _ _. renews_unblock)
      (λ _. cond_both {A = Roster} (is_eligible old.mode free) _ _ (λ new. is_none (record_at new p).wait ≡ true → Renews old new p)
      (λ _ _. renews_newest free)
      (λ out none. renews_out free refl (listed_none old.mode free out (none_from (record_at old p).wait (rw (at_record old p known free) at none)))))

  woken_waitless : (r : Record) → r.since ≡ (record_at old p).since → r.wait ≡ None → (record_at (stamps.readied old p r) p).wait ≡ None
  woken_waitless r same none = ap (λ (s : Record). s.wait) (replaces_readied old p known r same).here ∙ none

  waiter_out : is_none (record_at old p).wait ≡ false → is_eligible old.mode (record_at old p) ≡ false
  waiter_out waits = grind (arith, waits)

  pub keeps_resume : is_none (record_at (stamps.resume old p) p).wait ≡ false → Keeps old (stamps.resume old p)
  keeps_resume = cond_both {A = Roster} (stamps.is_by_itself (record_at old p).suspended) _ _ (λ new. is_none (record_at new p).wait ≡ false → Keeps old new)
      (λ _ waits. absurd (false≢true (sym waits ∙ rw (woken_waitless (stamps.awake (record_at old p)) refl refl) refl)))
      (λ _. cond_both {A = Roster} (is_eligible old.mode free) _ _ (λ new. is_none (record_at new p).wait ≡ false → Keeps old new)
      (λ e waits. absurd (false≢true (sym waits ∙ rw (at_newest old p known free) (and_parts _ _ e).1)))
      (λ out waits. keeps_record free (record {
        eligible = out ∙ sym (waiter_out (rw (at_record old p known free) at waits));
        queue = refl;
        since = refl;
        core = λ _. refl;
        priority = λ _. refl;
        rank = λ _. refl;
      })))

pub renews_start : (old : Roster) (p delay : ℕ) → p < length old.records → IsStamped old → Renews old (stamps.start old p delay) p
renews_start old p delay known stamped =
    let r = stamps.reset (record_at old p) in
    start_cases old p known delay (λ new. Renews old new p)
    (λ _. renews_readied old p known stamped (stamps.released_at old.now r) refl refl)
    (λ _. renews_newest old p known stamped (stamps.waiting r Start (Some (old.now + delay))))
    (renews_newest old p known stamped (stamps.waiting r (Normal delay) None))

-- no process's place changes with the time
pub keeps_time : (old : Roster) (t : ℕ) → IsStamped old → Keeps old (stamps.advance_to old t)
keeps_time old t stamped = record {
  disciplines = refl;
  many = refl;
  stamped = stamped_advance_to old stamped t;
  alike = λ q. like_itself old (record_at old q);
}

-- a new base priority: a process that is eligible or waits by priority goes to its place, but for
-- an owner of a mutex whose current priority stays
module _ (old : Roster) (p base : ℕ) (known : p < length old.records) (stamped : IsStamped old) where
  abbrev changed : Record
  changed = record (record_at old p) { base = base }

  abbrev moves : Bool
  moves = (is_eligible old.mode (record_at old p) && not (owns_some (record_at old p) && stamps.is_level changed (record_at old p)))
      || goes_by_priority old (queue_in (record_at old p))

  pub renews_priority : moves ≡ true → Renews old (stamps.set_priority old p base) p
  renews_priority e = rw e (renews_newest old p known stamped changed)

  pub keeps_priority : moves ≡ false → Keeps old (stamps.set_priority old p base)
  keeps_priority e = rw e (keeps_record old p known stamped changed (record {
    eligible = refl;
    queue = refl;
    since = refl;
    core = λ _. refl;
    priority = λ eligible. level (is_eligible old.mode (record_at old p)) (owns_some (record_at old p)) (goes_by_priority old (queue_in (record_at old p))) eligible e;
    rank = λ goes. absurd (false≢true (sym e ∙ rw goes (grind arith)));
  })) where
    level : (ready owner goes : Bool) → ready ≡ true → ((ready && not (owner && stamps.is_level changed (record_at old p))) || goes) ≡ false
        → current_priority changed ≡ current_priority (record_at old p)
    level ready owner goes is f = eqb-true _ _ (grind (arith, is, f))

-- a holding that does not change the current priority keeps the process's place; with any other the
-- process goes before all others
module _ (old : Roster) (p : ℕ) (owned : List Holding) (known : p < length old.records) (stamped : IsStamped old) where
  abbrev owner : Record
  owner = record (record_at old p) { owned = owned }

  pub ages_own : IsEligible old p → stamps.is_level owner (record_at old p) ≡ false → Ages old (stamps.own old p owned) p
  ages_own eligible differs = rw differs (ages_oldest old p known stamped owner eligible)

  pub keeps_own : stamps.is_level owner (record_at old p) ≡ true → Keeps old (stamps.own old p owned)
  keeps_own still = rw still (keeps_record old p known stamped owner
      (record { eligible = refl; queue = refl; since = refl; core = λ _. refl; priority = λ _. eqb-true _ _ still; rank = λ _. eqb-true _ _ still }))

-- no process's place changes if none becomes eligible, and none stops being so
pub keeps_mode : (old : Roster) (mode : Mode) → IsStamped old → stamps.ReadiesNobody old mode → is_normal mode ≡ true → Keeps old (stamps.set_mode old mode)
keeps_mode old mode stamped nobody normal = record {
  disciplines = refl;
  many = refl;
  stamped = stamped_set_mode old stamped mode;
  alike = λ q. record { eligible = eligible_alike q; queue = refl; since = refl; core = λ _. refl; priority = λ _. refl; rank = λ _. refl };
} where
  in_normal : (q : ℕ) → is_eligible old.mode (record_at old q) ≡ true → is_eligible mode (record_at old q) ≡ true
  in_normal q e = grind (arith, normal, e)

  eligible_alike : (q : ℕ) → is_eligible mode (record_at old q) ≡ is_eligible old.mode (record_at old q)
  eligible_alike q = elim (cases_Bool (is_eligible mode (record_at old q))) [
    | inl e ↦ e ∙ sym (nobody q e)
    | inr e ↦ elim (cases_Bool (is_eligible old.mode (record_at old q))) [
      | inl f ↦ absurd (false≢true (sym e ∙ in_normal q f))
      | inr f ↦ e ∙ sym f
    ]
  ]
