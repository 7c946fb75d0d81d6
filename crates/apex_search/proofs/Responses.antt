-- The responses to which schedules lead, and those that a search finds.
use Rattle.std.proofs.Common.{◌≡◌, ℕ, suc, ◌+◌, ◌-◌, ◌*◌, ◌<◌, ◌≤◌, ◌^◌, ◌⊎◌, Bool, true, false, not, List, [], ◌∷◌, ◌++◌, length, length-append, min, Option, None, Some, option_map, inl, inr, refl, sym, ◌∙◌, ap, subst, arith, leb-true, le-leb}
use Rattle.std.specs.Prelude.{◌||◌, nat_le}
use Rattle.std.proofs.lemmas.Bool.{and_parts, cases_lt}
use Rattle.std.proofs.lemmas.Bool.Decides.{Decides-eqb}
use Rattle.std.proofs.lemmas.Option.{none-some, same_Some}
use Rattle.std.specs.List.{All}
use Rattle.std.specs.Option.{ForSome}
use Rattle.apex_alike.proofs.Chains.{unmoved}
use Rattle.apex_alike.specs.Alike.{AreAlike, IsLater, ServesAs, ServesFor}
use Rattle.apex_explore.specs.Searches.{room_of}
use Rattle.apex_explore.specs.declared.searches.Search.{Search}
use Rattle.apex_laws.specs.Laws.{OfEachTable}
use Rattle.apex_machine.specs.Deeds.{Deed}
use Rattle.apex_machine.specs.Events.{IsWithin}
use Rattle.apex_machine.specs.Situations.{deed}
use Rattle.apex_machine.specs.processes.Periods.{IsReleased, awaits_first}
use Rattle.apex_machine.specs.table.Table.{IsLawful}
use Rattle.apex_machine.specs.processes.Roster.{Roster, record_at}
use Rattle.apex_pace.specs.Laws.{IsPace}
use Rattle.apex_pace.specs.Pace.{KeepsPace, Paced, paced_opening, paced_run}
use Rattle.apex_recall.specs.Laws.{FormsReach}
use Rattle.apex_search.specs.Answers.{HasStates, IsRoomUsedUp, IsShortestSchedule, LeadsToFact, NoSchedule, NoScheduleWithin, schedule_of}
use Rattle.apex_search.specs.Census.{IsSearchOf}
use Rattle.apex_search.specs.Facts.{Shown, has_fact, has_one, is_age, is_blocked, is_periodic_wait, shown, shown_of}
use Rattle.apex_forms.specs.Forms.{canonical_paced}
use Rattle.apex_search.specs.Laws.{FormsStandFor}
use Rattle.apex_search.specs.Steps.{Searched}
use Rattle.apex_search.specs.Terms.{Call, Caller, Event, Notice, Question, Record, Reply}
use Rattle.apex_search.specs.Worst.{AllBelow, AllBelowWithin, EndsJob, HasResponseBeyond, IsFormAfter, IsJobOf, IsOverrun, IsSlower, IsSlowest, LeadsToResponse, above, last_job, responding}
use Rattle.apex_questions.specs.declared.Fact.TheVariants.{Response}
use Rattle.apex_search.specs.declared.systems.Workplace.{Workplace}
use Rattle.apex_search.specs.declared.worst.Job.{Job}
use Rattle.apex_search.specs.declared.worst.Slowest.{Slowest}
use Rattle.apex_search.proofs.Along.{HasForm, has_form, run_push}
use Rattle.apex_search.proofs.Narrower.{IsNarrower, search_narrower}
use Rattle.apex_types.specs.declared.calls.Call.TheVariants.{Time}
use Rattle.apex_types.specs.declared.calls.TimeCall.TheVariants.{PeriodicWait}
use Rattle.apex_types.specs.declared.entries.Caller.TheVariants as callers
use Rattle.apex_types.specs.declared.entries.Reply.TheVariants as replies

-- An entry that ends a job.

is_wait : (call : Option Call) → is_periodic_wait call ≡ true → call ≡ Some (Time PeriodicWait)
is_wait (Some (Time PeriodicWait)) e = refl
is_wait call e = cc

is_block : (reply : Reply) → is_blocked reply ≡ true → reply ≡ replies.Blocked
is_block replies.Blocked e = refl
is_block reply e = cc

is_not : (b : Bool) → not b ≡ true → b ≡ false
is_not false e = refl
is_not true e = cc

aged : (n age : ℕ) (period : Option ℕ) → is_age n period age ≡ true → (k : ℕ) × (period ≡ Some k) × (min n (k + 1) ≤ age)
aged n age None e = cc
aged n age (Some k) e = (k, refl, leb-true (min n (k + 1)) age e)

one_of : (b : Bool) → (b || false) ≡ true → b ≡ true
one_of true e = refl
one_of false e = e

abbrev asked_for : ℕ → ℕ → Question
asked_for p least = record { facts = Response least ∷ []; process = Some p; service = None }

-- the entry has the fact that is asked for
record IsAsked (p least : ℕ) (entry : Shown) : Type 0 where
  caller : entry.caller ≡ callers.Process p
  call : entry.call ≡ Some (Time PeriodicWait)
  reply : entry.reply ≡ replies.Blocked
  released : IsReleased (record_at entry.roster p)
  period : ℕ
  periodic : (record_at entry.roster p).attributes.period ≡ Some period
  long : min least (period + 1) ≤ entry.roster.now - (record_at entry.roster p).release

asked_shown : (p least : ℕ) (caller : Caller) (call : Option Call) (reply : Reply) (told : List Notice) (roster : Roster)
    → has_one (asked_for p least) (shown caller call reply told roster) (Response least) ≡ true
    → IsAsked p least (shown caller call reply told roster)
asked_shown p least (callers.Process c) call reply told roster has =
    let r = record_at roster c in
    let both = and_parts _ _ has in
    let ends = and_parts _ _ both.0 in
    let calls = and_parts _ _ ends.0 in
    let begun = and_parts _ _ ends.1 in
    let goes = and_parts _ _ begun.0 in
    let is = aged least (roster.now - r.release) r.attributes.period begun.1 in
    let same : p ≡ c = (Decides-eqb p c).0 (and_parts _ _ both.1).0 in
    subst (λ (q : ℕ). IsAsked q least (shown (callers.Process c) call reply told roster)) (sym same) (record {
      caller = refl;
      call = is_wait call calls.0;
      reply = is_block reply calls.1;
      released = (goes.0, is_not (awaits_first r.wait) goes.1);
      period = is.0;
      periodic = is.1;
      long = is.2;
    })
asked_shown p least callers.Init call reply told roster has =
    let none : false ≡ true = (and_parts _ _ (and_parts _ _ has).0).1 in cc
asked_shown p least callers.Nobody call reply told roster has =
    let none : false ≡ true = (and_parts _ _ (and_parts _ _ has).0).1 in cc

asked_in : (p least : ℕ) (d : Deed) → has_fact (asked_for p least) d ≡ true → IsAsked p least (shown_of d)
asked_in p least d has =
    asked_shown p least d.caller d.call d.outcome.reply d.outcome.notices d.outcome.roster
    (one_of (has_one (asked_for p least) (shown_of d) (Response least)) has)

age_from : (n k age : ℕ) (period : Option ℕ) → period ≡ Some k → min n (k + 1) ≤ age → is_age n period age ≡ true
age_from n k age None e long = cc
age_from n k age (Some j) e long =
    subst (λ (i : ℕ). nat_le (min n (i + 1)) age ≡ true) (sym (same_Some j k e)) (le-leb (min n (k + 1)) age long)

-- an entry that ends such a job has the fact
asked_from : (p least : ℕ) (entry : Shown) → IsAsked p least entry → has_one (asked_for p least) entry (Response least) ≡ true
asked_from p least entry is =
    let r = record_at entry.roster p in
    let age = age_from least is.period (entry.roster.now - r.release) r.attributes.period is.periodic is.long in
    rw (is.caller, is.call, is.reply, is.released.0, is.released.1, age, (Decides-eqb p p).1 refl) refl

asked_by : (p period response least : ℕ) (d : Deed) → EndsJob p period response (shown_of d) → min least (period + 1) ≤ response
    → has_fact (asked_for p least) d ≡ true
asked_by p period response least d ends long =
    rw (asked_from p least (shown_of d) (record {
      caller = ends.caller;
      call = ends.call;
      reply = ends.reply;
      released = ends.released;
      period = period;
      periodic = ends.periodic;
      long = omega (arith, ends.since, long);
    })) refl

-- a response of more ticks is one of fewer
asked_less : (p least more : ℕ) → least ≤ more → IsNarrower (asked_for p least) (asked_for p more)
asked_less p least more less d has =
    let is = asked_in p more d has in
    rw (asked_from p least (shown_of d) (record {
      caller = is.caller;
      call = is.call;
      reply = is.reply;
      released = is.released;
      period = is.period;
      periodic = is.periodic;
      long = omega (arith, less, is.long);
    })) refl

-- Schedules that end with such an entry.

-- the last one of a list is one, and so are those before it
same_last : {X : Type 0} (xs ys : List X) (x y : X) → xs ++ x ∷ [] ≡ ys ++ y ∷ [] → (xs ≡ ys) × (x ≡ y)
same_last [] [] x y e = (refl, cc)
same_last [] (b ∷ ys) x y e =
    let long : 1 ≡ suc (length (ys ++ y ∷ [])) = ap length e in
    absurd (omega (arith, long, length-append ys (y ∷ [])))
same_last (a ∷ xs) [] x y e =
    let long : suc (length (xs ++ x ∷ [])) ≡ 1 = ap length e in
    absurd (omega (arith, long, length-append xs (x ∷ [])))
same_last (a ∷ xs) (b ∷ ys) x y e =
    let tails : xs ++ x ∷ [] ≡ ys ++ y ∷ [] = cc in
    let heads : a ≡ b = cc in
    let rest = same_last xs ys x y tails in
    (rw (heads, rest.0) refl, rest.1)

module _ (system : Searched) (p : ℕ) where
  abbrev last_deed : List Event → Event → Deed
  last_deed earlier last = deed system.table (paced_run system.table (paced_opening system.table) earlier).situation last

  -- a schedule with a response leads to the fact of a response of at least `least` ticks
  pub leads_to_fact : (least period response : ℕ) (events : List Event) → LeadsToResponse system p period response events
      → min least (period + 1) ≤ response → LeadsToFact (responding system p least) events
  leads_to_fact least period response events leads long = record {
    earlier = leads.earlier;
    last = leads.last;
    is = leads.is;
    keeps = leads.keeps;
    has = asked_by p period response least (last_deed leads.earlier leads.last) leads.ends long;
  }

  -- so the response of the schedule is so long
  is_long : (least period response : ℕ) (events : List Event) → LeadsToResponse system p period response events
      → LeadsToFact (responding system p least) events → min least (period + 1) ≤ response
  is_long least period response events leads fact =
      let same = same_last fact.earlier leads.earlier fact.last leads.last (sym fact.is ∙ leads.is) in
      let has : has_fact (asked_for p least) (last_deed leads.earlier leads.last) ≡ true =
      subst (λ (earlier : List Event). has_fact (asked_for p least) (last_deed earlier leads.last) ≡ true) same.0
      (subst (λ (last : Event). has_fact (asked_for p least) (last_deed fact.earlier last) ≡ true) same.1 fact.has) in
      let is = asked_in p least (last_deed leads.earlier leads.last) has in
      let periods = same_Some is.period period (sym is.periodic ∙ leads.ends.periodic) in
      omega (arith, is.long, leads.ends.since, periods)

-- The job that is read off a canonical form.

record IsReadOff (first second : Roster) (p period : ℕ) (job : Job) : Type 0 where
  periods : ℕ
  period_is : job.period ≡ period
  since : second.now ≡ (record_at second p).release + (job.response + periods * period)
  past : (periods ≡ 0) ⊎ (period < job.response)

read_off : {d : ℕ} {first second : Roster} → AreAlike d first second → (p period : ℕ)
    → IsReleased (record_at second p) → (record_at second p).attributes.period ≡ Some period
    → (job : Job) → last_job first p ≡ Some job → IsReadOff first second p period job
read_off {d} {first} {second} alike p period released periodic job seen =
    let later : IsLater d first.now (record_at first p) (record_at second p) = alike.each p in
    let r = record_at first p in
    let started : r.started ≡ true = sym (ap (λ (s : Record). s.started) later.is) ∙ released.0 in
    let waits : awaits_first r.wait ≡ false = sym (ap (λ (s : Record). awaits_first s.wait) later.is) ∙ released.1 in
    let own : r.attributes.period ≡ Some period = sym (ap (λ (s : Record). s.attributes.period) later.is) ∙ periodic in
    let serves : ServesAs d first.now period r.release later.release =
    subst (λ (k : Option ℕ). ServesFor d first.now k r.release later.release) own (later.released started waits) in
    let release : (record_at second p).release ≡ later.release = ap (λ (s : Record). s.release) later.is in
    let job_is : Job = record { period = period; response = first.now - r.release } in
    let read : last_job first p ≡ Some job_is = ap (option_map (λ (k : ℕ). record { period = k; response = first.now - r.release })) own in
    let same : job ≡ job_is = same_Some job job_is (sym seen ∙ read) in
    let response : job.response ≡ first.now - r.release = ap (λ (j : Job). j.response) same in
    let past : (serves.periods ≡ 0) ⊎ (period < job.response) = elim serves.past [
      | inl none ↦ inl none
      | inr past ↦ inr (omega (arith, past, response, later.before))
    ] in
    record {
      periods = serves.periods;
      period_is = ap (λ (j : Job). j.period) same;
      since = omega (arith, alike.time, release, response, serves.is, later.before);
      past = past;
    }

-- A schedule that leads to the fact has a response.

-- no release is in the future
released_before : {d : ℕ} {first second : Roster} → AreAlike d first second → (p period : ℕ)
    → IsReleased (record_at second p) → (record_at second p).attributes.period ≡ Some period
    → (record_at second p).release ≤ second.now
released_before {d} {first} {second} alike p period released periodic =
    let later : IsLater d first.now (record_at first p) (record_at second p) = alike.each p in
    let r = record_at first p in
    let started : r.started ≡ true = sym (ap (λ (s : Record). s.started) later.is) ∙ released.0 in
    let waits : awaits_first r.wait ≡ false = sym (ap (λ (s : Record). awaits_first s.wait) later.is) ∙ released.1 in
    let own : r.attributes.period ≡ Some period = sym (ap (λ (s : Record). s.attributes.period) later.is) ∙ periodic in
    let serves : ServesAs d first.now period r.release later.release =
    subst (λ (k : Option ℕ). ServesFor d first.now k r.release later.release) own (later.released started waits) in
    let release : (record_at second p).release ≡ later.release = ap (λ (s : Record). s.release) later.is in
    omega (arith, alike.time, release, serves.is, later.before)

module _ (system : Searched) (is_pace : IsPace system.pace) (lawful : IsLawful system.table) (bounds : FormsReach system.table)
    (alike : OfEachTable FormsStandFor) where
  pub response_beyond : (p least limit : ℕ) (events : List Event) → limit < length events
      → LeadsToFact (responding system p least) events → HasResponseBeyond system p least limit
  response_beyond p least limit events longer fact =
      let d = last_deed system p fact.earlier fact.last in
      let is : IsAsked p least (shown_of d) = asked_in p least d fact.has in
      let form : HasForm system.pace system.table (paced_run system.table (paced_opening system.table) events) =
      has_form system is_pace lawful bounds alike events fact.keeps in
      let ends_there : (paced_run system.table (paced_opening system.table) events).situation.roster ≡ d.outcome.roster =
      ap (λ (es : List Event). (paced_run system.table (paced_opening system.table) es).situation.roster) fact.is
      ∙ ap (λ (s : Paced). s.situation.roster) (run_push system.table (paced_opening system.table) fact.earlier fact.last) in
      let rosters : AreAlike form.later (canonical_paced system.pace form.t).situation.roster d.outcome.roster =
      subst (λ (roster : Roster). AreAlike form.later (canonical_paced system.pace form.t).situation.roster roster) ends_there form.stands.alike.rosters in
      let before : (record_at d.outcome.roster p).release ≤ d.outcome.roster.now =
      released_before rosters p is.period is.released is.periodic in
      let response = d.outcome.roster.now - (record_at d.outcome.roster p).release in
      record {
        events = events;
        period = is.period;
        response = response;
        leads = record {
          earlier = fact.earlier;
          last = fact.last;
          is = fact.is;
          keeps = fact.keeps;
          ends = record {
            caller = is.caller;
            call = is.call;
            reply = is.reply;
            released = is.released;
            periodic = is.periodic;
            since = omega (arith, before);
          };
        };
        great = elim (cases_lt is.period response) [
          | inl over ↦ inr over
          | inr within ↦ inl (omega (arith, is.long, within))
        ];
        longer = longer;
      }

module _ (system : Searched) (p least : ℕ) (path : List ℕ) (fact : LeadsToFact (responding system p least) (schedule_of system path))
    (events : List Event) (are : events ≡ schedule_of system path) (own : All (IsWithin system.table.cores) events)
    (here : Paced) (form : IsFormAfter system here events) where
  abbrev opening : Paced
  opening = paced_opening system.table

  abbrev d : Deed
  d = last_deed system p fact.earlier fact.last

  abbrev first : Roster
  first = (canonical_paced system.pace form.formed.paced).situation.roster

  is : IsAsked p least (shown_of d)
  is = asked_in p least d fact.has

  split : events ≡ fact.earlier ++ fact.last ∷ []
  split = are ∙ fact.is

  ends_there : (paced_run system.table opening events).situation.roster ≡ d.outcome.roster
  ends_there =
      ap (λ (es : List Event). (paced_run system.table opening es).situation.roster) split
      ∙ ap (λ (s : Paced). s.situation.roster) (run_push system.table opening fact.earlier fact.last)

  alike : AreAlike form.later first d.outcome.roster
  alike = subst (λ (roster : Roster). AreAlike form.later first roster) ends_there form.stands.alike.rosters

  read_here : last_job here.situation.roster p ≡ last_job first p
  read_here = ap (λ (roster : Roster). last_job roster p) form.formed.same.situation.roster

  -- the job that is read off is that of the schedule
  pub job_is : (job : Job) → last_job here.situation.roster p ≡ Some job → IsJobOf system p path events job
  job_is job seen =
      let read = read_off alike p is.period is.released is.periodic job (sym read_here ∙ seen) in
      let period = read.period_is in
      let same : job.response ≤ job.period → job.response + read.periods * is.period ≡ job.response = λ within. elim read.past [
        | inl none ↦ omega (arith, unmoved read.periods is.period none)
        | inr past ↦ absurd (omega (arith, past, period, within))
      ] in
      record {
        is = are;
        own = own;
        response = job.response + read.periods * is.period;
        leads = record {
          earlier = fact.earlier;
          last = fact.last;
          is = split;
          keeps = subst (KeepsPace system.pace system.table opening) (sym are) fact.keeps;
          ends = record {
            caller = is.caller;
            call = is.call;
            reply = is.reply;
            released = is.released;
            periodic = is.periodic ∙ ap Some (sym period);
            since = read.since;
          };
        };
        same = same;
        over = λ past. omega (arith, past);
      }

  -- and there is one
  pub has_job : last_job here.situation.roster p ≡ None → ⊥
  has_job none =
      let later = alike.each p in
      let own : (record_at first p).attributes.period ≡ Some is.period = sym (ap (λ (s : Record). s.attributes.period) later.is) ∙ is.periodic in
      let read : last_job first p ≡ Some (record { period = is.period; response = first.now - (record_at first p).release }) =
      ap (option_map (λ (k : ℕ). record { period = k; response = first.now - (record_at first p).release })) own in
      let both : None ≡ Some (record { period = is.period; response = first.now - (record_at first p).release }) = sym none ∙ read_here ∙ read in
      absurd (none-some _ both)

-- The search, so far.

-- it asks for a response of more ticks than the greatest one that was found, and has room for this many
-- states
pub record IsRising (system now : Searched) (p least room : ℕ) (search : Search Workplace) (found : Option Slowest) : Type 0 where
  pub same : now ≡ responding system p least
  pub of : IsSearchOf now search
  pub room_is : room_of search ≡ room
  pub best : ForSome found (IsSlowest system p)
  pub is : least ≡ above found
  pub few : least ≤ 2 ^ 32

pub rising_begins : (system now : Searched) (p : ℕ) (search : Search Workplace) → now ≡ responding system p 0 → IsSearchOf now search
    → IsRising system now p 0 (room_of search) search None
rising_begins system now p search same of = record {
  same = same;
  of = of;
  room_is = refl;
  best = λ x e. absurd (none-some x e);
  is = refl;
  few = omega arith;
}

-- a greater one is found
pub rising_more : (system now : Searched) (p least room : ℕ) (search : Search Workplace) (slowest : Slowest)
    → IsSlower system now p least search slowest → room_of search ≡ room
    → IsRising system now p (slowest.response + 1) room search (Some slowest)
rising_more system now p least room search slowest slower room_is = record {
  same = slower.asks;
  of = slower.of;
  room_is = room_is;
  best = λ x e. subst (IsSlowest system p) (same_Some slowest x e) slower.is;
  is = refl;
  few = omega (arith, slower.few);
}

-- the schedule of a path is the same, and so are its responses
module _ (system : Searched) (p n : ℕ) where
  abbrev asking : Searched
  asking = responding system p n

  pub same_response : (period response : ℕ) (events : List Event) → LeadsToResponse asking p period response events
      → LeadsToResponse system p period response events
  same_response period response events leads = record {
    earlier = leads.earlier;
    last = leads.last;
    is = leads.is;
    keeps = leads.keeps;
    ends = leads.ends;
  }

  module _ (path : List ℕ) (events : List Event) (job : Job) (shortest : IsShortestSchedule asking path) (is : IsJobOf asking p path events job) where
    leads_here : LeadsToResponse system p job.period is.response events
    leads_here = same_response job.period is.response events is.leads

    long : min n (job.period + 1) ≤ is.response
    long = is_long system p n job.period is.response events leads_here (subst (LeadsToFact asking) (sym is.is) shortest.leads)

    pub many : length events ≡ length path
    many = ap length is.is ∙ shortest.many

    -- the schedule has a response that is greater than those before
    pub rises : job.response ≤ job.period → n ≤ job.response
    rises within = omega (arith, long, is.same within, within)

    pub is_slowest : (slowest : Slowest) → slowest.response ≡ job.response → slowest.schedule.items ≡ events
        → job.response ≤ job.period → length path ≤ system.table.limit
        → IsSlowest system p slowest
    is_slowest slowest same these within few =
        let response : is.response ≡ slowest.response = is.same within ∙ sym same in
        let rise = rises within in
        let count : length slowest.schedule.items ≡ length path = ap length these ∙ many in
        record {
          period = job.period;
          leads = subst (λ (es : List Event). LeadsToResponse system p job.period slowest.response es) (sym these)
              (subst (λ (r : ℕ). LeadsToResponse system p job.period r events) response leads_here);
          in_period = omega (arith, same, within);
          own = subst (All (IsWithin system.table.cores)) (sym these) is.own;
          fits = omega (arith, count, few);
          shortest = λ other period more leads greater.
              let least = shortest.shortest other (leads_to_fact system p n period more other leads (omega (arith, greater, same, rise))) in
              omega (arith, least, count);
        }

    pub overruns : job.period < job.response → length path ≤ system.table.limit → IsOverrun system p job.period events
    overruns past few = record {
      response = is.response;
      leads = leads_here;
      over = is.over past;
      own = is.own;
      fits = omega (arith, many, few);
      shortest = λ other period more leads greater.
          let least = shortest.shortest other (leads_to_fact system p n period more other leads (omega (arith, greater))) in
          omega (arith, least, many);
    }

  below_or : (response : ℕ) → (n ≤ response → ⊥) → response < n
  below_or response none = elim (cases_lt response n) [
    | inl below ↦ below
    | inr above ↦ absurd (none above)
  ]

  reaches : (events : List Event) (period response : ℕ) → LeadsToResponse system p period response events → n ≤ response
      → LeadsToFact asking events
  reaches events period response leads long = leads_to_fact system p n period response events leads (omega (arith, long))

  -- a search without a schedule for a response of n ticks: all responses are below n
  pub all_below : NoSchedule asking → AllBelow system p n
  all_below none events period response leads = below_or response (λ long. none events (reaches events period response leads long))

  pub all_below_within : (depth : ℕ) → NoScheduleWithin asking depth → AllBelowWithin system p n depth
  all_below_within depth none events period response short leads =
      below_or response (λ long. none events short (reaches events period response leads long))

  pub none_shorter : (path : List ℕ) (limit : ℕ) → IsShortestSchedule asking path → limit < length path → NoScheduleWithin asking limit
  none_shorter path limit shortest past events short leads = let long = shortest.shortest events leads in omega (arith, long, short, past)

-- What the search says, in the words of the system that it began with.
module _ (system now : Searched) (p n : ℕ) (same : now ≡ responding system p n) where
  pub again : now ≡ responding now p n
  again = same ∙ ap (λ (s : Searched). responding s p n) (sym same)

  pub asks : (path : List ℕ) → IsShortestSchedule now path → (least : ℕ) × LeadsToFact (responding now p least) (schedule_of now path)
  asks path shortest = (n, subst (λ (s : Searched). LeadsToFact s (schedule_of now path)) again shortest.leads)

  pub now_below : (states : ℕ) → NoSchedule now × HasStates now states
      → AllBelow system p n × HasStates (responding system p n) states
  now_below states says = (all_below system p n (subst NoSchedule same says.0), subst (λ (s : Searched). HasStates s states) same says.1)

  pub now_full : (depth room : ℕ) → NoScheduleWithin now depth × IsRoomUsedUp now room depth
      → AllBelowWithin system p n depth × IsRoomUsedUp (responding system p n) room depth
  now_full depth room says = (
    all_below_within system p n depth (subst (λ (s : Searched). NoScheduleWithin s depth) same says.0),
    subst (λ (s : Searched). IsRoomUsedUp s room depth) same says.1,
  )

  module _ (path : List ℕ) (shortest : IsShortestSchedule now path) where
    there : IsShortestSchedule (responding system p n) path
    there = subst (λ (s : Searched). IsShortestSchedule s path) same shortest

    pub now_beyond : IsPace now.pace → IsLawful now.table → FormsReach now.table → OfEachTable FormsStandFor
        → (limit : ℕ) → limit < length path → AllBelowWithin system p n limit × HasResponseBeyond system p n limit
    now_beyond is_pace lawful bounds alike limit past = (
      all_below_within system p n limit (none_shorter system p n path limit there past),
      response_beyond system (subst (λ (s : Searched). IsPace s.pace) same is_pace)
          (subst (λ (s : Searched). IsLawful s.table) same lawful) (subst (λ (s : Searched). FormsReach s.table) same bounds) alike
          p n limit (schedule_of (responding system p n) path) (omega (arith, past, there.many)) there.leads,
    )

    module _ (events : List Event) (job : Job) (is : IsJobOf now p path events job) where
      its_job : IsJobOf (responding system p n) p path events job
      its_job = subst (λ (s : Searched). IsJobOf s p path events job) same is

      pub now_rises : job.response ≤ job.period → n ≤ job.response
      now_rises = rises system p n path events job there its_job

      pub now_slowest : (slowest : Slowest) → slowest.response ≡ job.response → slowest.schedule.items ≡ events
          → job.response ≤ job.period → length path ≤ system.table.limit → IsSlowest system p slowest
      now_slowest = is_slowest system p n path events job there its_job

      pub now_overruns : job.period < job.response → length path ≤ system.table.limit → IsOverrun system p job.period events
      now_overruns = overruns system p n path events job there its_job

      -- and the question is for a greater one
      pub now_slower : (next : Searched) (search : Search Workplace) (slowest : Slowest) → slowest.response ≡ job.response
          → slowest.schedule.items ≡ events → job.response ≤ job.period → job.period < 2 ^ 32 → length path ≤ system.table.limit
          → next ≡ responding now p (slowest.response + 1) → IsSearchOf now search → IsSlower system next p n search slowest
      now_slower next search slowest response these within few short next_is of = record {
        is = now_slowest slowest response these within short;
        more = omega (arith, now_rises within, response);
        few = omega (arith, within, few, response);
        asks = then;
        of = subst (λ (s : Searched). IsSearchOf s search) (sym then)
            (search_narrower (responding system p n) (asked_for p (slowest.response + 1))
            (asked_less p n (slowest.response + 1) (omega (arith, now_rises within, response))) search
            (subst (λ (s : Searched). IsSearchOf s search) same of));
      } where
        then : next ≡ responding system p (slowest.response + 1)
        then = next_is ∙ ap (λ (s : Searched). responding s p (slowest.response + 1)) same
