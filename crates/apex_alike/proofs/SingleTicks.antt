-- A tick is as many single ticks, of which only the last one serves dues and deadlines.
use Rattle.std.proofs.Common.{◌≡◌, ℕ, zero, suc, ◌+◌, ◌-◌, ◌<◌, ◌≤◌, ◌⊎◌, min, Bool, true, false, ◌&&◌, nat_lt, List, [], ◌∷◌, length, Option, None, Some, option_map, refl, sym, ◌∙◌, ap, subst, arith, inl, inr}
use Rattle.std.specs.Prelude.{All}
use Rattle.std.proofs.lemmas.Bool.{cases_lt, cond_both}
use Rattle.std.proofs.lemmas.Option.{none-some, same_Some}
use Rattle.apex_laws.specs.Terms.{Event, OpenWork, Record}
use Rattle.apex_types.specs.declared.entries.Event.TheVariants.{Turn, Tick}
use Rattle.apex_machine.specs.Machine.{Machine, accept, happen, open_work, opening, run}
use Rattle.apex_machine.specs.Ticks.{not_beyond, pass_time, serve_deadlines, serve_due, serve_dues, serve_instant, serve_missed, tick_goal}
use Rattle.apex_machine.specs.Works.{watched}
use Rattle.apex_machine.specs.processes.Dues.{HasNoPastDeadline, HasNoPastDue, IsAwaited, first_due, first_missed, next_instant}
use Rattle.apex_machine.specs.processes.Roster.{Roster, record_at}
use Rattle.apex_types.specs.Modes.{is_normal}
use Rattle.apex_machine.specs.processes.Running.{chosen, is_process}
use Rattle.apex_machine.specs.processes.Stamps.{advance_to, is_by_itself}
use Rattle.apex_machine.specs.processes.Waiters.{queue_in}
use Rattle.apex_machine.specs.services.InTurn.{Changed, followed_by, unchanged}
use Rattle.apex_machine.specs.table.Table.{IsLawful, Table}
use Rattle.apex_machine.proofs.DistinctStamps.{stamped_advance_to}
use Rattle.apex_machine.proofs.Dues.{earliest_is_least, first_due_now, first_missed_now, none_awaited}
use Rattle.apex_machine.proofs.InTurn.{in_turn-none}
use Rattle.apex_alike.specs.Alike.{AreAlike, awaits_normal, later}
use Rattle.apex_alike.specs.Canonical.{IsFit, canonical}
use Rattle.apex_alike.specs.AlikeSteps.{AreAlikeSituations, IsSituated}
use Rattle.apex_machine.specs.Situations.{Situation, deed, maker, step}
use Rattle.apex_alike.proofs.Canonical.{canonical_situation}
use Rattle.apex_alike.proofs.Chains.{situations_then}
use Rattle.apex_alike.proofs.Turns.{alike_steps}
use Rattle.apex_alike.specs.Closed.{HasAlike, HasClosed, IsAmong, IsSameSituation, IsSeen, IsTimely, SingleTicksSeeAll}
use Rattle.apex_machine.specs.Machine.{situation_of}
use Rattle.apex_laws.proofs.OpenWorks.{open_after}
use Rattle.apex_laws.proofs.Runs.{accept-full, accept-room}
use Rattle.apex_alike.proofs.Situated.{never, next, opens, same_deed, stepped}
use Rattle.apex_laws.proofs.Sound.{IsSound, sound_accept, sound_happen, sound_opening}
use Rattle.apex_alike.proofs.Spans.{spans_of}

-- no due and no deadline is at this instant, so nothing is served there
module _ (roster : Roster) (t : ℕ) (later_all : (p u : ℕ) → IsAwaited (record_at roster p) u → t < u) where
  abbrev then_so : Roster
  then_so = advance_to roster t

  none_due : first_due then_so ≡ None
  none_due = none_awaited (first_due then_so) (λ p e.
      let past = later_all p t (inl (first_due_now then_so p e)) in absurd (omega (arith, past)))

  none_missed : first_missed then_so ≡ None
  none_missed = none_awaited (first_missed then_so) (λ p e.
      let past = later_all p t (inr (first_missed_now then_so p e)) in absurd (omega (arith, past)))

  quiet_dues : serve_dues then_so ≡ unchanged then_so
  quiet_dues = in_turn-none first_due serve_due (length roster.records) then_so none_due

  quiet_deadlines : serve_deadlines then_so ≡ unchanged then_so
  quiet_deadlines = in_turn-none first_missed serve_missed (length roster.records) then_so none_missed

  quiet_instant : serve_instant then_so ≡ unchanged then_so
  quiet_instant = ap (λ (c : Changed). followed_by c serve_dues) quiet_deadlines ∙ ap (λ (c : Changed). followed_by (unchanged then_so) (λ _. c)) quiet_dues

module _ (roster : Roster) where
  -- the next instant is one tick ahead at most: any tick goes there
  near_goal : (n u : ℕ) → next_instant roster ≡ Some u → u ≤ roster.now + 1 → tick_goal roster (n + 1) ≡ tick_goal roster 1
  near_goal n u is near =
      ap (not_beyond (roster.now + (n + 1))) is ∙ both (roster.now + (n + 1)) (roster.now + 1) u near (omega arith)
      ∙ sym (ap (not_beyond (roster.now + 1)) is) where
        both : (a b u : ℕ) → u ≤ b → b ≤ a → min a u ≡ min b u
        both a b u e f = omega (arith, e, f)

  near_time : (n u : ℕ) → next_instant roster ≡ Some u → u ≤ roster.now + 1 → pass_time roster (n + 1) ≡ pass_time roster 1
  unfolding pass_time
  near_time n u is near = ap (λ (t : ℕ). serve_instant (advance_to roster t)) (near_goal n u is near)

  -- it is further ahead, or there is none
  abbrev IsFar : Type 0
  IsFar = (u : ℕ) → next_instant roster ≡ Some u → roster.now + 1 < u

  far_awaited : IsFar → (p u : ℕ) → IsAwaited (record_at roster p) u → roster.now + 1 < u
  far_awaited far p u awaited =
      let least = earliest_is_least roster.records p u awaited in omega (arith, far least.0 least.1, least.2)

  goal_one : (next : Option ℕ) → ((u : ℕ) → next ≡ Some u → roster.now + 1 < u) → not_beyond (roster.now + 1) next ≡ roster.now + 1
  goal_one None far = refl
  goal_one (Some u) far = omega (arith, far u refl)

  far_one : IsFar → pass_time roster 1 ≡ unchanged (advance_to roster (roster.now + 1))
  unfolding pass_time
  far_one far =
      ap (λ (t : ℕ). serve_instant (advance_to roster t)) (goal_one (next_instant roster) far)
      ∙ quiet_instant roster (roster.now + 1) (far_awaited far)

  -- a longer tick goes on from there
  far_more : (n : ℕ) → pass_time roster (n + 1) ≡ pass_time (advance_to roster (roster.now + 1)) n
  unfolding pass_time
  far_more n =
      let same : roster.now + (n + 1) ≡ roster.now + 1 + n = omega arith in
      ap (λ (t : ℕ). serve_instant (advance_to roster (not_beyond t (next_instant roster)))) same

  is_far : (next : Option ℕ) → next_instant roster ≡ next → ((u : ℕ) × (next_instant roster ≡ Some u) × (u ≤ roster.now + 1)) ⊎ IsFar
  is_far None is = inr (λ u e. absurd (none-some u (sym is ∙ e)))
  is_far (Some u) is = elim (cases_lt (roster.now + 1) u) [
    | inl beyond ↦ inr (λ v e. let same : u ≡ v = same_Some u v (sym is ∙ e) in omega (arith, beyond, same))
    | inr near ↦ inl (u, is, near)
  ]

-- work stays as it is where its process is the chosen one
abbrev pub AreWatched : Situation → Type 0
AreWatched s = (core : ℕ) (o : OpenWork) → s.works core ≡ Some o → watched s.roster core o ≡ o

-- no due and no deadline is past
pub record IsFine (roster : Roster) : Type 0 where
  pub dues : HasNoPastDue roster
  pub deadlines : HasNoPastDeadline roster

pub record IsGood (table : Table) (s : Situation) : Type 0 where
  pub situated : IsSituated table s
  pub fit : IsFit s.roster
  pub watched : AreWatched s

module _ (table : Table) where
  near_same : (x : Situation) (n u : ℕ) → next_instant x.roster ≡ Some u → u ≤ x.roster.now + 1
      → IsSameSituation (step table x (Tick (n + 1))) (step table x (Tick 1))
  near_same x n u is near =
      let same = near_time x.roster n u is near in
      record {
        roster = ap (λ (c : Changed). c.roster) same;
        objects = refl;
        works = λ core. ap (λ (c : Changed). option_map (watched c.roster core) (x.works core)) same;
        made = refl;
      }

  -- work that is watched once more
  still : (x : Situation) → AreWatched x → (core : ℕ) → option_map (watched x.roster core) (x.works core) ≡ x.works core
  still x watched_so core = by_work (x.works core) refl where
    by_work : (found : Option OpenWork) → x.works core ≡ found → option_map (watched x.roster core) found ≡ found
    by_work None is = refl
    by_work (Some o) is = ap Some (watched_so core o is)

  -- the situation one tick later, if nothing is served there
  abbrev ahead : Situation → Situation
  ahead x = record x { roster = advance_to x.roster (x.roster.now + 1) }

  far_first : (x : Situation) → AreWatched x → IsFar x.roster → IsSameSituation (step table x (Tick 1)) (ahead x)
  far_first x watched_so far =
      let one = far_one x.roster far in
      record {
        roster = ap (λ (c : Changed). c.roster) one;
        objects = refl;
        works = λ core. ap (λ (c : Changed). option_map (watched c.roster core) (x.works core)) one ∙ still x watched_so core;
        made = omega arith;
      }

  far_same : (x : Situation) (n : ℕ) → IsSameSituation (step table x (Tick (n + 1))) (step table (ahead x) (Tick n))
  far_same x n =
      let same = far_more x.roster n in
      record {
        roster = ap (λ (c : Changed). c.roster) same;
        objects = refl;
        works = λ core. ap (λ (c : Changed). option_map (watched c.roster core) (x.works core)) same;
        made = refl;
      }

  ahead_good : (x : Situation) → IsGood table x → IsFar x.roster → IsGood table (ahead x)
  ahead_good x good far =
      let dues : HasNoPastDue (ahead x).roster = λ p u e. let past = far_awaited x.roster far p u (inl e) in omega (arith, past) in
      let deadlines : HasNoPastDeadline (ahead x).roster = λ p u e. let past = far_awaited x.roster far p u (inr e) in omega (arith, past) in
      record {
        situated = record {
          many = good.situated.many;
          one = good.situated.one;
          starts = record { dormant = good.situated.starts.dormant; early = good.situated.starts.early; undue = good.situated.starts.undue };
          dues = dues;
          deadlines = deadlines;
          workers = good.situated.workers;
        };
        fit = record {
          stamped = stamped_advance_to x.roster good.fit.stamped (x.roster.now + 1);
          dues = dues;
          deadlines = deadlines;
          undue = good.fit.undue;
          before = λ p. omega (arith, good.fit.before p);
          spans = good.fit.spans;
        };
        watched = good.watched;
      }

-- situations that are the same
pub same_back : {s t : Situation} → IsSameSituation s t → IsSameSituation t s
same_back same = record {
  roster = sym same.roster;
  objects = sym same.objects;
  works = λ core. sym (same.works core);
  made = sym same.made;
}

pub same_then : {s t u : Situation} → IsSameSituation s t → IsSameSituation t u → IsSameSituation s u
same_then one other = record {
  roster = one.roster ∙ other.roster;
  objects = one.objects ∙ other.objects;
  works = λ core. one.works core ∙ other.works core;
  made = one.made ∙ other.made;
}

alike_same : {d : ℕ} {x s t : Situation} → AreAlikeSituations d x s → IsSameSituation s t → AreAlikeSituations d x t
alike_same {d} {x} alike same = record {
  rosters = subst (λ (r : Roster). AreAlike d x.roster r) same.roster alike.rosters;
  objects = sym same.objects ∙ alike.objects;
  works = λ core. sym (same.works core) ∙ alike.works core;
  made = sym same.made ∙ alike.made;
}

pub same_alike : {d : ℕ} {s t x : Situation} → IsSameSituation s t → AreAlikeSituations d t x → AreAlikeSituations d s x
same_alike {d} {s} {t} {x} same alike = record {
  rosters = subst (λ (r : Roster). AreAlike d r x.roster) (sym same.roster) alike.rosters;
  objects = alike.objects ∙ sym same.objects;
  works = λ core. alike.works core ∙ sym (same.works core);
  made = alike.made ∙ sym same.made;
}

-- the facts of a situation hold of one that is alike to it
fine_back : {d : ℕ} {r s : Roster} → AreAlike d r s → IsFine s → IsFine r
fine_back {d} alike fine = record {
  dues = λ p t h.
      let past = fine.dues p (t + d) (ap (λ (x : Record). x.due) (alike.each p).is ∙ ap (later d) h) in omega (arith, past, alike.time);
  deadlines = λ p t h.
      let past = fine.deadlines p (t + d) (ap (λ (x : Record). x.deadline) (alike.each p).is ∙ ap (later d) h) in omega (arith, past, alike.time);
}

fit_back : {d : ℕ} {r s : Roster} → AreAlike d r s → IsFine s → IsFit r
fit_back alike fine =
    let back = fine_back alike fine in
    record {
      stamped = alike.stamped;
      dues = back.dues;
      deadlines = back.deadlines;
      undue = λ p. (alike.each p).undue;
      before = λ p. (alike.each p).before;
      spans = λ p. (alike.each p).spans;
    }

situated_back : (table : Table) {d : ℕ} {s x : Situation} → AreAlikeSituations d s x → IsSituated table x → IsSituated table s
situated_back table {d} {s} {x} alike facts =
    let fine = fine_back alike.rosters (record { dues = facts.dues; deadlines = facts.deadlines }) in
    record {
      many = sym alike.rosters.many ∙ facts.many;
      one = λ p by.
          let is = (alike.rosters.each p).is in
          sym (ap (λ (r : Record). r.wait) is) ∙ facts.one p (ap (λ (r : Record). is_by_itself r.suspended) is ∙ by);
      starts = record {
        dormant = λ p h.
            let is = (alike.rosters.each p).is in
            sym (ap (λ (r : Record). r.wait) is) ∙ facts.starts.dormant p (ap (λ (r : Record). r.started) is ∙ h);
        early = λ e p h.
            let is = (alike.rosters.each p).is in
            sym (ap queue_in is) ∙ facts.starts.early (ap is_normal alike.rosters.mode ∙ e) p (ap (λ (r : Record). r.started) is ∙ h);
        undue = λ e p.
            let is = (alike.rosters.each p).is in
            never d (record_at s.roster p).due
            (sym (ap (λ (r : Record). r.due) is) ∙ facts.starts.undue (ap is_normal alike.rosters.mode ∙ e) p);
      };
      dues = fine.dues;
      deadlines = fine.deadlines;
      workers = λ core o is. let at = facts.workers core o (alike.works core ∙ is) in omega (arith, at, alike.rosters.many);
    }

-- a search that has closed over single ticks
module _ (table : Table) (lawful : IsLawful table) (asked : List Event) (seen : List Situation) (closed : HasClosed table asked seen)
    (single : IsAmong asked (Tick 1)) where
  one_tick : (x : Situation) → IsGood table x → HasAlike seen x → IsFine (step table x (Tick 1)).roster → HasAlike seen (step table x (Tick 1))
  one_tick x good h fine =
      let steps = alike_steps table lawful h.later h.situation x (situated_back table h.alike good.situated) h.alike (Tick 1) in
      let after = step table h.situation (Tick 1) in
      let holds = closed.steps h.place h.situation h.here single.place (Tick 1) single.here in
      let form = canonical_situation after (fit_back steps.situations.rosters fine) in
      record {
        place = holds.place;
        situation = holds.situation;
        later = (after.roster.now - (canonical after).roster.now) + h.later;
        here = holds.here;
        alike = same_alike holds.same (situations_then form steps.situations);
      }

  has_same : (x y : Situation) → IsSameSituation x y → HasAlike seen x → HasAlike seen y
  has_same x y same h = record {
    place = h.place;
    situation = h.situation;
    later = h.later;
    here = h.here;
    alike = alike_same h.alike same;
  }

  -- one tick more: if nothing is served at the first one, the others follow it
  abbrev Follows : ℕ → Type 0
  Follows n = (x : Situation) → IsGood table x → HasAlike seen x → IsFine (step table x (Tick n)).roster
      → HasAlike seen (step table x (Tick n))

  more_ticks : (n : ℕ) → Follows n → Follows (n + 1)
  more_ticks n follows x good h fine = by_next (is_far x.roster (next_instant x.roster) refl) where
    by_next : ((u : ℕ) × (next_instant x.roster ≡ Some u) × (u ≤ x.roster.now + 1)) ⊎ IsFar x.roster
        → HasAlike seen (step table x (Tick (n + 1)))
    by_next (inl near) =
        let same = near_same table x n near.0 near.1 near.2 in
        has_same _ _ (same_back same) (one_tick x good h (subst IsFine same.roster fine))
    by_next (inr far) =
        let first = far_first table x good.watched far in
        let good_then = ahead_good table x good far in
        let fine_then : IsFine (ahead table x).roster = record { dues = good_then.fit.dues; deadlines = good_then.fit.deadlines } in
        let rest = far_same table x n in
        let has = has_same _ _ first (one_tick x good h (subst IsFine (sym first.roster) fine_then)) in
        has_same _ _ (same_back rest) (follows (ahead table x) good_then has (subst IsFine rest.roster fine))

  many_ticks : (n : ℕ) → Follows (suc n)
  many_ticks zero = one_tick
  many_ticks (suc n) =
      let e : suc (suc n) ≡ suc n + 1 = omega arith in
      subst Follows (sym e) (more_ticks (suc n) (many_ticks n))

-- work that is watched twice is watched once
watched_twice : (roster : Roster) (core : ℕ) (o : OpenWork) → watched roster core (watched roster core o) ≡ watched roster core o
watched_twice roster core o =
    ap (λ (b : Bool). record { work = o.work; unbroken = b }) (twice o.unbroken (is_process o.work.process (chosen roster core))) where
      twice : (a b : Bool) → (a && b && b) ≡ (a && b)
      twice true true = refl
      twice true false = refl
      twice false true = refl
      twice false false = refl

still_watched : (roster : Roster) (core : ℕ) (found : Option OpenWork) (o : OpenWork) → option_map (watched roster core) found ≡ Some o
    → watched roster core o ≡ o
still_watched roster core None o e = absurd (none-some o e)
still_watched roster core (Some before) o e =
    let is : watched roster core before ≡ o = same_Some _ _ e in
    ap (watched roster core) (sym is) ∙ watched_twice roster core before ∙ is

-- machines
module _ (table : Table) (lawful : IsLawful table) where
  watched_happen : (machine : Machine) → IsSound table machine → (event : Event) → AreWatched (situation_of table (happen table machine event))
  watched_happen machine sound event core o is =
      let done = deed table (situation_of table machine) event in
      let same = same_deed table machine event in
      let opened = open_after machine (maker event) done sound.past core in
      let roster : (happen table machine event).roster ≡ done.outcome.roster = ap (λ (m : Machine). m.roster) same in
      rw roster
      (still_watched done.outcome.roster core _ o (sym opened ∙ sym (ap (λ (m : Machine). open_work m core) same) ∙ is))

  watched_accept : (machine : Machine) → IsSound table machine → AreWatched (situation_of table machine) → (event : Event)
      → AreWatched (situation_of table (accept table machine event))
  watched_accept machine sound before event =
      cond_both {A = Machine} (nat_lt (length machine.history) table.limit) (happen table machine event) machine
      (λ (m : Machine). AreWatched (situation_of table m)) (λ _. watched_happen machine sound event) (λ _. before)

  module _ (asked : List Event) (seen : List Situation) (closed : HasClosed table asked seen) (single : IsAmong asked (Tick 1)) where
    good_machine : (machine : Machine) → IsSound table machine → AreWatched (situation_of table machine) → IsSeen table seen machine
        → IsGood table (situation_of table machine)
    good_machine machine sound before is =
        let orderly = sound.orderly in
        let dues : HasNoPastDue machine.roster = λ p. (sound.times p).due in
        let deadlines : HasNoPastDeadline machine.roster = λ p. (sound.times p).deadline in
        record {
          situated = record {
            many = orderly.many;
            one = orderly.one;
            starts = orderly.starts;
            dues = dues;
            deadlines = deadlines;
            workers = λ core o e. (sound.workers core o e).known;
          };
          fit = record {
            stamped = sound.stamped;
            dues = dues;
            deadlines = deadlines;
            undue = λ p h.
                let each = is.stands.rosters.each p in
                ap (λ (x : Record). x.due) each.is ∙ ap (later is.later) (each.undue (sym (ap (λ (x : Record). awaits_normal x.wait) each.is) ∙ h));
            before = λ p. (sound.times p).release;
            spans = spans_of table lawful machine.roster orderly.attributes;
          };
          watched = before;
        }

    tick_seen : (machine : Machine) → IsSound table machine → AreWatched (situation_of table machine) → IsSeen table seen machine
        → (n : ℕ) → 1 ≤ n → IsSeen table seen (accept table machine (Tick n))
    tick_seen machine sound before is zero some = absurd (omega (arith, some))
    tick_seen machine sound before is (suc n) some = elim (cases_lt (length machine.history) table.limit) [
      | inl room ↦
          let event = Tick (suc n) in
          let after = happen table machine event in
          let sound_then = sound_happen table lawful machine sound event room in
          let roster : after.roster ≡ (deed table (situation_of table machine) event).outcome.roster =
          ap (λ (m : Machine). m.roster) (same_deed table machine event) in
          let fine : IsFine after.roster = record { dues = λ p. (sound_then.times p).due; deadlines = λ p. (sound_then.times p).deadline } in
          let found = many_ticks table lawful asked seen closed single n (situation_of table machine)
          (good_machine machine sound before is)
          (record { place = is.place; situation = is.situation; later = is.later; here = is.here; alike = is.stands })
          (subst IsFine roster fine) in
          subst (IsSeen table seen) (sym (accept-room table machine event room)) (record {
            place = found.place;
            situation = found.situation;
            later = found.later;
            here = found.here;
            stands = stepped table lawful machine sound found.later found.situation event found.alike;
          })
      | inr full ↦ subst (IsSeen table seen) (sym (accept-full table machine (Tick (suc n)) full)) is
    ]

    timely_seen : (machine : Machine) → IsSound table machine → AreWatched (situation_of table machine) → IsSeen table seen machine
        → (event : Event) → IsTimely asked event → IsSeen table seen (accept table machine event)
    timely_seen machine sound before is (Turn core) among = next table lawful asked seen closed machine sound is (Turn core) among
    timely_seen machine sound before is (Tick n) some = tick_seen machine sound before is n some

    all_timely : (machine : Machine) → IsSound table machine → AreWatched (situation_of table machine) → IsSeen table seen machine
        → (events : List Event) → All (IsTimely asked) events → IsSeen table seen (run table machine events)
    all_timely machine sound before is [] all = is
    all_timely machine sound before is (event ∷ events) all =
        all_timely (accept table machine event) (sound_accept table lawful machine sound event) (watched_accept machine sound before event)
        (timely_seen machine sound before is event (all 0 event (omega arith))) events (λ k d within. all (suc k) d (omega (arith, within)))

pub single_ticks : (table : Table) → IsLawful table → SingleTicksSeeAll table
single_ticks table lawful asked seen closed single events all =
    all_timely table lawful asked seen closed single (opening table) (sound_opening table lawful) (λ core o is. absurd (none-some o is))
    (opens table lawful asked seen closed) events all
