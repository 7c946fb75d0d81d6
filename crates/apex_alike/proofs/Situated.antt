-- Situations that stand for machines step as the machines do.
use Rattle.std.proofs.Common.{◌≡◌, ℕ, suc, ◌+◌, if◌then◌else◌, List, [], ◌∷◌, length, Option, None, Some, refl, sym, ◌∙◌, ap, subst, arith, inl, inr}
use Rattle.std.specs.Prelude.{All}
use Rattle.std.proofs.lemmas.Bool.{cases_lt}
use Rattle.std.proofs.lemmas.List.Sums.{sum_by-append}
use Rattle.apex_laws.specs.Terms.{Entry, Event, Record}
use Rattle.apex_types.specs.declared.entries.Event.TheVariants.{Turn, Tick}
use Rattle.apex_machine.specs.History.{init_count}
use Rattle.apex_machine.specs.Machine.{Machine, accept, after_deed, entry_of, happen, objects_after, open_work, opening, run}
use Rattle.apex_machine.specs.processes.Roster.{Roster, record_at}
use Rattle.apex_types.specs.Modes.{is_normal}
use Rattle.apex_machine.specs.processes.Waiters.{queue_in}
use Rattle.apex_alike.specs.Alike.{AreAlike, later}
use Rattle.apex_alike.specs.Canonical.{IsFit, canonical}
use Rattle.apex_alike.proofs.Canonical.{canonical_situation}
use Rattle.apex_alike.proofs.Spans.{spans_of}
use Rattle.apex_machine.specs.processes.Stamps.{is_by_itself}
use Rattle.apex_machine.specs.services.Callers.{is_by_init}
use Rattle.apex_machine.specs.table.Table.{IsLawful, Table}
use Rattle.apex_alike.specs.AlikeSteps.{AreAlikeSituations, IsSituated}
use Rattle.apex_machine.specs.Situations.{Situation, deed, maker, step}
use Rattle.apex_alike.proofs.Chains.{alike_itself, situations_then}
use Rattle.apex_alike.proofs.Turns.{alike_steps}
use Rattle.apex_alike.specs.Closed.{ClosedSearchSeesAll, ClosedSeesAll, HasClosed, Holds, IsAmong, IsClosed, IsSeen}
use Rattle.apex_alike.specs.StandIns.{SituationsStepAlike, Represents, StepsAlike}
use Rattle.apex_machine.specs.Machine.{situation_of}
use Rattle.apex_laws.proofs.OpenWorks.{open_after}
use Rattle.apex_laws.proofs.Runs.{accept-full, accept-room}
use Rattle.apex_laws.proofs.Sound.{IsSound, deed_at, happens, objects_happen, sound_accept, sound_happen, sound_opening, sound_run}

-- the deed of a machine's event is that of its situation's
pub same_deed : (table : Table) (machine : Machine) (event : Event)
    → happen table machine event ≡ after_deed machine (maker event) (deed table (situation_of table machine) event)
same_deed table machine (Turn core) = happens table machine (Turn core)
same_deed table machine (Tick n) = happens table machine (Tick n)

same_objects : (table : Table) (machine : Machine) (event : Event)
    → objects_after table (happen table machine event).history
    ≡ (deed_at table machine (objects_after table machine.history) event).outcome.object
    → objects_after table (happen table machine event).history ≡ (deed table (situation_of table machine) event).outcome.object
same_objects table machine (Turn core) is = is
same_objects table machine (Tick n) is = is

-- an instant that is none later is none
pub never : (d : ℕ) (instant : Option ℕ) → later d instant ≡ None → instant ≡ None
never d None e = refl
never d (Some t) e = cc

one_more : (n : ℕ) → 0 + n ≡ n
one_more n = omega arith

module _ (table : Table) (lawful : IsLawful table) (machine : Machine) (sound : IsSound table machine) where
  -- a situation that stands for a machine has the facts that the machine has
  situated : (d : ℕ) (s : Situation) → Represents table d s machine → IsSituated table s
  situated d s stands = record {
    many = sym stands.rosters.many ∙ sound.orderly.many;
    one = λ p by.
        let is = (stands.rosters.each p).is in
        sym (ap (λ (x : Record). x.wait) is) ∙ sound.orderly.one p (ap (λ (x : Record). is_by_itself x.suspended) is ∙ by);
    starts = record {
      dormant = λ p h.
          let is = (stands.rosters.each p).is in
          sym (ap (λ (x : Record). x.wait) is) ∙ sound.orderly.starts.dormant p (ap (λ (x : Record). x.started) is ∙ h);
      early = λ e p h.
          let is = (stands.rosters.each p).is in
          sym (ap queue_in is) ∙ sound.orderly.starts.early (ap is_normal stands.rosters.mode ∙ e) p (ap (λ (x : Record). x.started) is ∙ h);
      undue = λ e p.
          let is = (stands.rosters.each p).is in
          never d (record_at s.roster p).due
          (sym (ap (λ (x : Record). x.due) is) ∙ sound.orderly.starts.undue (ap is_normal stands.rosters.mode ∙ e) p);
    };
    dues = λ p t h.
        let is = (stands.rosters.each p).is in
        let ahead = (sound.times p).due (t + d) (ap (λ (x : Record). x.due) is ∙ ap (later d) h) in omega (arith, ahead, stands.rosters.time);
    deadlines = λ p t h.
        let is = (stands.rosters.each p).is in
        let ahead = (sound.times p).deadline (t + d) (ap (λ (x : Record). x.deadline) is ∙ ap (later d) h) in omega (arith, ahead, stands.rosters.time);
    workers = λ core o is.
        let at = sound.workers core o (stands.works core ∙ is) in omega (arith, at.known, stands.rosters.many);
  }

  -- the situation of the machine after an event
  pub stepped : (d : ℕ) (s : Situation) (event : Event)
      → AreAlikeSituations d s (step table (situation_of table machine) event) → Represents table d s (happen table machine event)
  stepped d s event alike =
      let done = deed table (situation_of table machine) event in
      let is = same_deed table machine event in
      let roster : (happen table machine event).roster ≡ done.outcome.roster = ap (λ (m : Machine). m.roster) is in
      record {
        rosters = rw roster alike.rosters;
        objects = same_objects table machine event (objects_happen table lawful machine sound event) ∙ alike.objects;
        works = λ core. ap (λ (m : Machine). open_work m core) is ∙ open_after machine (maker event) done sound.past core ∙ alike.works core;
        made = ap (λ (m : Machine). init_count m.history) is
            ∙ sum_by-append (λ (e : Entry). if is_by_init e.process then 1 else 0) machine.history (entry_of (length machine.history + 1) (maker event) done ∷ [])
            ∙ ap (λ (n : ℕ). init_count machine.history + n) (one_more (if is_by_init done.caller then 1 else 0)) ∙ alike.made;
      }

  pub steps_alike : (d : ℕ) (s : Situation) → Represents table d s machine → (event : Event) → StepsAlike table d s machine event
  steps_alike d s stands event =
      let steps = alike_steps table lawful d s (situation_of table machine) (situated d s stands) stands event in
      record { deeds = steps.deeds; happens = same_deed table machine event; stands = stepped d (step table s event) event steps.situations }

pub situations_step : (table : Table) → IsLawful table → SituationsStepAlike table
situations_step table lawful events d s room stands event =
    steps_alike table lawful (run table (opening table) events) (sound_run table lawful events) d s stands event

-- closed situations
module _ (table : Table) (lawful : IsLawful table) (Asked : List Event) (seen : List Situation) (closed : IsClosed table Asked seen) where
  seen_next : (machine : Machine) → IsSound table machine → IsSeen table seen machine → (event : Event) → IsAmong Asked event
      → IsSeen table seen (accept table machine event)
  seen_next machine sound is event asked = elim (cases_lt (length machine.history) table.limit) [
    | inl room ↦
        let next = (steps_alike table lawful machine sound is.later is.situation is.stands event).stands in
        let found = closed.steps is.place is.situation is.here asked.place event asked.here in
        subst (IsSeen table seen) (sym (accept-room table machine event room)) (record {
          place = found.place;
          situation = found.situation;
          later = found.later + is.later;
          here = found.here;
          stands = situations_then found.alike next;
        })
    | inr full ↦ subst (IsSeen table seen) (sym (accept-full table machine event full)) is
  ]

  seen_after : (machine : Machine) → IsSound table machine → IsSeen table seen machine → (events : List Event) → All (IsAmong Asked) events
      → IsSeen table seen (run table machine events)
  seen_after machine sound is [] all = is
  seen_after machine sound is (event ∷ events) all =
      seen_after (accept table machine event) (sound_accept table lawful machine sound event) (seen_next machine sound is event (all 0 event (omega arith)))
      events (λ k d within. all (suc k) d (omega (arith, within)))

pub closed_sees : (table : Table) → IsLawful table → ClosedSeesAll table
closed_sees table lawful Asked seen closed events all =
    seen_after table lawful Asked seen closed (opening table) (sound_opening table lawful) closed.opens events all

-- searches that have closed
module _ (table : Table) (lawful : IsLawful table) (asked : List Event) (seen : List Situation) (closed : HasClosed table asked seen) where
  -- a situation that stands for a sound machine has a canonical form
  fit : (machine : Machine) (sound : IsSound table machine) (d : ℕ) (s : Situation) → Represents table d s machine → IsFit s.roster
  fit machine sound d s stands =
      let facts = situated table lawful machine sound d s stands in
      record {
        stamped = stands.rosters.stamped;
        dues = facts.dues;
        deadlines = facts.deadlines;
        undue = λ p. (stands.rosters.each p).undue;
        before = λ p. (stands.rosters.each p).before;
        spans = λ p. (stands.rosters.each p).spans;
      }

  -- a situation that is held stands for the machine, if its canonical form does
  held : (machine : Machine) (d : ℕ) (s : Situation) → Holds seen s → Represents table d s machine → IsSeen table seen machine
  held machine d s holds stands = record {
    place = holds.place;
    situation = holds.situation;
    later = d;
    here = holds.here;
    stands = record {
      rosters = subst (λ (r : Roster). AreAlike d r machine.roster) (sym holds.same.roster) stands.rosters;
      objects = stands.objects ∙ sym holds.same.objects;
      works = λ core. stands.works core ∙ sym (holds.same.works core);
      made = stands.made ∙ sym holds.same.made;
    };
  }

  held_canonical : (machine : Machine) → IsSound table machine → (d : ℕ) (s : Situation) → Represents table d s machine
      → Holds seen (canonical s) → IsSeen table seen machine
  held_canonical machine sound d s stands holds =
      held machine _ (canonical s) holds (situations_then (canonical_situation s (fit machine sound d s stands)) stands)

  pub opens : IsSeen table seen (opening table)
  opens =
      let sound = sound_opening table lawful in
      let s = situation_of table (opening table) in
      held_canonical (opening table) sound 0 s
      (record {
        rosters = alike_itself (opening table).roster (record {
          stamped = sound.stamped;
          dues = λ p. (sound.times p).due;
          deadlines = λ p. (sound.times p).deadline;
          undue = λ p h. sound.orderly.starts.undue refl p;
          before = λ p. (sound.times p).release;
          spans = spans_of table lawful (opening table).roster sound.orderly.attributes;
        });
        objects = refl;
        works = λ core. refl;
        made = refl;
      })
      closed.opens

  pub next : (machine : Machine) → IsSound table machine → IsSeen table seen machine → (event : Event) → IsAmong asked event
      → IsSeen table seen (accept table machine event)
  next machine sound is event among = elim (cases_lt (length machine.history) table.limit) [
    | inl room ↦
        let after = happen table machine event in
        let stands = (steps_alike table lawful machine sound is.later is.situation is.stands event).stands in
        subst (IsSeen table seen) (sym (accept-room table machine event room))
        (held_canonical after (sound_happen table lawful machine sound event room) is.later (step table is.situation event) stands
        (closed.steps is.place is.situation is.here among.place event among.here))
    | inr full ↦ subst (IsSeen table seen) (sym (accept-full table machine event full)) is
  ]

  all_next : (machine : Machine) → IsSound table machine → IsSeen table seen machine → (events : List Event) → All (IsAmong asked) events
      → IsSeen table seen (run table machine events)
  all_next machine sound is [] all = is
  all_next machine sound is (event ∷ events) all =
      all_next (accept table machine event) (sound_accept table lawful machine sound event) (next machine sound is event (all 0 event (omega arith)))
      events (λ k d within. all (suc k) d (omega (arith, within)))

pub closed_search : (table : Table) → IsLawful table → ClosedSearchSeesAll table
closed_search table lawful asked seen closed events all =
    all_next table lawful asked seen closed (opening table) (sound_opening table lawful) (opens table lawful asked seen closed) events all
