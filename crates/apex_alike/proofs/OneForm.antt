-- The canonical form of a machine decides its future.
use Rattle.std.proofs.Common.{◌≡◌, ℕ, suc, ◌-◌, ◌<◌, true, List, [], ◌∷◌, length, Option, None, Some, refl, sym, ◌∙◌, ap, subst, arith, inl, inr}
use Rattle.std.specs.Prelude.{All}
use Rattle.std.proofs.lemmas.Bool.{cases_lt}
use Rattle.apex_laws.specs.Terms.{Call, Event, Record, Reply}
use Rattle.apex_types.specs.declared.calls.Call.TheVariants.{Time}
use Rattle.apex_types.specs.declared.entries.Reply.TheVariants.{Value}
use Rattle.apex_types.specs.declared.calls.TimeCall.TheVariants.{GetTime}
use Rattle.apex_machine.specs.Deeds.{Deed}
use Rattle.apex_machine.specs.Machine.{Machine, accept, happen, opening, run}
use Rattle.apex_machine.specs.processes.Roster.{record_at}
use Rattle.apex_machine.specs.table.Table.{IsLawful, Table}
use Rattle.apex_alike.specs.Alike.{awaits_normal, later}
use Rattle.apex_alike.specs.Canonical.{IsFit, canonical, canonical_roster}
use Rattle.apex_alike.specs.AlikeSteps.{AreAlikeDeeds, AreAlikeSituations, later_reply}
use Rattle.apex_machine.specs.Situations.{Situation}
use Rattle.apex_alike.proofs.Canonical.{canonical_situation}
use Rattle.apex_alike.proofs.Chains.{alike_itself}
use Rattle.apex_alike.proofs.Complete.{same_canonical}
use Rattle.apex_alike.specs.Forms.{ComeToAll, ComesTo, DoTheSame, FormsDecide, HaveOneForm, RunsComeToAll, form, timeless}
use Rattle.apex_alike.specs.Closed.{IsAmong, IsSameSituation}
use Rattle.apex_alike.specs.StandIns.{Represents, StepsAlike}
use Rattle.apex_machine.specs.Machine.{situation_of}
use Rattle.apex_laws.proofs.Runs.{accept-full, accept-room}
use Rattle.apex_alike.proofs.SingleTicks.{same_alike, same_back, same_then}
use Rattle.apex_alike.proofs.Situated.{steps_alike}
use Rattle.apex_laws.proofs.Sound.{IsSound, sound_accept, sound_happen, sound_opening, sound_run}
use Rattle.apex_alike.proofs.Spans.{spans_of}

-- a shift of time does not show but in the value of GET_TIME
still_timeless : (d : ℕ) (call : Option Call) (reply : Reply) → timeless call (later_reply d call reply) ≡ timeless call reply
still_timeless d (Some (Time GetTime)) (Value t) = refl
still_timeless d call reply = refl

-- the forms of situations that are alike
one_form : {d : ℕ} {s t : Situation} → AreAlikeSituations d s t → IsSameSituation (canonical t) (canonical s)
one_form alike = record {
  roster = same_canonical alike.rosters;
  objects = alike.objects;
  works = alike.works;
  made = alike.made;
}

module _ (table : Table) (lawful : IsLawful table) where
  -- no process of a machine that waits for NORMAL has a due: so it is at the opening, and an event
  -- keeps it so
  abbrev HasNoEarlyDue : Machine → Type 0
  HasNoEarlyDue machine = (p : ℕ) → awaits_normal (record_at machine.roster p).wait ≡ true → (record_at machine.roster p).due ≡ None

  fit : (machine : Machine) → IsSound table machine → HasNoEarlyDue machine → IsFit machine.roster
  fit machine sound undue = record {
    stamped = sound.stamped;
    dues = λ p. (sound.times p).due;
    deadlines = λ p. (sound.times p).deadline;
    undue = undue;
    before = λ p. (sound.times p).release;
    spans = spans_of table lawful machine.roster sound.orderly.attributes;
  }

  -- the situation of a machine stands for it
  abbrev IsItself : Machine → Type 0
  IsItself machine = Represents table 0 (situation_of table machine) machine

  itself : (machine : Machine) → IsFit machine.roster → IsItself machine
  itself machine facts = record { rosters = alike_itself machine.roster facts; objects = refl; works = λ core. refl; made = refl }

  fit_itself : (machine : Machine) → IsSound table machine → IsItself machine → IsFit machine.roster
  fit_itself machine sound is = fit machine sound (λ p. (is.rosters.each p).undue)

  itself_opening : IsItself (opening table)
  itself_opening =
      let sound = sound_opening table lawful in
      itself (opening table) (fit (opening table) sound (λ p h. sound.orderly.starts.undue refl p))

  itself_happen : (machine : Machine) → IsSound table machine → IsItself machine → (event : Event) → length machine.history < table.limit
      → IsItself (happen table machine event)
  itself_happen machine sound is event room =
      let after = happen table machine event in
      let stands = (steps_alike table lawful machine sound 0 (situation_of table machine) is event).stands in
      itself after (fit after (sound_happen table lawful machine sound event room) (λ p h.
      let each = stands.rosters.each p in
      ap (λ (x : Record). x.due) each.is ∙ ap (later 0) (each.undue (sym (ap (λ (x : Record). awaits_normal x.wait) each.is) ∙ h))))

  itself_accept : (machine : Machine) → IsSound table machine → IsItself machine → (event : Event) → IsItself (accept table machine event)
  itself_accept machine sound is event = elim (cases_lt (length machine.history) table.limit) [
    | inl room ↦ subst IsItself (sym (accept-room table machine event room)) (itself_happen machine sound is event room)
    | inr full ↦ subst IsItself (sym (accept-full table machine event full)) is
  ]

  itself_after : (machine : Machine) → IsSound table machine → IsItself machine → (events : List Event) → IsItself (run table machine events)
  itself_after machine sound is [] = is
  itself_after machine sound is (event ∷ events) =
      itself_after (accept table machine event) (sound_accept table lawful machine sound event) (itself_accept machine sound is event) events

  -- its canonical form stands for it
  module _ (machine : Machine) (sound : IsSound table machine) (is : IsItself machine) where
    formed : Represents table (machine.roster.now - (canonical_roster machine.roster).now) (form table machine) machine
    formed = canonical_situation (situation_of table machine) (fit_itself machine sound is)

    formed_as : (other : Machine) → HaveOneForm table other machine
        → Represents table (machine.roster.now - (canonical_roster machine.roster).now) (form table other) machine
    formed_as other same = same_alike same formed

  -- two machines of one form
  module _ (one other : Machine) (sound : IsSound table one) (sound2 : IsSound table other) (is : IsItself one) (is2 : IsItself other)
      (same : HaveOneForm table one other) (event : Event) where
    first : StepsAlike table (one.roster.now - (canonical_roster one.roster).now) (form table one) one event
    first = steps_alike table lawful one sound _ (form table one) (formed one sound is) event

    second : StepsAlike table (other.roster.now - (canonical_roster other.roster).now) (form table one) other event
    second = steps_alike table lawful other sound2 _ (form table one) (formed_as other sound2 is2 one same) event

    replied_so : {d : ℕ} {x y : Deed} → AreAlikeDeeds d x y → timeless y.call y.outcome.reply ≡ timeless x.call x.outcome.reply
    replied_so {d} {x} {y} deeds =
        ap (λ (c : Option Call). timeless c y.outcome.reply) deeds.call ∙ ap (timeless x.call) deeds.reply ∙ still_timeless d x.call x.outcome.reply

    do_the_same : DoTheSame table one other event
    do_the_same = record {
      caller = first.deeds.caller ∙ sym second.deeds.caller;
      call = first.deeds.call ∙ sym second.deeds.call;
      reply = replied_so first.deeds ∙ sym (replied_so second.deeds);
      notices = first.deeds.notices ∙ sym second.deeds.notices;
      form = same_then (one_form first.stands) (same_back (one_form second.stands));
    }

  pub forms_decide : FormsDecide table
  forms_decide events events2 room room2 same event =
      let start = sound_opening table lawful in
      do_the_same (run table (opening table) events) (run table (opening table) events2)
      (sound_run table lawful events) (sound_run table lawful events2)
      (itself_after (opening table) start itself_opening events) (itself_after (opening table) start itself_opening events2) same event

  -- runs that come to every form
  module _ (asked : List Event) (runs : List (List Event)) (all_forms : ComeToAll table asked runs) where
    come_next : (machine : Machine) → IsSound table machine → IsItself machine → ComesTo table runs machine
        → (event : Event) → IsAmong asked event → ComesTo table runs (accept table machine event)
    come_next machine sound is comes event among = elim (cases_lt (length machine.history) table.limit) [
      | inl room ↦
          let past = run table (opening table) comes.events in
          let past_is = itself_after (opening table) (sound_opening table lawful) itself_opening comes.events in
          let does = do_the_same past machine (sound_run table lawful comes.events) sound past_is is comes.same event in
          let found = all_forms.steps comes.place comes.events comes.here among.place event among.here in
          subst (ComesTo table runs) (sym (accept-room table machine event room)) (record {
            place = found.place;
            events = found.events;
            here = found.here;
            same = same_then found.same does.form;
          })
      | inr full ↦ subst (ComesTo table runs) (sym (accept-full table machine event full)) comes
    ]

    come_after : (machine : Machine) → IsSound table machine → IsItself machine → ComesTo table runs machine
        → (events : List Event) → All (IsAmong asked) events → ComesTo table runs (run table machine events)
    come_after machine sound is comes [] all = comes
    come_after machine sound is comes (event ∷ events) all =
        come_after (accept table machine event) (sound_accept table lawful machine sound event) (itself_accept machine sound is event)
        (come_next machine sound is comes event (all 0 event (omega arith))) events (λ k d within. all (suc k) d (omega (arith, within)))

pub runs_come_to_all : (table : Table) → IsLawful table → RunsComeToAll table
runs_come_to_all table lawful asked runs all_forms events all =
    come_after table lawful asked runs all_forms (opening table) (sound_opening table lawful) (itself_opening table lawful) all_forms.opens events all
