-- The canonical form of a situation to which a schedule comes is that of its words.
use Rattle.std.proofs.Common.{◌≡◌, ℕ, ◌+◌, ◌*◌, ◌^◌, ◌<◌, ◌≤◌, length, ap, sym, ◌∙◌, refl, arith, subst, pos, inl, inr}
use Rattle.std.proofs.lemmas.Bool.{cases_lt}
use Rattle.std.proofs.lemmas.List.{get_or_default, get_or_past}
use Rattle.apex_alike.specs.Canonical.{canonical_record, canonical_roster, oldest_age, rank}
use Rattle.apex_laws.specs.Premises.{AreOf}
use Rattle.apex_machine.specs.Deeds.{Objects}
use Rattle.apex_machine.specs.processes.Roster.{Roster, nobody, record_at}
use Rattle.apex_machine.specs.services.BlackboardServices.{BlackboardObject, blackboard_kind}
use Rattle.apex_machine.specs.services.BufferServices.{BufferObject, buffer_kind}
use Rattle.apex_machine.specs.services.SemaphoreServices.{SemaphoreObject, semaphore_kind}
use Rattle.apex_machine.specs.table.Table.{IsLawful, Table, process_config}
use Rattle.apex_pace.specs.Pace.{Paced}
use Rattle.apex_types.proofs.Places.{get_or-map_places, length-map_places}
use Rattle.apex_types.specs.declared.limits.TheConstants.{MOST_MESSAGES}
use Rattle.apex_recall.proofs.Kept.{parts_kept}
use Rattle.apex_recall.proofs.ReachedNext.{canonical_fits}
use Rattle.apex_recall.proofs.WordsBack.{AreInBounds, IsHeld, words_back}
use Rattle.apex_forms.specs.Forms.{canonical_paced, kept_turns, kept_worked}
use Rattle.apex_recall.specs.Laws.{WordsAreExact}
use Rattle.apex_recall.specs.Reached.{IsReached, MessagesFit, ObjectsFit, ShownFits}
use Rattle.apex_recall.specs.Terms.{Pace, Record}

-- the record of a process in canonical form
pub record_is : (roster : Roster) (p : ℕ) → p < length roster.records
    → record_at (canonical_roster roster) p
    ≡ canonical_record roster (oldest_age roster.now roster.records) p (record_at roster p)
record_is roster p within =
    let now = oldest_age roster.now roster.records in
    let z : 0 + p ≡ p = omega arith in
    get_or-map_places (canonical_record roster now) 0 roster.records p nobody nobody within
    ∙ ap (λ k. canonical_record roster now k (record_at roster p)) z

-- the values of the objects fit in their words
objects_fit : (table : Table) → IsLawful table → (objects : Objects) → AreOf table objects
    → ObjectsFit table objects → AreInBounds objects
objects_fit table lawful objects many fit = record {
  semaphores = λ k d within.
      let own = fit.semaphores k in
      let most = (lawful.semaphores k (omega (arith, within, many.semaphores))).maximum in
      subst (λ (s : SemaphoreObject). s.value < 2 ^ 16)
      (get_or_default objects.semaphores k semaphore_kind.absent d within)
      (omega (arith, own.0, own.1, most.1));
  few = λ k d within.
      let own = fit.buffers k in
      let most = (lawful.buffers k (omega (arith, within, many.buffers))).capacity in
      subst (λ (b : BufferObject). length b.messages ≤ MOST_MESSAGES)
      (get_or_default objects.buffers k buffer_kind.absent d within)
      (omega (arith, own.few, own.capacity, most.1));
  messages = λ k d within. subst (λ (b : BufferObject). MessagesFit b.messages)
      (get_or_default objects.buffers k buffer_kind.absent d within) (fit.buffers k).messages;
  shown = λ k d within. subst (λ (b : BlackboardObject). ShownFits b.message)
      (get_or_default objects.blackboards k blackboard_kind.absent d within) (fit.blackboards k).1;
}

pub held : (pace : Pace) (table : Table) → IsLawful table → (s : Paced) → IsReached table s
    → IsHeld table (canonical_paced pace s)
held pace table lawful s reached =
    let roster = s.situation.roster in
    let now = oldest_age roster.now roster.records in
    let counted = length-map_places (canonical_record roster now) 0 roster.records in
    let in_form = canonical_fits table s.situation reached.fit reached.records in
    record {
      many = counted ∙ reached.of.records;
      attributes = λ p. elim (cases_lt p (length roster.records)) as (λ _.
          (record_at (canonical_roster roster) p).attributes
          ≡ (process_config table p).attributes) [
            | inl within ↦ ap (λ (r : Record). r.attributes) (record_is roster p within)
                ∙ reached.of.attributes p
            | inr past ↦
                let none_here : length (canonical_roster roster).records ≤ p = omega arith in
                ap (λ (r : Record). r.attributes)
                (get_or_past (canonical_roster roster).records p nobody none_here)
                ∙ sym (ap (λ (r : Record). r.attributes) (get_or_past roster.records p nobody past))
                ∙ reached.of.attributes p
          ];
      of = reached.of.objects;
      parts = record {
        cores = in_form.cores;
        records = counted ∙ reached.of.records;
        disciplines = in_form.disciplines;
        rules = in_form.rules;
        objects = (parts_kept table lawful s reached).objects;
      };
      young = ap (λ n. pos (1 + (n + 1) * n)) reached.of.records;
      old = refl;
      records = λ p within. in_form.each p;
      stamps = λ p within.
          let known : p < length roster.records = omega arith in (
            1 + (rank roster (record_at roster p) * length roster.records + p),
            ap (λ (r : Record). r.since) (record_is roster p known),
          );
      inboxes = λ p within.
          let known : p < length roster.records = omega arith in
          ap (λ (r : Record). r.inbox) (record_is roster p known);
      objects = objects_fit table lawful s.situation.objects reached.of.objects reached.objects;
      works = reached.works;
      turns = λ core past. ap (kept_turns pace) (reached.turns core past) ∙ omega arith;
      worked = λ core past. ap (λ o. kept_worked o (s.worked core)) (reached.works core past);
    }

pub words_exact : (table : Table) → IsLawful table → WordsAreExact table
words_exact table lawful = λ pace s reached.
    words_back table (canonical_paced pace s) (held pace table lawful s reached)
