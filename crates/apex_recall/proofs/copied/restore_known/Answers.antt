use Rattle.std.proofs.Common.{length, ◌≡◌, ◌≤◌, ◌∙◌, ◌+◌, ◌*◌, ap, of_z, pos, subst, sym, to_z, w64, arith}
use Rattle.std.proofs.lemmas.Int.{to_z_pos}
use Rattle.apex_dispatch.specs.Situations.{situation_with}
use Rattle.apex_machine.specs.Situations.{Situation}
use Rattle.apex_types.proofs.Places.{length-map_places}
use Rattle.apex_recall.proofs.Places.{entry_record}
use Rattle.apex_recall.proofs.Restoring.{few_stamps, roster_restored}
use Rattle.apex_recall.proofs.Copying.{of_kinds, works_kept}
use Rattle.apex_choices.specs.Counts.{StoredPaced, paced_in}
use Rattle.apex_machine.specs.processes.Roster.{Roster}
use Rattle.apex_recall.specs.Restored.{IsOfTable, roster_from}
use Rattle.apex_types.specs.declared.limits.TheConstants.{MOST_CORES}
use Rattle.apex_recall.proofs.copied.restore_known.Goals as goal

pub returns : goal.returns
returns c =
    let table = c.args.table.now in
    let words = c.args.words.now in
    let same : (paced_in c.args.paced).situation ≡ situation_with c.into_parts-store.result.0
    c.into_parts-store.result.1 c.into_parts-store.result.2 c.into_parts-store.result.3 =
    sym (ap (λ (p : StoredPaced). (paced_in p).situation) c.paced.view_is)
    ∙ c.into_parts-store.ensures.situation in
    let of = subst (IsOfTable c.args.table.now) same c.requires.table in
    let new = c.new.ensures.situation in
    let few_cores : table.cores ≤ MOST_CORES = omega (arith, c.lawful.ensures.cores) in
    let many = c.process_count.ensures.value ∙ of.records in
    let few = few_stamps c.process_count.result c.process_count.ensures.range in
    let n = c.process_count.result in
    let stamp : to_z w64 (of_z w64 c.first_stamp-young.result) ≡ pos (1 + (n + 1) * n) =
    ap (λ z. to_z w64 (of_z w64 z)) c.first_stamp-young.ensures
    ∙ to_z_pos w64 (1 + (n + 1) * n) (omega arith) in
    let known : (paced_in c.args.known.now).situation.roster ≡ roster_from table words = c.requires.known.situation.roster in
    let copy = c.put_all.ensures
    ∙ ap (λ (r : Roster). record c.into_parts-store.result.0 { records = r.records }) (c.store.ensures.roster ∙ ap (λ (p : StoredPaced). (paced_in p).situation.roster) c.known.view_is ∙ known) in
    let objects = c.objects.ensures ∙ ap (λ (p : StoredPaced). (paced_in p).situation.objects) c.known.view_is ∙ c.requires.known.situation.objects in
    record {
      situation = record {
        roster = ap (λ (s : Situation). s.roster) new
            ∙ roster_restored table words c.into_parts-store.result.0
            c.put_all.new.self c.set_clock.new.self c.mode_in.result
            (to_z w64 (of_z w64 c.first_stamp-young.result)) of.cores of.disciplines of.rules copy
            c.set_clock.ensures c.mode_in.ensures
            (stamp ∙ ap (λ k. pos (1 + (k + 1) * k)) many);
        objects = ap (λ (s : Situation). s.objects) new ∙ c.copy_objects.ensures ∙ objects;
        works = λ core. ap (λ (s : Situation). s.works core) new ∙ c.works_of.ensures core
            ∙ works_kept table.cores MOST_CORES words (paced_in c.args.known.now).situation.works core few_cores
            (c.requires.known.situation.works core);
        made = ap (λ (s : Situation). s.made) new;
      };
      turns = λ core. c.counts_of.ensures.turns core ∙ c.requires.known.turns core;
      worked = λ core. c.counts_of.ensures.worked core ∙ c.requires.known.worked core;
    }

pub put_all-requires : goal.put_all-requires
put_all-requires c =
    let same : (paced_in c.args.paced).situation ≡ situation_with c.into_parts-store.result.0
    c.into_parts-store.result.1 c.into_parts-store.result.2 c.into_parts-store.result.3 =
    sym (ap (λ (p : StoredPaced). (paced_in p).situation) c.paced.view_is)
    ∙ c.into_parts-store.ensures.situation in
    let of = subst (IsOfTable c.args.table.now) same c.requires.table in
    let known : (paced_in c.args.known.now).situation.roster ≡ roster_from c.args.table.now c.args.words.now = c.requires.known.situation.roster in
    of.records ∙ sym (length-map_places (entry_record c.args.table.now c.args.words.now) 0 c.args.table.now.processes)
    ∙ ap (λ (r : Roster). length r.records) (sym (c.store.ensures.roster ∙ ap (λ (p : StoredPaced). (paced_in p).situation.roster) c.known.view_is ∙ known))

pub copy_objects-requires : goal.copy_objects-requires
copy_objects-requires c =
    let same : (paced_in c.args.paced).situation ≡ situation_with c.into_parts-store.result.0
    c.into_parts-store.result.1 c.into_parts-store.result.2 c.into_parts-store.result.3 =
    sym (ap (λ (p : StoredPaced). (paced_in p).situation) c.paced.view_is)
    ∙ c.into_parts-store.ensures.situation in
    let of = subst (IsOfTable c.args.table.now) same c.requires.table in
    let objects = c.objects.ensures ∙ ap (λ (p : StoredPaced). (paced_in p).situation.objects) c.known.view_is ∙ c.requires.known.situation.objects in
    of_kinds c.args.table.now c.args.words.now c.into_parts-store.result.1 c.objects.result.now of.objects objects
