use Rattle.std.proofs.Common.{◌≡◌, ◌∙◌, ◌+◌, ◌*◌, ap, of_z, pos, subst, sym, to_z, w64, arith}
use Rattle.std.proofs.lemmas.Int.{to_z_pos}
use Rattle.apex_dispatch.specs.Situations.{situation_with}
use Rattle.apex_machine.specs.Situations.{Situation}
use Rattle.apex_recall.proofs.Restoring.{few_stamps, objects_fit, roster_restored}
use Rattle.apex_choices.specs.Counts.{StoredPaced, paced_in}
use Rattle.apex_recall.specs.Restored.{IsOfTable, objects_from, turns_in, worked_in, works_in}
use Rattle.apex_recall.proofs.restored.restore.Goals as goal

pub restore_objects-requires : goal.restore_objects-requires
restore_objects-requires c =
    let same : (paced_in c.args.paced).situation ≡ situation_with c.into_parts-store.result.0
    c.into_parts-store.result.1 c.into_parts-store.result.2 c.into_parts-store.result.3 =
    sym (ap (λ (p : StoredPaced). (paced_in p).situation) c.paced.view_is)
    ∙ c.into_parts-store.ensures.situation in
    let of = subst (IsOfTable c.args.table.now) same c.requires.table in
    let fit = objects_fit c.args.table.now (situation_with c.into_parts-store.result.0
    c.into_parts-store.result.1 c.into_parts-store.result.2 c.into_parts-store.result.3)
    c.args.words.now of c.requires.words.many in
    let cores = c.from.ensures ∙ c.cores-cores.ensures.value in
    omega arith

pub returns : goal.returns
returns c =
    let table = c.args.table.now in
    let words = c.args.words.now in
    let same : (paced_in c.args.paced).situation ≡ situation_with c.into_parts-store.result.0
    c.into_parts-store.result.1 c.into_parts-store.result.2 c.into_parts-store.result.3 =
    sym (ap (λ (p : StoredPaced). (paced_in p).situation) c.paced.view_is)
    ∙ c.into_parts-store.ensures.situation in
    let of = subst (IsOfTable c.args.table.now) same c.requires.table in
    let new = c.new.ensures.situation in
    let cores = c.cores-cores.ensures.value in
    let place = ap (λ n. 3 + n * 5) (c.from.ensures ∙ cores) in
    let many = c.process_count.ensures.value ∙ of.records in
    let few = few_stamps c.process_count.result c.process_count.ensures.range in
    let n = c.process_count.result in
    let stamp : to_z w64 (of_z w64 c.first_stamp-young.result) ≡ pos (1 + (n + 1) * n) =
    ap (λ z. to_z w64 (of_z w64 z)) c.first_stamp-young.ensures
    ∙ to_z_pos w64 (1 + (n + 1) * n) (omega arith) in
    record {
      situation = record {
        roster = ap (λ (s : Situation). s.roster) new
            ∙ roster_restored table words c.into_parts-store.result.0
            c.restore_records.new.store c.set_clock.new.self c.mode_in.result
            (to_z w64 (of_z w64 c.first_stamp-young.result)) of.cores of.disciplines of.rules c.restore_records.ensures
            c.set_clock.ensures c.mode_in.ensures
            (stamp ∙ ap (λ k. pos (1 + (k + 1) * k)) many);
        objects = ap (λ (s : Situation). s.objects) new ∙ c.restore_objects.ensures
            ∙ ap (objects_from c.into_parts-store.result.1 words) place ∙ of.objects words;
        works = λ core. ap (λ (s : Situation). s.works core) new ∙ c.works_in-works.ensures core
            ∙ ap (λ n. works_in n words core) cores;
        made = ap (λ (s : Situation). s.made) new;
      };
      turns = λ core. c.counts_in.ensures.turns core ∙ ap (λ n. turns_in n words core) cores;
      worked = λ core. c.counts_in.ensures.worked core ∙ ap (λ n. worked_in n words core) cores;
    }
