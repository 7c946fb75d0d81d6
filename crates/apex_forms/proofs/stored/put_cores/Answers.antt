use Rattle.std.proofs.Common.{◌≡◌, ◌∙◌, ℕ, Option, ap, length, subst, arith}
use Rattle.apex_forms.proofs.Lengths.{core_put, core_words_same, length-core, length-cores}
use Rattle.apex_choices.specs.Counts.{paced_in}
use Rattle.apex_forms.specs.Forms.{canonical_paced, kept_turns, kept_worked}
use Rattle.apex_forms.specs.Parts.{IsPut}
use Rattle.apex_forms.specs.Stored.{cores_words}
use Rattle.apex_forms.specs.Terms.{OpenWork}
use Rattle.apex_forms.proofs.stored.put_cores.Goals as goal

pub put-end-requires : goal.put-end-requires
put-end-requires c =
    let s = canonical_paced c.args.pace (paced_in c.args.paced.now) in
    let one = ap length c.core_words.ensures
    ∙ length-core c.work-in-loop-number.result c.kept_turns-turns.result c.kept_worked-worked.result in
    let here = length-cores c.loop-number.number s in
    let all = length-cores c.args.table.now.cores s in
    omega arith

pub loop-number-preserved : goal.loop-number-preserved
loop-number-preserved c =
    let p = paced_in c.args.paced.now in
    let s = canonical_paced c.args.pace p in
    let n = c.loop-number.number in
    let begun : c.work.result ≡ (paced_in c.args.paced.now).situation.works n = cc in
    let again : c.work-in-loop-number.result ≡ (paced_in c.args.paced.now).situation.works n = cc in
    let own_turns : c.turns.result ≡ (paced_in c.args.paced.now).turns n = cc in
    let own_worked : c.worked.result ≡ (paced_in c.args.paced.now).worked n = cc in
    let turns = c.kept_turns-turns.ensures ∙ ap (kept_turns c.args.pace) own_turns in
    let worked = c.kept_worked-worked.ensures ∙ ap (kept_worked c.work.result) own_worked
    ∙ ap (λ (o : Option OpenWork). kept_worked o (p.worked n)) begun in
    core_put n s c.core_words.result c.args.at c.loop-number.end c.put-end.result c.args.words.now
    c.loop-number.words c.put-end.new.words
    (c.core_words.ensures ∙ core_words_same c.work-in-loop-number.result (s.situation.works n)
    c.kept_turns-turns.result (s.turns n) c.kept_worked-worked.result (s.worked n) again turns worked)
    c.loop-number.invariant c.put-end.ensures

pub returns : goal.returns
returns c =
    let e : c.loop-number.number ≡ c.args.table.now.cores = omega arith in
    subst (λ (n : ℕ). IsPut (cores_words n (canonical_paced c.args.pace (paced_in c.args.paced.now))) c.args.at c.args.words.now
    c.loop-number.end c.loop-number.words) e c.loop-number.invariant
