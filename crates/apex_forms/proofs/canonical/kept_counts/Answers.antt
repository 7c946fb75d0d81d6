use Rattle.std.proofs.Common.{◌≡◌, ◌∙◌, Option, ap}
use Rattle.apex_choices.specs.Counts.{StoredPaced, count_at, paced_in}
use Rattle.apex_forms.specs.Forms.{kept_turns, kept_worked}
use Rattle.apex_forms.specs.Terms.{OpenWork}
use Rattle.apex_forms.proofs.Counting.{kept_more}
use Rattle.apex_forms.proofs.canonical.kept_counts.Goals as goal

pub loop-number-preserved : goal.loop-number-preserved
loop-number-preserved c =
    let s = paced_in c.args.paced.now in
    let core = c.new-core.result in
    let turns : c.kept_turns-turns.result ≡ kept_turns c.args.pace (s.turns core) =
    c.kept_turns-turns.ensures ∙ ap (kept_turns c.args.pace)
    (c.turns.ensures ∙ ap (λ (p : StoredPaced). count_at p.counts.turns core) c.paced.view_is) in
    let worked : c.kept_worked-worked.result ≡ kept_worked (s.situation.works core) (s.worked core) =
    c.kept_worked-worked.ensures ∙ ap (kept_worked c.work.result)
    (c.worked.ensures ∙ ap (λ (p : StoredPaced). count_at p.counts.worked core) c.paced.view_is)
    ∙ ap (λ (o : Option OpenWork). kept_worked o (s.worked core)) c.work.ensures in
    record {
      turns = kept_more (λ core. kept_turns c.args.pace (s.turns core)) c.loop-number.counts.turns c.set.new.self.turns c.loop-number.number core
          c.kept_turns-turns.result c.loop-number.invariant.turns c.set.ensures.turns c.new-core.ensures turns;
      worked = kept_more (λ core. kept_worked (s.situation.works core) (s.worked core)) c.loop-number.counts.worked c.set.new.self.worked c.loop-number.number
          core c.kept_worked-worked.result c.loop-number.invariant.worked c.set.ensures.worked c.new-core.ensures worked;
    }
