use Rattle.apex_choices.specs.Counts.{paced_in}
use Rattle.apex_forms.specs.Forms.{kept_turns, kept_worked}
use Rattle.apex_forms.proofs.Counting.{AreKept}
use Rattle.apex_forms.proofs.canonical.kept_counts.Given as goal

abbrev pub invariant-loop-number : goal.invariant-loop-number
invariant-loop-number l =
    let s = paced_in l.paced in
    record {
      turns : AreKept (λ core. kept_turns l.pace (s.turns core)) l.number l.counts.turns;
      worked : AreKept (λ core. kept_worked (s.situation.works core) (s.worked core)) l.number l.counts.worked;
    }
