use Rattle.apex_choices.specs.Counts.{paced_in}
use Rattle.apex_forms.proofs.Counting.{AreKept}
use Rattle.apex_recall.proofs.copied.counts_of.Given as goal

-- what is counted of the cores so far
abbrev pub invariant-loop-number : goal.invariant-loop-number
invariant-loop-number l = record {
  turns : AreKept (paced_in l.paced).turns l.number l.counts.turns;
  worked : AreKept (paced_in l.paced).worked l.number l.counts.worked;
}
