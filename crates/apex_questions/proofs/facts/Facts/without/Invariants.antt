use Rattle.std.proofs.Common.{◌≡◌, ◌≤◌, length, not, take}
use Rattle.std.specs.List.{filter}
use Rattle.apex_questions.specs.Facts.{is_fact}
use Rattle.apex_questions.proofs.facts.Facts.without.Given as goal

-- the other facts so far
abbrev pub invariant-loop-other : goal.invariant-loop-other
invariant-loop-other l = record {
  kept : l.others.items ≡ filter (λ other. not (is_fact l.fact other)) (take l.other-index l.other-items);
  few : length l.others.items ≤ l.other-index;
}
