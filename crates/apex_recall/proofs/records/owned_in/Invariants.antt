use Rattle.std.proofs.Common.{◌≡◌, ◌≤◌, length, take}
use Rattle.apex_recall.specs.Records.{owned_in}
use Rattle.apex_recall.proofs.records.owned_in.Given as goal

-- the mutexes of the words so far
abbrev pub invariant-loop-word : goal.invariant-loop-word
invariant-loop-word l = record {
  kept : l.owned ≡ owned_in (take l.word-index l.words);
  few : length l.owned ≤ l.word-index;
}
