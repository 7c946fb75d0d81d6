use Rattle.std.proofs.Common.{◌≡◌, ◌≤◌, length, take}
use Rattle.apex_recall.specs.Objects.{messages_in}
use Rattle.apex_recall.proofs.objects.messages_in.Given as goal

-- the messages of the words so far
abbrev pub invariant-loop-word : goal.invariant-loop-word
invariant-loop-word l = record {
  kept : l.messages.items ≡ messages_in (take l.word-index l.words);
  few : length l.messages.items ≤ l.word-index;
}
