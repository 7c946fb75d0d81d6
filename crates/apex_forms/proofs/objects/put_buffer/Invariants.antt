use Rattle.std.proofs.Common.{◌≡◌, ◌≤◌, ◌+◌, ◌∷◌, length, take}
use Rattle.apex_forms.specs.Codes.{flag_word}
use Rattle.apex_forms.specs.Objects.{messages_words}
use Rattle.apex_forms.specs.declared.objects.TheConstants.{BUFFER_WORDS}
use Rattle.apex_forms.proofs.objects.put_buffer.Given as goal

-- the words so far
abbrev pub invariant-loop-place : goal.invariant-loop-place
invariant-loop-place l = record {
  written : take (1 + l.place) l.words
      ≡ flag_word l.buffer.created ∷ messages_words l.buffer.messages l.place;
  many : length l.words ≡ BUFFER_WORDS;
}

-- and zeros behind them
abbrev pub invariant-loop-behind : goal.invariant-loop-behind
invariant-loop-behind l = record {
  written : take (1 + l.behind) l.words
      ≡ flag_word l.buffer.created ∷ messages_words l.buffer.messages l.behind;
  many : length l.words ≡ BUFFER_WORDS;
  none : length l.buffer.messages ≤ l.behind;
}
