use Rattle.std.proofs.Common.{◌≡◌, ◌<◌, ℕ, get_or, length}
use Rattle.apex_forms.proofs.parts.set_all.Given as goal

-- the words so far are as the others
abbrev pub invariant-loop-place : goal.invariant-loop-place
invariant-loop-place l = record {
  many : length l.words ≡ length l.others;
  done : (p : ℕ) → p < l.place → get_or l.words p 0 ≡ get_or l.others p 0;
}
