use Rattle.std.proofs.Common.{◌≡◌, ◌++◌, take, drop}
use Rattle.apex_types.specs.Places.{map_places}
use Rattle.apex_recall.specs.Restored.{part}
use Rattle.apex_recall.proofs.restored.restore_all.Given as goal

-- those so far are restored
abbrev pub invariant-loop-place : goal.invariant-loop-place
invariant-loop-place g l = l.parts ≡ map_places
    (λ k p. g.P.Restored.restored p (part l.words l.from k g.P.Restored.WORDS)) 0
    (take l.place l.fn.parts) ++ drop l.place l.fn.parts
