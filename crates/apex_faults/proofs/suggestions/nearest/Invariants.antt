use Rattle.std.proofs.Common.{◌≡◌, map, drop, fold, option_map, None}
use Rattle.apex_faults.specs.Suggestions.{nearer}
use Rattle.apex_faults.proofs.suggestions.nearest.Given as goal

-- the words that are left lead from the best one so far to the nearest one
abbrev pub invariant-loop-other : goal.invariant-loop-other
invariant-loop-other l =
    fold (nearer l.word) (option_map (λ w. w.now) l.best) (map (λ w. w.now) (drop l.other-index l.others))
    ≡ fold (nearer l.word) None (map (λ w. w.now) l.others)
