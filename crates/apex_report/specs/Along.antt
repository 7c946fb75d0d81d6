-- What the entries of a history give one after the other, each by the history before it.
use Rattle.std.specs.Prelude.{List, [], ◌∷◌, ◌++◌}
use Rattle.apex_report.specs.Terms.{Entry}

-- what these entries give after a history, in order
abbrev pub along : {X : Type 0} → (List Entry → Entry → List X) → List Entry → List Entry → List X
along gives before [] = []
along gives before (e ∷ later) = gives before e ++ along gives (before ++ e ∷ []) later
