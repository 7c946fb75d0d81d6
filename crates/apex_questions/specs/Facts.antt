-- The facts of an entry for which a search looks.
use Rattle.std.specs.Prelude.{◌==◌, Bool, true, false, List, [], ◌∷◌}
use Rattle.apex_questions.specs.declared.facts.Fact.{Fact}
use Rattle.apex_questions.specs.declared.facts.Fact.TheVariants.{Missed, HardMissed, TimedOut, Lost, Ended, Refused, Response, Standstill}
use Rattle.apex_types.specs.declared.entries.ReturnCode.{ReturnCode}
use Rattle.apex_types.specs.declared.entries.ReturnCode.TheVariants as codes

-- the two codes are the same
abbrev pub is_code : ReturnCode → ReturnCode → Bool
is_code codes.NoError codes.NoError = true
is_code codes.NoAction codes.NoAction = true
is_code codes.NotAvailable codes.NotAvailable = true
is_code codes.InvalidParam codes.InvalidParam = true
is_code codes.InvalidConfig codes.InvalidConfig = true
is_code codes.InvalidMode codes.InvalidMode = true
is_code codes.TimedOut codes.TimedOut = true
is_code _ _ = false

-- the two facts are the same
abbrev pub is_fact : Fact → Fact → Bool
is_fact Missed Missed = true
is_fact HardMissed HardMissed = true
is_fact TimedOut TimedOut = true
is_fact Lost Lost = true
is_fact Ended Ended = true
is_fact (Refused one) (Refused other) = is_code one other
is_fact (Response one) (Response other) = one == other
is_fact Standstill Standstill = true
is_fact _ _ = false

-- each fact that takes no number, and each code with which services refuse a call
abbrev pub all_facts : List Fact
all_facts =
    Missed ∷ HardMissed ∷ TimedOut ∷ Lost ∷ Ended ∷ Standstill ∷ Refused codes.NoAction
    ∷ Refused codes.NotAvailable ∷ Refused codes.InvalidParam ∷ Refused codes.InvalidConfig
    ∷ Refused codes.InvalidMode ∷ []

-- the set has no fact
abbrev pub has_none : List Fact → Bool
has_none [] = true
has_none (fact ∷ facts) = false
