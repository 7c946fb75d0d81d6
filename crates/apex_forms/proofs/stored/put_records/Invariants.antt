use Rattle.std.proofs.Common.{take}
use Rattle.apex_alike.specs.Canonical.{canonical_roster}
use Rattle.apex_forms.specs.Parts.{IsPut}
use Rattle.apex_forms.specs.Stored.{records_words}
use Rattle.apex_forms.proofs.stored.put_records.Given as goal

-- the words of the processes so far
abbrev pub invariant-loop-place : goal.invariant-loop-place
invariant-loop-place l = IsPut (records_words (take l.place l.processes)
    (take l.place (canonical_roster l.store).records)) l.fn.at l.fn.words l.end l.words
