use Rattle.std.proofs.Common.{take}
use Rattle.std.specs.List.{flat_map}
use Rattle.apex_forms.specs.Parts.{IsPut}
use Rattle.apex_forms.proofs.parts.put_all.Given as goal

-- the words of those so far
abbrev pub invariant-loop-part : goal.invariant-loop-part
invariant-loop-part g l =
    IsPut (flat_map g.P.Stored.stored (take l.part-index l.parts)) l.fn.at l.fn.words l.end l.words
