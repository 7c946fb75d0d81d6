use Rattle.apex_choices.specs.Counts.{paced_in}
use Rattle.apex_forms.specs.Forms.{canonical_paced}
use Rattle.apex_forms.specs.Parts.{IsPut}
use Rattle.apex_forms.specs.Stored.{cores_words}
use Rattle.apex_forms.proofs.stored.put_cores.Given as goal

-- the words of the cores so far
abbrev pub invariant-loop-number : goal.invariant-loop-number
invariant-loop-number l =
    IsPut (cores_words l.number (canonical_paced l.pace (paced_in l.fn.paced))) l.fn.at l.fn.words l.end l.words
