use Rattle.apex_forms.specs.Forms.{AreCounted}
use Rattle.apex_forms.proofs.forms.put_ranks.Given as goal

abbrev pub invariant-loop-place : goal.invariant-loop-place
invariant-loop-place l = AreCounted l.store l.ranks l.place l.place
