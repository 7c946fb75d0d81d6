use Rattle.std.proofs.Common.{take}
use Rattle.apex_states.specs.Halves.{IsHalf, StillHas}
use Rattle.apex_states.specs.Keeping.{AreAllNumbered}
use Rattle.apex_states.proofs.keeping.number_all.Given as goal

abbrev pub invariant-loop-place : goal.invariant-loop-place
invariant-loop-place l = record {
  is_half : IsHalf l.half;
  has : StillHas l.initial.half l.half;
  numbered : AreAllNumbered l.half (take l.place l.expansions) l.numbers.items;
}
