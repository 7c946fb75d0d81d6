-- The trees alone go on.
use Rattle.std.proofs.Common.{refl}
use Rattle.apex_states.proofs.Halving.{IsHalf-on}
use Rattle.apex_states.proofs.halves.Half.translate.Goals as goal

pub returns-clause-half : goal.returns-clause-half
returns-clause-half c = IsHalf-on c.args.self.now _ c.requires.half c.translate.ensures.held c.translate.ensures.exact refl refl refl refl refl
