use Rattle.apex_choices.proofs.Same.{same_from}
use Rattle.apex_choices.proofs.paced.PacedSituation.opening.Goals as goal

pub returns : goal.returns
returns c = record {
  situation = same_from _ _ c.in_ok-opening.ensures.situation;
  turns = c.new-2.ensures.turns;
  worked = c.new-2.ensures.worked;
}
