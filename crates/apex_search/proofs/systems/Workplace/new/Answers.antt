use Rattle.std.proofs.Common.{refl}
use Rattle.apex_choices.specs.Counts.{paced_in}
use Rattle.apex_search.proofs.Starting.{opened_parts}
use Rattle.apex_search.proofs.systems.Workplace.new.Goals as goal

pub returns : goal.returns
returns c = record {
  here = c.in_ok-here.here;
  made = c.in_ok-made.made;
  is_here = refl;
  is_made = refl;
  here_of = opened_parts c.args.table.now c.lawful.ensures c.requires c.parts_are_kept.ensures (paced_in c.in_ok-here.here) c.in_ok-here.ensures;
  made_of = opened_parts c.args.table.now c.lawful.ensures c.requires c.parts_are_kept.ensures (paced_in c.in_ok-made.made) c.in_ok-made.ensures;
}
