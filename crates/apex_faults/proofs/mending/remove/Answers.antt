use Rattle.std.proofs.Common.{◌∙◌, ap}
use Rattle.toml.specs.View.{members_view}
use Rattle.apex_faults.proofs.Trees.{member_removed}
use Rattle.apex_faults.proofs.mending.remove.Goals as goal

pub returns : goal.returns
returns c =
    ap members_view c.remove.ensures.entries ∙ member_removed c.args.name.now c.args.members.now.entries
