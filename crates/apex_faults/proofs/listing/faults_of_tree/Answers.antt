use Rattle.toml.specs.View.{view, members_view}
use Rattle.toml.specs.declared.value.Value.{Table}
use Rattle.toml.proofs.Views.{view-Table}
use Rattle.apex_faults.proofs.Mendings.{all_of_tree, first_of_tree}
use Rattle.apex_faults.proofs.listing.faults_of_tree.Goals as goal

pub add_faults-requires : goal.add_faults-requires
add_faults-requires c =
    first_of_tree c.args.text.now (members_view c.args.members.entries) (view (Table c.args.members)) c.in_ok-first.first c.requires (view-Table c.args.members) c.in_ok-first.ensures

pub returns : goal.returns
returns c =
    all_of_tree c.args.text.now (members_view c.args.members.entries) (view (Table c.args.members)) c.new-found.result.items _ c.requires (view-Table c.args.members) c.new-found.ensures.items
    c.in_ok-add_faults.ensures
