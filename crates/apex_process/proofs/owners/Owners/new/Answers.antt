use Rattle.apex_links.specs.declared.numbers.TheConstants.{ID_PLACES}
use Rattle.apex_process.proofs.Owning.{none_owned}
use Rattle.apex_process.proofs.owners.Owners.new.Goals as goal

pub returns : goal.returns
returns c = rw (c.in_ok-vec.ensures.items_if_clones_equal (λ y e. e)) (none_owned ID_PLACES)
