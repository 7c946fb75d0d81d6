-- No cell changes at an eventless entry.
use Rattle.apex_pictures.proofs.Eventless.{eventless_cells_stay}
use Rattle.apex_pictures.proofs.laws.eventless_cells_stay.Goals as goal

pub returns : goal.returns
returns c = eventless_cells_stay
