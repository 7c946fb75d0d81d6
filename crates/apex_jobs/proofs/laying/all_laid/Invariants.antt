use Rattle.std.proofs.Common.{◌≡◌, ℕ, ◌<◌, Some}
use Rattle.std.specs.List.{slice_get}
use Rattle.apex_jobs.specs.Rounds.{IsLaid}
use Rattle.apex_jobs.proofs.laying.all_laid.Given as goal

abbrev pub invariant-loop-place : goal.invariant-loop-place
invariant-loop-place g l = (at : ℕ) (desk : _) → at < l.place → slice_get l.desks at ≡ Some desk → IsLaid desk
