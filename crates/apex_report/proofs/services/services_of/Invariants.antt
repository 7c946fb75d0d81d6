use Rattle.std.proofs.Common.{◌≡◌, take, map}
use Rattle.apex_report.specs.Services.{row_figures}
use Rattle.apex_report.proofs.services.services_of.Given as goal

abbrev pub invariant-loop-row : goal.invariant-loop-row
invariant-loop-row l = l.services.items ≡ map row_figures (take l.row-index l.rows)
