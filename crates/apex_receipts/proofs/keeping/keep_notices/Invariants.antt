use Rattle.std.proofs.Common.{◌≡◌, take}
use Rattle.apex_receipts.proofs.keeping.keep_notices.Given as goal

abbrev pub invariant-loop-notice : goal.invariant-loop-notice
invariant-loop-notice l = l.kept ≡ take l.notice-index l.notices
