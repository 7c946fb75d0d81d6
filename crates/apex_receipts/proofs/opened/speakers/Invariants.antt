use Rattle.std.proofs.Common.{◌≡◌, length, All}
use Rattle.apex_receipts.specs.Receipts.{IsSilent}
use Rattle.apex_receipts.proofs.opened.speakers.Given as goal

abbrev pub invariant-loop-core : goal.invariant-loop-core
invariant-loop-core l = record {
  many : length l.speakers.items ≡ l.core;
  silent : All (IsSilent l.seen.book) l.speakers.items;
}
