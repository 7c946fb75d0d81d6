-- The processes that the notices so far wake are found.
use Rattle.std.proofs.Common.{◌≡◌, ◌≤◌, List, length, take}
use Rattle.std.specs.List.{filter_map}
use Rattle.apex_report.specs.Latest.{latest_calls}
use Rattle.apex_report.specs.Terms.{Entry}
use Rattle.apex_report.specs.Waits.{waking_by}
use Rattle.apex_report.proofs.waits.LatestCalls.find.Given as goal

abbrev pub invariant-loop-notice : goal.invariant-loop-notice
invariant-loop-notice l = record {
  found : (history : List Entry) → l.self ≡ latest_calls history
      → l.wakings ≡ filter_map (waking_by history) (take l.notice-index l.entry.notices);
  few : length l.wakings ≤ l.notice-index;
}
