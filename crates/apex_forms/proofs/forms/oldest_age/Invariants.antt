use Rattle.std.proofs.Common.{◌≡◌, ◌≤◌, max, drop}
use Rattle.apex_alike.specs.Canonical.{oldest_age}
use Rattle.apex_forms.proofs.forms.oldest_age.Given as goal

abbrev pub invariant-loop-place : goal.invariant-loop-place
invariant-loop-place l =
    (max l.oldest (oldest_age l.store.now (drop l.place l.store.records)) ≡ oldest_age l.store.now l.store.records)
    × (l.oldest ≤ l.store.now)
