use Rattle.std.proofs.Common.{◌≡◌, ◌+◌, length, option_map}
use Rattle.std.specs.Option.{option_map_or}
use Rattle.apex_history.specs.Words.{parts_after}
use Rattle.apex_schedules.specs.Schedule.{items_of}
use Rattle.apex_schedules.proofs.Items.{items_in, joined}
use Rattle.apex_schedules.proofs.schedule.read_schedule.Given as goal

abbrev pub invariant-loop-rest : goal.invariant-loop-rest
invariant-loop-rest l =
    items_of l.text ≡ joined l.items.items (items_in (parts_after 32 (option_map (λ r. r.now) l.rest)))

abbrev pub decreases-loop-rest : goal.decreases-loop-rest
decreases-loop-rest l = option_map_or (λ r. length r.now + 1) l.rest 0
