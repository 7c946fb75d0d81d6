-- The place of a schedule's fault.
use Rattle.std.proofs.Common.{◌≤◌, List, ℕ, length}
use Rattle.apex_schedules.specs.Readings.{IsFaultOf}
use Rattle.apex_schedules.specs.declared.Place.{Place}
use Rattle.apex_showings.specs.Schedules.{fault_at}
use Rattle.apex_showings.specs.declared.schedules.ScheduleReason.{ScheduleReason}
use Rattle.apex_showings.specs.declared.schedules.ScheduleReason.TheVariants.{IllFormed, TooMany}

-- it is in the text, or at its end
pub within_text : (text : List ℕ) (reason : ScheduleReason) (place : Place) → IsFaultOf text (fault_at reason place) → place.byte ≤ length text
within_text text IllFormed place (none, first) = first.behind.within.0
within_text text TooMany place (many, first) = first.behind.within.0
