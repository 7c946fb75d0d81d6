-- The faults of a schedule's text.
use Rattle.std.specs.Prelude.{◌≡◌, ℕ, List, take}
use Rattle.apex_schedules.specs.Groups.{column_behind, line_behind}
use Rattle.apex_schedules.specs.Readings.{IsFaultOf}
use Rattle.apex_schedules.specs.declared.Place.{Place}
use Rattle.apex_schedules.specs.declared.ScheduleFault.{ScheduleFault}
use Rattle.apex_schedules.specs.declared.ScheduleFault.TheVariants as schedules
use Rattle.apex_showings.specs.declared.schedules.BadSchedule.{BadSchedule}
use Rattle.apex_showings.specs.declared.schedules.ItemsFault.{ItemsFault}
use Rattle.apex_showings.specs.declared.schedules.ItemsFault.TheVariants.{Memory, Schedule}
use Rattle.apex_showings.specs.declared.schedules.ScheduleReason.{ScheduleReason}
use Rattle.apex_showings.specs.declared.schedules.ScheduleReason.TheVariants.{IllFormed, TooMany}

-- the fault of a schedule's text for this reason, at a place
abbrev pub fault_at : ScheduleReason → Place → ScheduleFault
fault_at IllFormed place = schedules.IllFormed place
fault_at TooMany place = schedules.TooMany place

-- the fault for this reason, at a place of a schedule's text
abbrev pub bad_of : ScheduleReason → Place → List ℕ → BadSchedule
bad_of reason place text = record {
  reason = reason;
  item = place.item;
  line = line_behind (take place.byte text);
  column = column_behind (take place.byte text);
}

-- a schedule's text has this fault: its place is that of the text's fault
pub record IsBadIn (text : List ℕ) (bad : BadSchedule) : Type 0 where
  pub place : Place
  pub has : IsFaultOf text (fault_at bad.reason place)
  pub is : bad ≡ bad_of bad.reason place text

-- memory was refused, or a schedule's text has this fault
abbrev pub IsFaultIn : List ℕ → ItemsFault → Type 0
IsFaultIn text Memory = Unit {0}
IsFaultIn text (Schedule bad) = IsBadIn text bad
