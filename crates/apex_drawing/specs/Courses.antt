-- A run that is drawn, without its history.
use Rattle.std.specs.Prelude.{◌≡◌, All, length}
use Rattle.apex_dispatch.specs.Kernel.{room_of}
use Rattle.apex_dispatch.specs.Situations.{situation_in}
use Rattle.apex_laws.specs.GoesOn.{CanGoOn}
use Rattle.apex_machine.specs.Events.{IsWithin}
use Rattle.apex_machine.specs.Machine.{Machine, events_of, replay, situation_of}
use Rattle.apex_machine.specs.table.Table.{Table}
use Rattle.apex_moments.specs.Instants.{instant_after}
use Rattle.apex_moments.specs.Moments.{moment_in}
use Rattle.apex_drawing.specs.Styles.{Follows}
use Rattle.apex_drawing.specs.declared.courses.Course.{Course}
use Rattle.apex_drawing.specs.declared.styles.Style.{Style}

-- the course has led to this machine, whose history it has not: it has the machine's situation, which
-- can go on, the number of its entries, the instant after the last one, and the tracks of its moment
pub record IsAt {S : Type 0} (style : Style) (table : Table) (machine : Machine) (course : Course S)
    : Type 0 where
  pub situation : situation_in course.situation ≡ situation_of table machine
  pub goes_on : CanGoOn table (room_of table machine.history) (situation_in course.situation)
  pub entries : course.entries ≡ length machine.history
  pub instant : course.instant ≡ instant_after machine.history
  pub shown : Follows style course.shown (moment_in table machine)
  pub events : All (IsWithin table.cores) (events_of machine.history)
  pub replays : replay table machine.history ≡ machine
