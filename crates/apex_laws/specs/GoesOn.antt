-- Situations from which events can be carried out.
use Rattle.std.specs.Prelude.{◌≡◌, ℕ, ◌+◌, ◌*◌, ◌<◌, ◌≤◌, length}
use Rattle.std.specs.Option.{ForSome}
use Rattle.apex_types.specs.declared.limits.TheConstants.{MOST_TICKS}
use Rattle.apex_types.specs.Limits.{latest, most_stamped}
use Rattle.apex_machine.specs.Situations.{Situation}
use Rattle.apex_machine.specs.processes.Periods.{AreInTime}
use Rattle.apex_machine.specs.processes.Roster.{record_at}
use Rattle.apex_machine.specs.processes.Stamps.{HasOrderlyStarts, HasStampsFor, WaitsForOne}
use Rattle.apex_machine.specs.table.Table.{Table, process_config}
use Rattle.apex_laws.specs.Premises.{AreOf}

-- the situation is one of the table, from which `left` events can be carried out: it has a record
-- and an object for each entry of the table, with the attributes that the table gives, and made no
-- more init steps than there are; work is that of its processes, their waits and starts are in
-- order and they are in time; and for each of the events there are stamps and ticks
pub record CanGoOn (table : Table) (left : ℕ) (s : Situation) : Type 0 where
  pub records : length s.roster.records ≡ length table.processes
  pub attributes : (p : ℕ)
      → (record_at s.roster p).attributes ≡ (process_config table p).attributes
  pub objects : AreOf table s.objects
  pub workers : (core : ℕ) → ForSome (s.works core) (λ o. o.work.process < length table.processes)
  pub made : s.made ≤ length table.init
  pub one : WaitsForOne s.roster
  pub starts : HasOrderlyStarts s.roster
  pub times : AreInTime s.roster
  pub stamps : HasStampsFor (most_stamped * left) s.roster
  pub ticks : s.roster.now + MOST_TICKS * left ≤ latest
