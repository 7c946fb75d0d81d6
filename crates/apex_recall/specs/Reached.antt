-- The situations whose canonical forms a search keeps: their values fit in their words.
use Rattle.std.specs.Prelude.{◌≡◌, ℕ, ◌^◌, ◌<◌, ◌≤◌, List, [], ◌∷◌, length, Option, None, Some, slice_index_or}
use Rattle.std.specs.Option.{ForSome}
use Rattle.apex_alike.specs.Canonical.{IsFit}
use Rattle.apex_laws.specs.Premises.{AreOf}
use Rattle.apex_machine.specs.Deeds.{Objects}
use Rattle.apex_machine.specs.Situations.{Situation}
use Rattle.apex_machine.specs.declared.records.Wait.TheVariants as waits
use Rattle.apex_machine.specs.processes.Periods.{AreInTime}
use Rattle.apex_machine.specs.processes.Roster.{Roster, disciplines_of, record_at, rules_of}
use Rattle.apex_machine.specs.processes.Stamps.{HasOrderlyStarts, WaitsForOne}
use Rattle.apex_machine.specs.services.BlackboardServices.{BlackboardObject, blackboard_kind}
use Rattle.apex_machine.specs.services.BufferServices.{BufferObject, buffer_kind}
use Rattle.apex_machine.specs.services.ProcessServices.{delay_ticks}
use Rattle.apex_machine.specs.services.SemaphoreServices.{SemaphoreObject, semaphore_kind}
use Rattle.apex_machine.specs.table.Table.{Table, blackboard_config, buffer_config, process_config, semaphore_config}
use Rattle.apex_pace.specs.Pace.{Paced}
use Rattle.apex_recall.specs.Terms.{Holding, Message, Origin, Record, Wait}
use Rattle.apex_types.specs.declared.calls.Call.{Call}
use Rattle.apex_types.specs.declared.calls.Call.TheVariants.{Process as ToProcess, Work}
use Rattle.apex_types.specs.declared.calls.ObjectCall.TheVariants.{KindService}
use Rattle.apex_types.specs.declared.calls.Origin.TheVariants.{Init, Script}
use Rattle.apex_types.specs.declared.calls.ProcessService.TheVariants.{DelayedStart}
use Rattle.apex_types.specs.declared.limits.TheConstants.{MOST_CORES, MOST_OWNED}

-- the place of a step fits in two bytes in the init list, and else in one
abbrev pub FitsOrigin : Origin → Type 0
FitsOrigin (Init place) = place < 2 ^ 16
FitsOrigin (Script process place) = (process < 256) × (place < 256)

-- the parts of a message fit in their bytes
abbrev pub FitsMessage : Message → Type 0
FitsMessage message = FitsOrigin message.origin × (message.length < 256)

-- the parts of a mutex that is owned fit in a byte each
pub record FitsHolding (held : Holding) : Type 0 where
  pub mutex : held.mutex < 256
  pub ceiling : held.ceiling < 256
  pub depth : held.depth < 256

-- the parts of a wait fit: its object's place in a byte, and its delay or its message in a word
abbrev pub WaitFits : Option Wait → Type 0
WaitFits (Some (waits.Normal delay)) = delay < 2 ^ 32
WaitFits (Some (waits.Semaphore s)) = s < 256
WaitFits (Some (waits.Receive b)) = b < 256
WaitFits (Some (waits.Send b message)) = (b < 256) × FitsMessage message
WaitFits (Some (waits.Blackboard b)) = b < 256
WaitFits (Some (waits.EventFlag e)) = e < 256
WaitFits (Some (waits.Mutex m)) = m < 256
WaitFits _ = Unit {0}

-- each of these mutexes that are owned fits
abbrev pub HeldFit : List Holding → Type 0
HeldFit [] = Unit {0}
HeldFit (holding ∷ others) = FitsHolding holding × HeldFit others

-- the parts of a record fit in their bytes: a priority, a core, a base priority, a step, a wait, and
-- the mutexes that are owned
pub record PartsFit (p c b s : ℕ) (w : Option Wait) (o : List Holding) : Type 0 where
  pub priority : p < 256
  pub core : c < MOST_CORES
  pub base : b < 256
  pub step : s < 256
  pub waits : WaitFits w
  pub few : length o ≤ MOST_OWNED
  pub owned : HeldFit o

abbrev pub RecordFits : Record → Type 0
RecordFits r = PartsFit r.attributes.priority r.core r.base r.step r.wait r.owned

-- the records fit, and what never changes in the roster is as the table gives it
pub record RosterFits (table : Table) (roster : Roster) : Type 0 where
  pub cores : roster.cores ≡ table.cores
  pub disciplines : roster.disciplines ≡ disciplines_of table
  pub rules : roster.rules ≡ rules_of table
  pub each : (p : ℕ) → RecordFits (record_at roster p)

-- semaphore s has the maximum that the table gives, and no greater value
abbrev pub SemaphoreFits : Table → ℕ → SemaphoreObject → Type 0
SemaphoreFits table s semaphore =
    (semaphore.maximum ≡ (semaphore_config table s).maximum)
    × (semaphore.value ≤ semaphore.maximum)

-- each of these messages fits
abbrev pub MessagesFit : List Message → Type 0
MessagesFit [] = Unit {0}
MessagesFit (message ∷ others) = FitsMessage message × MessagesFit others

-- buffer b is as the table gives it, and its messages fit, and are no more than it has room for
pub record BufferFits (table : Table) (b : ℕ) (buffer : BufferObject) : Type 0 where
  pub capacity : buffer.capacity ≡ (buffer_config table b).capacity
  pub longest : buffer.longest ≡ (buffer_config table b).length
  pub few : length buffer.messages ≤ buffer.capacity
  pub messages : MessagesFit buffer.messages

-- the message, if there is one, fits
abbrev pub ShownFits : Option Message → Type 0
ShownFits None = Unit {0}
ShownFits (Some message) = FitsMessage message

-- blackboard b is as the table gives it, and its message fits
abbrev pub BlackboardFits : Table → ℕ → BlackboardObject → Type 0
BlackboardFits table b blackboard =
    (blackboard.longest ≡ (blackboard_config table b).length) × ShownFits blackboard.message

-- the objects are as the table gives them, and their values fit; a place past the end has an object
-- that no table gives
pub record ObjectsFit (table : Table) (objects : Objects) : Type 0 where
  pub semaphores : (s : ℕ)
      → SemaphoreFits table s (slice_index_or objects.semaphores s semaphore_kind.absent)
  pub buffers : (b : ℕ)
      → BufferFits table b (slice_index_or objects.buffers b buffer_kind.absent)
  pub blackboards : (b : ℕ)
      → BlackboardFits table b (slice_index_or objects.blackboards b blackboard_kind.absent)

-- an amount of work is a span
abbrev pub IsAmount : ℕ → Type 0
IsAmount amount = (1 ≤ amount) × (amount < 2 ^ 32)

-- the numbers of a call are those that a table can give: a delay of a start is below 2^32, and an
-- amount of work is a span
abbrev pub IsUsual : Call → Type 0
IsUsual (ToProcess (KindService p (DelayedStart delay))) = delay_ticks delay < 2 ^ 32
IsUsual (Work amount) = IsAmount amount
IsUsual _ = Unit {0}

-- the situation is one of the table: it has a record and an object for each entry of the table, with
-- the attributes that the table gives, and made no more init steps than there are; work is that of
-- its processes, their waits and starts are in order, and they are in time
pub record IsSituationOf (table : Table) (s : Situation) : Type 0 where
  pub records : length s.roster.records ≡ length table.processes
  pub attributes : (p : ℕ)
      → (record_at s.roster p).attributes ≡ (process_config table p).attributes
  pub objects : AreOf table s.objects
  pub workers : (core : ℕ) → ForSome (s.works core) (λ o. o.work.process < length table.processes)
  pub made : s.made ≤ length table.init
  pub one : WaitsForOne s.roster
  pub starts : HasOrderlyStarts s.roster
  pub times : AreInTime s.roster

-- the paced situation is one of which a search may keep the canonical form: it is one of the table,
-- and fit to be in canonical form; its values fit in their words; and past the cores of the table
-- there is neither work nor a turn
pub record IsReached (table : Table) (s : Paced) : Type 0 where
  pub of : IsSituationOf table s.situation
  pub fit : IsFit s.situation.roster
  pub records : RosterFits table s.situation.roster
  pub objects : ObjectsFit table s.situation.objects
  pub amounts : (core : ℕ) → ForSome (s.situation.works core) (λ o. IsAmount o.work.amount)
  pub works : (core : ℕ) → table.cores ≤ core → s.situation.works core ≡ None
  pub turns : (core : ℕ) → table.cores ≤ core → s.turns core ≡ 0
