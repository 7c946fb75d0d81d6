-- The facts that each service keeps of the processes: it arrives at the roster that it leaves, a
-- process that waits afterwards asked for its wait, and one that it wakes with NO_ERROR had waited
-- for one thing.
use Rattle.std.proofs.Common.{◌≡◌, ℕ, ◌<◌, ◌≤◌, true, false, List, [], length, Option, Some, lit≤, refl, sym, ◌∙◌, ap, arith}
use Rattle.std.proofs.lemmas.Bool.{both_ways}
use Rattle.std.proofs.lemmas.Option.{none-some}
use Rattle.apex_types.specs.declared.limits.TheConstants.{MOST_PROCESSES}
use Rattle.apex_laws.specs.Premises.{most_given}
use Rattle.apex_laws.specs.Terms.{Call, Caller, Notice, Queue, Timeout, Wait}
use Rattle.apex_types.specs.declared.entries.Caller.TheVariants.{Process}
use Rattle.apex_machine.specs.declared.records.Wait.TheVariants.{Normal, Start, Mutex}
use Rattle.apex_machine.specs.services.Callers.{IsReady, IsReadyCaller}
use Rattle.apex_machine.specs.processes.Dues.{due_after}
use Rattle.apex_machine.specs.services.Handovers.{halted}
use Rattle.apex_machine.specs.processes.Periods.{awaits_first}
use Rattle.apex_types.specs.Modes.{is_cold_start, is_normal}
use Rattle.apex_machine.specs.processes.Roster.{Roster, record_at}
use Rattle.apex_machine.specs.services.Rows.{Outcome}
use Rattle.apex_machine.specs.processes.Stamps.{HasOrderlyStarts, WaitsForOne, block}
use Rattle.apex_machine.proofs.Dues.{due_later}
use Rattle.apex_machine.proofs.Handovers.{reaches_halted}
use Rattle.apex_machine.proofs.Periods.{HasSomeTicks}
use Rattle.apex_machine.proofs.Reaches.{Arrives, Reaches, arrives_of, reaches_none, reaches_more, reaches_block}
use Rattle.apex_machine.proofs.Starts.{runnable}
use Rattle.apex_laws.specs.AskedWaits.{begins, asked_of}
use Rattle.apex_laws.proofs.Satisfied.{Asks, WokenAt, wakes}
use Rattle.apex_laws.proofs.AskedWaits.{Frees, frees_none, asks_freed, asks_blocked}
use Rattle.apex_laws.proofs.MissesServed.{told_halted}

-- the premises of a service; after COLD_START no service is called but in NORMAL
pub record Scene (roster : Roster) (caller : Caller) : Type 0 where
  pub starts : HasOrderlyStarts roster
  pub one : WaitsForOne roster
  pub few : length roster.records ≤ MOST_PROCESSES
  pub spans : (p : ℕ) → HasSomeTicks (record_at roster p).attributes.period
  pub ready : IsReadyCaller roster caller
  pub called : is_cold_start roster.mode ≡ false → is_normal roster.mode ≡ true

-- the facts that a service with this roster and these notices keeps; a process that it wakes with
-- NO_ERROR had waited in this queue, or for time if there is none, or for a mutex
pub record Serves (roster : Roster) (caller : Caller) (call : Call) (at : Option Queue) (new : Roster) (notices : List Notice) : Type 0 where
  pub arrives : Arrives most_given roster new
  pub asks : Asks caller (Some call) roster new
  pub woken : (q : ℕ) → wakes q notices ≡ true → WokenAt at (record_at roster q)

-- the same, of an outcome
abbrev pub ServesBy : {X : Type 0} → Roster → Caller → Call → Option Queue → Outcome X → Type 0
ServesBy roster caller call at o = Serves roster caller call at o.roster o.notices

-- these notices wake no process
abbrev pub AreQuiet : List Notice → Type 0
AreQuiet notices = (p : ℕ) → wakes p notices ≡ false

-- as many stamps as an event gives are few enough
pub arrives_by : {old new : Roster} (n : ℕ) → n ≤ most_given → Reaches n old new → Arrives most_given old new
arrives_by n few reaches = arrives_of (reaches_more n most_given few reaches)

-- one stamp at the most for each process
pub arrives_by_each : {old new : Roster} (n : ℕ) → n ≤ MOST_PROCESSES → Reaches n old new → Arrives most_given old new
arrives_by_each n each reaches = arrives_by n (omega (arith, each)) reaches

-- process p is stopped, and the mutexes that it owned go on
pub arrives_halted : (roster : Roster) (p : ℕ) → p < length roster.records → HasOrderlyStarts roster
    → length roster.records ≤ MOST_PROCESSES → Arrives most_given roster (halted roster p).roster
arrives_halted roster p known starts many =
    arrives_by_each (length (halted roster p).notices) (omega (arith, many, told_halted roster p known)) (reaches_halted roster p known starts)

pub few : {old new : Roster} → Reaches 1 old new → Arrives most_given old new
few = arrives_by 1 (lit≤ tt)

-- a process that is ready is started, and the mode is NORMAL
pub ready_started : (roster : Roster) (p : ℕ) → IsReady roster p → (record_at roster p).started ≡ true
ready_started roster p ready = (runnable roster.mode (record_at roster p) ready.eligible).started

pub ready_normal : (roster : Roster) (p : ℕ) → IsReady roster p → is_normal roster.mode ≡ false → ⊥
ready_normal roster p ready e = both_ways _ e (runnable roster.mode (record_at roster p) ready.eligible).normal

module _ (roster : Roster) (caller : Caller) (call : Call) (at : Option Queue) where
  -- no process waits that did not wait before, and none is woken
  pub serves_freed : (new : Roster) (notices : List Notice) → Arrives most_given roster new → Frees roster new
      → AreQuiet notices → Serves roster caller call at new notices
  serves_freed new notices arrives frees quiet = record {
    arrives = arrives;
    asks = asks_freed caller (Some call) roster new frees;
    woken = λ q woken. absurd (both_ways _ (quiet q) woken);
  }

  -- nothing changes
  pub serves_same : Serves roster caller call at roster []
  serves_same = serves_freed roster [] (arrives_of (reaches_none most_given roster)) (frees_none roster) (λ q. refl)

-- the caller blocks, in the wait that its call begins
pub serves_waiting : (roster : Roster) (p : ℕ) (call : Call) (at : Option Queue) (v : Wait) (due : Option ℕ)
    → asked_of (Some v) ≡ Some v → begins call ≡ Some v → Reaches 1 roster (block roster p v due)
    → Serves roster (Process p) call at (block roster p v due) []
serves_waiting roster p call at v due asked begun reaches =
    record {
      arrives = few reaches;
      asks = asks_blocked p call v due roster asked begun;
      woken = λ q woken. absurd (both_ways false refl woken);
    }

-- a process in a wait that it asked for was released
asked_late : (v : Wait) → asked_of (Some v) ≡ Some v → awaits_first (Some v) ≡ false
asked_late (Normal delay) e = cc
asked_late Start e = cc
asked_late _ e = refl

-- the caller blocks, in a wait for another thing than a mutex
pub serves_blocked : (roster : Roster) (p : ℕ) → IsReady roster p → (call : Call) (at : Option Queue) (v : Wait) (timeout : Timeout)
    → asked_of (Some v) ≡ Some v → begins call ≡ Some v → ((m : ℕ) → Some v ≡ Some (Mutex m) → ⊥)
    → Serves roster (Process p) call at (block roster p v (due_after roster timeout)) []
serves_blocked roster p ready call at v timeout asked begun other =
    let due = due_after roster timeout in
    serves_waiting roster p call at v due asked begun
    (reaches_block roster p ready.known v due (due_later roster timeout) (λ is. absurd (none-some v (ap asked_of (sym is) ∙ asked)))
    (ready_started roster p ready) (ready_normal roster p ready) other (λ _. asked_late v asked))
