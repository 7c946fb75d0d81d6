-- No process waits for an object that has what it waits for.
use Rattle.std.proofs.Common.{◌≡◌, List, Some, ap, arith, length, length-append, refl}
use Rattle.apex_laws.specs.Terms.{Message, Record, Wait}
use Rattle.apex_machine.specs.declared.records.Wait.TheVariants.{Semaphore, Receive, Send, Blackboard, EventFlag}
use Rattle.apex_machine.specs.Machine.{Machine}
use Rattle.apex_machine.specs.processes.Roster.{record_at}
use Rattle.apex_machine.specs.services.Satisfied.{buffer_content}
use Rattle.apex_machine.specs.table.Table.{Table}
use Rattle.apex_laws.specs.AskedWaits.{asked_of, awaited}
use Rattle.apex_laws.specs.Laws.{NobodyWaitsInVain}
use Rattle.apex_laws.proofs.CallsServe.{AreKept}

-- the wait of a process, which it asked for
pub asked_for : (r : Record) (w : Wait) → r.wait ≡ Some w → asked_of (Some w) ≡ Some w → awaited r ≡ Some w
asked_for r w is plain = rw (is, plain) refl

pub none_in_vain : (table : Table) (machine : Machine) → AreKept table machine.roster machine.history → NobodyWaitsInVain table machine
none_in_vain table machine kept = record {
  semaphores = λ s inside p is. (kept.semaphores s inside).held p (Semaphore s) (asked_for (record_at machine.roster p) (Semaphore s) is refl) refl;
  buffers = λ b inside.
      let keeps = kept.buffers b inside in
      let delivered = keeps.holds.delivered in
      let sent = ap (λ (messages : List Message). length messages) delivered.split in
      let longer = length-append delivered.taken (buffer_content b machine.history) in
      record {
        served = omega (arith, delivered.many, sent, longer);
        room = keeps.holds.fits;
        receivers = λ p is. keeps.held p (Receive b) (asked_for (record_at machine.roster p) (Receive b) is refl) refl;
        senders = λ p message is. keeps.held p (Send b message) (asked_for (record_at machine.roster p) (Send b message) is refl) refl;
      };
  blackboards = λ b inside p is. (kept.blackboards b inside).held p (Blackboard b) (asked_for (record_at machine.roster p) (Blackboard b) is refl) refl;
  event_flags = λ e inside p is. (kept.event_flags e inside).held p (EventFlag e) (asked_for (record_at machine.roster p) (EventFlag e) is refl) refl;
}
