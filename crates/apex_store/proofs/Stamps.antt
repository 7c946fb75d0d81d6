-- No call of a store gives two of its processes the same stamp.
use Rattle.std.proofs.Common.{[], ◌∷◌, refl}
use Rattle.apex_machine.specs.processes.Roster.{Roster, record_at}
use Rattle.apex_machine.proofs.Handovers.{moves_own}
use Rattle.apex_machine.specs.processes.Distinct.{IsStamped}
use Rattle.apex_machine.specs.processes.Stamps.{awake, released_at, waiting, self_suspended}
use Rattle.apex_machine.proofs.DistinctStamps.{stamped_newest, stamped_record, stamped_readied, stamped_resume, stamped_set_mode, stamped_advance_to, stamped_take_due, stamped_take_missed}
use Rattle.apex_machine.proofs.Reaches.{moves_stop, starts, reaches_suspend, reaches_set_priority, reaches_place_newest, moves_set_core, reaches_set_step, reaches_receive}
use Rattle.apex_store.specs.Laws.{StampsStayDistinct}

pub stay_distinct : (roster : Roster) → IsStamped roster → StampsStayDistinct roster
stay_distinct roster stamped = record {
  start = λ p delay known. (starts roster p known delay).moves.stamped stamped;
  stop = λ p known. (moves_stop roster p known).stamped stamped;
  block = λ p wait due known. stamped_newest roster p known stamped (waiting (record_at roster p) wait due);
  unblock = λ p known. stamped_readied roster p known stamped (awake (record_at roster p)) refl;
  release = λ p known. stamped_readied roster p known stamped (released_at roster.now (record_at roster p)) refl;
  suspend = λ p known. (reaches_suspend roster p known).moves.stamped stamped;
  suspend_self = λ p due known. stamped_newest roster p known stamped (self_suspended (record_at roster p) due);
  resume = λ p known. stamped_resume roster p known stamped;
  set_priority = λ p base known. (reaches_set_priority roster p known base).moves.stamped stamped;
  own = λ p owned known. (moves_own roster p known owned).stamped stamped;
  inherit = λ p holding known. stamped_readied roster p known stamped (awake (record (record_at roster p) { owned = holding ∷ [] })) refl;
  place_newest = λ p known. (reaches_place_newest roster p known).moves.stamped stamped;
  advance_to = λ t. stamped_advance_to roster stamped t;
  set_deadline = λ p deadline known. stamped_record roster p known stamped (record (record_at roster p) { deadline = deadline }) refl;
  take_missed = stamped_take_missed roster stamped;
  take_due = stamped_take_due roster stamped;
  set_mode = λ mode. stamped_set_mode roster stamped mode;
  set_core = λ p core known. (moves_set_core roster p known core).stamped stamped;
  receive = λ p message known. (reaches_receive roster p known message).moves.stamped stamped;
  set_step = λ p step known. (reaches_set_step roster p known step).moves.stamped stamped;
}
