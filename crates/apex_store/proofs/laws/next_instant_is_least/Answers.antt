use Rattle.apex_machine.proofs.Dues.{earliest_among, earliest_below, earliest_none}
use Rattle.apex_store.proofs.laws.next_instant_is_least.Goals as goal

pub returns : goal.returns
returns g c = record {
  awaited = earliest_among _;
  least = earliest_below _;
  none = earliest_none _;
}
