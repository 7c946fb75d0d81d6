use Rattle.apex_machine.proofs.Dues.{first_missed_now, first_missed_lowest, first_missed_none}
use Rattle.apex_store.proofs.laws.first_missed_is_lowest.Goals as goal

pub returns : goal.returns
returns g c =
    let roster = g.S.Store.roster c.args.store.now in
    record {
      now = first_missed_now roster;
      lowest = first_missed_lowest roster;
      none = first_missed_none roster;
    }
