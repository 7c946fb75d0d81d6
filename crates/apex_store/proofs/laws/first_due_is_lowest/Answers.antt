use Rattle.apex_machine.proofs.Dues.{first_due_now, first_due_lowest, first_due_none}
use Rattle.apex_store.proofs.laws.first_due_is_lowest.Goals as goal

pub returns : goal.returns
returns g c =
    let roster = g.S.Store.roster c.args.store.now in
    record {
      now = first_due_now roster;
      lowest = first_due_lowest roster;
      none = first_due_none roster;
    }
