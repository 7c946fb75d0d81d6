use Rattle.apex_recall.proofs.premises.forms_reach.Goals as goal

pub returns : goal.returns
returns c = c.forms_stay_in_bounds.ensures c.args.table.now c.lawful.ensures
