use Rattle.std.proofs.Common.{sym}
use Rattle.apex_states.proofs.Packing.{rows_in-length}
use Rattle.apex_states.proofs.rows.Rows.len.Goals as goal

pub returns : goal.returns
returns c = rw (← c.self.view_is) (sym (rows_in-length c.self.inside.width c.self.inside.count c.self.inside.words.items))
