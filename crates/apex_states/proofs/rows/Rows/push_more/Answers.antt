use Rattle.std.proofs.Common.{◌≡◌, suc, length, arith}
use Rattle.apex_states.proofs.Packing.{rows_in-push}
use Rattle.apex_states.proofs.rows.Rows.push_more.Goals as goal

pub returns-clause-rows : goal.returns-clause-rows
returns-clause-rows c =
    let long : length c.args.row.now ≡ c.self.inside.width = rw (← c.self.view_is) at c.requires in
    let more : suc c.self.inside.count ≡ c.in-Some.count = omega arith in
    rw (← c.self.view_is, c.in_ok-extend_from_slice.ensures.items, ← more) (rows_in-push c.self.inside.width c.self.inside.count c.self.inside.words.items c.args.row.now c.self.invariant.whole long)
