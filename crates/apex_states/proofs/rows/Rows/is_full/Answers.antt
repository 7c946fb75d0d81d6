use Rattle.std.proofs.Common.{arith}
use Rattle.std.proofs.lemmas.Bool.Decides.{Decides-eqb}
use Rattle.apex_states.proofs.Packing.{rows_in-length}
use Rattle.apex_states.proofs.rows.Rows.is_full.Goals as goal

pub returns-clause-full : goal.returns-clause-full
returns-clause-full c = λ full. rw (← c.self.view_is, rows_in-length) ((Decides-eqb c.self.inside.count c.self.inside.room).0 full)

pub returns-clause-room : goal.returns-clause-room
returns-clause-room c = λ full. rw (← c.self.view_is, rows_in-length) (grind (arith, Decides-eqb c.self.inside.count c.self.inside.room, c.self.invariant.within))
