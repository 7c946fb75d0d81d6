use Rattle.std.proofs.Common.{◌≡◌, ◌+◌, ◌*◌, length, arith, subst}
use Rattle.apex_states.specs.Registers.{AreApart}
use Rattle.apex_states.specs.Rows.{Packed}
use Rattle.apex_states.proofs.Registering.{IsCopying-next}
use Rattle.apex_states.proofs.registers.Register.grown.Goals as goal

pub loop-place-preserved : goal.loop-place-preserved
loop-place-preserved c =
    let Apart : Packed → Type 0 = λ p. AreApart p.rows in
    let apart = subst Apart c.self.view_is c.self.invariant.apart in
    let count : c.len-count.result ≡ length c.args.self.now.rows = rw (← c.self.view_is) c.len-count.ensures in
    IsCopying-next c.args.self.now.rows c.args.self.now.width (2 * c.len-count.result + 64) c.loop-place.place c.row.result.now c.loop-place.grown c.enter.result c.enter.new.self
    apart (omega (arith, count)) (rw (← c.self.view_is) c.row.ensures.row) c.loop-place.invariant c.enter.ensures
