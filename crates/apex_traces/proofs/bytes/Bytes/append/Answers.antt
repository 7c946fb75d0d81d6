-- The bytes of the other buffer are kept of the copy.
use Rattle.std.proofs.Common.{◌∙◌, ◌++◌, ℕ, take, ap, arith}
use Rattle.arrayvec.specs.ArrayVec.{ArrayVec}
use Rattle.apex_traces.proofs.Copies.{kept}
use Rattle.apex_traces.proofs.bytes.Bytes.append.Goals as goal

pub returns-clause-items : goal.returns-clause-items
returns-clause-items g c =
    let own = c.self.inside in
    let other = c.more.inside in
    let copied = c.copy_from_slice.ensures.after in
    kept own.count other.count _ own.cells _ (omega (arith, c.self.invariant.0, c.self.invariant.1))
    (omega (arith, c.more.invariant.0, c.more.invariant.1))
    ∙ ap (λ l. take own.count own.cells ++ take other.count l) copied
    ∙ ap (λ (v : ArrayVec ℕ). v.items ++ take other.count other.cells) c.self.view_is
    ∙ ap (λ (v : ArrayVec ℕ). c.args.self.now.items ++ v.items) c.more.view_is
