-- The first bytes are kept of the copy.
use Rattle.std.proofs.Common.{◌∙◌, ◌++◌, ℕ, take, ap, arith}
use Rattle.arrayvec.specs.ArrayVec.{ArrayVec}
use Rattle.apex_traces.proofs.Copies.{front_kept}
use Rattle.apex_traces.proofs.bytes.Bytes.extend_by_front.Goals as goal

pub returns-clause-items : goal.returns-clause-items
returns-clause-items g c =
    let own = c.self.inside in
    let more = c.args.more.now in
    let count = c.args.count in
    front_kept own.count g.row.N count own.cells _ more (omega (arith, c.self.invariant.0, c.self.invariant.1))
    c.requires.few c.requires.long c.put_front.ensures.kept
    ∙ ap (λ (v : ArrayVec ℕ). v.items ++ take count more) c.self.view_is
