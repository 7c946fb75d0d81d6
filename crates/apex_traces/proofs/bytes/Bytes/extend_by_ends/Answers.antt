-- The two copies cover the bytes.
use Rattle.std.proofs.Common.{◌∙◌, ◌-◌, ◌++◌, ℕ, ap, arith, length}
use Rattle.std.proofs.lemmas.List.{take_rest}
use Rattle.arrayvec.specs.ArrayVec.{ArrayVec}
use Rattle.apex_traces.proofs.Copies.{both_kept}
use Rattle.apex_traces.proofs.bytes.Bytes.extend_by_ends.Goals as goal

pub returns-clause-items : goal.returns-clause-items
returns-clause-items g c =
    let own = c.self.inside in
    let more = c.args.more.now in
    let last = length more - g.row.N in
    both_kept own.count g.row.N last own.cells c.put_front.new.cells c.put_front-2.new.cells more
    (omega (arith, c.self.invariant.0, c.self.invariant.1)) c.requires.covers.0
    (omega (arith, c.requires.covers.0, c.requires.covers.1)) (omega (arith, c.requires.covers.0))
    c.put_front.ensures.kept (rw (take_rest more last) at c.put_front-2.ensures.kept)
    ∙ ap (λ (v : ArrayVec ℕ). v.items ++ more) c.self.view_is
