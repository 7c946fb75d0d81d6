-- The next one is put behind those so far.
use Rattle.std.proofs.Common.{◌∙◌, ◌+◌, ap}
use Rattle.apex_pictures.specs.Rows.{heading_at}
use Rattle.apex_moments.proofs.Places.{place_next}
use Rattle.apex_pictures.proofs.rows.headings_at.Goals as goal

pub loop-core-preserved : goal.loop-core-preserved
loop-core-preserved c = record {
  many = c.push.ensures.len ∙ ap (λ n. n + 1) c.loop-core.invariant.many;
  items = place_next (heading_at c.args.cores.now c.args.top) c.loop-core.core _ _ _ c.loop-core.invariant.items c.push.ensures.items
      c.heading_at.ensures;
}
