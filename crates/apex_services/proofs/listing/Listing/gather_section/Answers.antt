-- The text of the next thing goes behind those before it.
use Rattle.std.proofs.Common.{◌<◌, arith}
use Rattle.apex_history.proofs.Outcomes.{OnErr-always}
use Rattle.apex_services.specs.Sections.{thing_count, thing_text}
use Rattle.apex_services.proofs.Gathering.{gathers_next, begins_next}
use Rattle.apex_services.proofs.listing.Listing.gather_section.Goals as goal

pub loop-place-preserved : goal.loop-place-preserved
loop-place-preserved g c =
    let at = c.loop-place.invariant in
    let text = thing_text c.args.self.now c.args.section in
    record {
      many = at.many;
      lines = gathers_next _ _ _ c.args.page.now c.loop-place.page text c.loop-place.place at.lines c.gather.new.page c.in_ok-gather.ensures.ok;
      failures = grind (arith, at.failures, c.in_ok-gather.ensures.counted);
    }

pub returns-in_err-gather-clause-err : goal.returns-in_err-gather-clause-err
returns-in_err-gather-clause-err g c =
    let at = c.loop-place.invariant in
    let text = thing_text c.args.self.now c.args.section in
    let within : c.loop-place.place < thing_count c.args.self.now c.args.section =
    omega (arith, c.loop-place-test.true, at.many) in
    OnErr-always c.from_residual.result
    (begins_next _ _ _ c.args.page.now c.loop-place.page text c.loop-place.place at.lines _ within c.in_err-gather.ensures.err)
