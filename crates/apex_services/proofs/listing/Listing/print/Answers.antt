-- The next section goes behind those before it, and the text of the page behind the last one goes
-- out.
use Rattle.std.proofs.Common.{◌≡◌, arith}
use Rattle.std.proofs.lemmas.Result.{on_err_weaker, on_ok_weaker}
use Rattle.apex_history.proofs.Outcomes.{OnErr-always}
use Rattle.apex_history.proofs.Passing.{beginning_after, passes_all}
use Rattle.apex_services.specs.declared.listing.Section.TheVariants.{Time}
use Rattle.apex_services.specs.Sections.{sections, section_text}
use Rattle.apex_services.proofs.Gathering.{gathers_piece, begins_piece, sections_listed}
use Rattle.apex_services.proofs.listing.Listing.print.Goals as goal

pub loop-section-preserved : goal.loop-section-preserved
loop-section-preserved g c =
    let at = c.loop-section.invariant in
    let text = section_text c.args.self.now in
    record {
      lines = gathers_piece _ _ _ c.loop-section.page text sections c.loop-section.section-index Time c.loop-section-test.true
          at.lines c.gather_section.new.page c.in_ok-gather_section.ensures.ok;
      failures = grind (arith, at.failures, c.in_ok-gather_section.ensures.counted);
    }

pub returns-in_err-gather_section-clause-err : goal.returns-in_err-gather_section-clause-err
returns-in_err-gather_section-clause-err g c =
    let text = section_text c.args.self.now in
    OnErr-always c.from_residual.result (rw (← sections_listed c.args.self.now)
    (begins_piece _ _ _ c.loop-section.page text sections c.loop-section.section-index Time c.loop-section-test.true
    c.loop-section.invariant.lines c.in_err-gather_section.ensures.err))

pub returns-clause-ok : goal.returns-clause-ok
returns-clause-ok g c =
    let last : c.loop-section.section-index ≡ 10 = omega (arith, c.loop-section-test.false, c.loop-section.auto.section-index-end) in
    rw (← sections_listed c.args.self.now)
    (on_ok_weaker c.hand_on.result (passes_all _ _ _ _ _ (rw last at c.loop-section.invariant.lines)) c.hand_on.ensures.ok)

pub returns-clause-err : goal.returns-clause-err
returns-clause-err g c =
    let last : c.loop-section.section-index ≡ 10 = omega (arith, c.loop-section-test.false, c.loop-section.auto.section-index-end) in
    rw (← sections_listed c.args.self.now)
    (on_err_weaker c.hand_on.result (beginning_after _ _ _ _ _ (rw last at c.loop-section.invariant.lines)) c.hand_on.ensures.err)
