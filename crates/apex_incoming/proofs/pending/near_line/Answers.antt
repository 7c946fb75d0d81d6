use Rattle.std.proofs.Common.{◌≡◌, ◌+◌, ◌≤◌, length, arith}
use Rattle.apex_incoming.proofs.NearLines.{near_is, passed_more}
use Rattle.apex_incoming.proofs.pending.near_line.Goals as goal

pub returns-then-feeds-ne0 : goal.returns-then-feeds-ne0
returns-then-feeds-ne0 c =
    near_is c.args.bytes.now c.loop-at.at c.lowest.result c.places_of-feeds.result c.loop-at.invariant.passed c.places_of-feeds.ensures.places
    c.lowest.ensures.set c.lowest.ensures.below

pub loop-at-preserved : goal.loop-at-preserved
loop-at-preserved c =
    let none : c.places_of-feeds.result ≡ 0 = omega (arith, c.if-feeds-ne0.false) in
    let within : c.loop-at.at + 32 ≤ length c.args.bytes.now = omega (arith, c.if-at-bytes.true) in
    record {
      within = within;
      passed = passed_more c.args.bytes.now c.loop-at.at c.places_of-feeds.result c.loop-at.invariant.passed none c.places_of-feeds.ensures.all;
    }
