use Rattle.std.proofs.Common.{◌∙◌, ap, arith, refl, length, length-append}
use Rattle.std.specs.Io.KnownBytes.{prepend_known}
use Rattle.apex_history.specs.Counted.{inner_of}
use Rattle.apex_incoming.specs.Ahead.{Comes, IsFirstLine}
use Rattle.apex_incoming.specs.declared.Next.TheVariants.{Part, Rest, End}
use Rattle.apex_incoming.proofs.FirstLines.{one_line_append}
use Rattle.apex_steps.proofs.Skipping.{all_gone, first_gone, skips_all, skips_line, skips_rest}
use Rattle.apex_steps.proofs.conversations.skip_line.Goals as goal

pub loop-next-init : goal.loop-next-init
loop-next-init g c =
    let held = c.args.pending.now in
    let none = ap length c.take_all.ensures in
    record {
      taken = (held, c.requires.one, omega arith, first_gone held c.take_all.new.pending (g.R.Source.remaining (inner_of c.args.reader.now)) c.take_all.ensures);
      failures = refl;
      fuel = omega (arith, none, c.requires.some);
    }

pub returns-in-Line-clause-line : goal.returns-in-Line-clause-line
returns-in-Line-clause-line g c =
    let (part, one, long, gone) = c.loop-next.invariant.taken in
    let old = prepend_known c.args.pending.now (g.R.Source.remaining (inner_of c.args.reader.now)) in
    let before = prepend_known c.loop-next.pending (g.R.Source.remaining (inner_of c.loop-next.reader)) in
    let left = g.R.Source.remaining (inner_of c.next.new.reader) in
    let line : IsFirstLine c.in-Line.end c.next.new.self = rw c.in-Line.is at c.in_ok-next.ensures.comes in
    skips_line old before left part c.next.new.self c.take_line.new.pending (length c.args.pending.now) gone one long c.in_ok-next.ensures.kept
    c.in-Line.end line c.take_line.ensures

pub returns-in-Rest-clause-line : goal.returns-in-Rest-clause-line
returns-in-Rest-clause-line g c =
    let (part, one, long, gone) = c.loop-next.invariant.taken in
    let old = prepend_known c.args.pending.now (g.R.Source.remaining (inner_of c.args.reader.now)) in
    let before = prepend_known c.loop-next.pending (g.R.Source.remaining (inner_of c.loop-next.reader)) in
    let left = g.R.Source.remaining (inner_of c.next.new.reader) in
    let comes : Comes Rest c.next.new.self left = rw c.in-Rest.is at c.in_ok-next.ensures.comes in
    skips_rest old before left part c.next.new.self c.take_all-in-Rest.new.pending (length c.args.pending.now) gone one long c.in_ok-next.ensures.kept
    comes.0 c.take_all-in-Rest.ensures

pub returns-in-Rest-clause-end : goal.returns-in-Rest-clause-end
returns-in-Rest-clause-end g c =
    let left = g.R.Source.remaining (inner_of c.next.new.reader) in
    let comes : Comes Rest c.next.new.self left = rw c.in-Rest.is at c.in_ok-next.ensures.comes in
    λ _. (c.take_all-in-Rest.ensures, comes.3)

pub returns-in-End-clause-line : goal.returns-in-End-clause-line
returns-in-End-clause-line g c =
    let (part, one, long, gone) = c.loop-next.invariant.taken in
    let old = prepend_known c.args.pending.now (g.R.Source.remaining (inner_of c.args.reader.now)) in
    let before = prepend_known c.loop-next.pending (g.R.Source.remaining (inner_of c.loop-next.reader)) in
    let left = g.R.Source.remaining (inner_of c.next.new.reader) in
    skips_all old before left part c.next.new.self c.next.new.self (length c.args.pending.now) gone one long c.in_ok-next.ensures.kept

pub returns-in-End-clause-end : goal.returns-in-End-clause-end
returns-in-End-clause-end g c =
    let left = g.R.Source.remaining (inner_of c.next.new.reader) in
    let comes : Comes End c.next.new.self left = rw c.in-End.is at c.in_ok-next.ensures.comes in
    λ _. comes

pub loop-next-preserved : goal.loop-next-preserved
loop-next-preserved g c =
    let (part, one, long, gone) = c.loop-next.invariant.taken in
    let old = prepend_known c.args.pending.now (g.R.Source.remaining (inner_of c.args.reader.now)) in
    let before = prepend_known c.loop-next.pending (g.R.Source.remaining (inner_of c.loop-next.reader)) in
    let left = g.R.Source.remaining (inner_of c.next.new.reader) in
    let pending = c.next.new.self in
    let new = c.take_all-in-Part.new.pending in
    let comes : Comes Part pending left = rw c.in-Part.is at c.in_ok-next.ensures.comes in
    let none = ap length c.take_all-in-Part.ensures in
    record {
      taken = (
        _,
        one_line_append part pending one comes.0,
        omega (arith, long, length-append part pending),
        all_gone old before left part pending new gone c.in_ok-next.ensures.kept c.take_all-in-Part.ensures,
      );
      failures = c.in_ok-next.ensures.counted ∙ c.loop-next.invariant.failures;
      fuel = omega (arith, none, c.in_ok-next.ensures.fuel, c.loop-next.invariant.fuel);
    }

pub loop-next-smaller : goal.loop-next-smaller
loop-next-smaller g c =
    let left = g.R.Source.remaining (inner_of c.next.new.reader) in
    let comes : Comes Part c.next.new.self left = rw c.in-Part.is at c.in_ok-next.ensures.comes in
    let none = ap length c.take_all-in-Part.ensures in
    omega (arith, none, comes.1, c.in_ok-next.ensures.fuel)
