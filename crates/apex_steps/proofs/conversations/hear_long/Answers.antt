use Rattle.std.proofs.Common.{false, length, true}
use Rattle.std.specs.Io.KnownBytes.{prepend_known}
use Rattle.apex_history.specs.Counted.{inner_of}
use Rattle.apex_steps.specs.Conversations.{Skips}
use Rattle.apex_steps.proofs.Heard.{hears_long, hears_unended}
use Rattle.apex_steps.proofs.conversations.hear_long.Goals as goal

pub returns-then-is_ended-clause-ok : goal.returns-then-is_ended-clause-ok
returns-then-is_ended-clause-ok g c =
    let old = prepend_known c.args.pending.now (g.R.Source.remaining (inner_of c.args.reader.now)) in
    let new = prepend_known c.skip_line.new.pending (g.R.Source.remaining (inner_of c.skip_line.new.reader)) in
    let skips : Skips true (length c.args.pending.now) old new = rw c.if-is_ended.true at c.in-Ok.ensures.line in
    rw c.says.ensures (hears_long c.args.session old (length c.args.pending.now) c.requires.long new skips)

pub returns-else-is_ended-clause-ok : goal.returns-else-is_ended-clause-ok
returns-else-is_ended-clause-ok g c =
    let old = prepend_known c.args.pending.now (g.R.Source.remaining (inner_of c.args.reader.now)) in
    let left = g.R.Source.remaining (inner_of c.skip_line.new.reader) in
    let new = c.skip_line.new.pending in
    let skips : Skips false (length c.args.pending.now) old (prepend_known new left) = rw c.if-is_ended.false at c.in-Ok.ensures.line in
    let end = c.in-Ok.ensures.end c.if-is_ended.false in
    rw c.unended.ensures (hears_unended c.args.session old (length c.args.pending.now) c.requires.long left new skips end.0 end.1)
