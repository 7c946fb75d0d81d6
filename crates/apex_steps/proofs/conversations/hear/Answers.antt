use Rattle.std.specs.Io.KnownBytes.{prepend_known}
use Rattle.apex_history.specs.Counted.{inner_of}
use Rattle.apex_incoming.specs.Ahead.{Comes, IsFirstLine}
use Rattle.apex_incoming.specs.declared.Next.TheVariants.{Rest}
use Rattle.std.proofs.Common.{arith}
use Rattle.std.proofs.lemmas.Grind.{common_steps}
use Rattle.apex_steps.proofs.Heard.{hears_kept, hears_line, hears_rest}
use Rattle.apex_steps.proofs.conversations.hear.Goals as goal

pub returns-in_ok-answered-in-Line-clause-ok : goal.returns-in_ok-answered-in-Line-clause-ok
returns-in_ok-answered-in-Line-clause-ok g c =
    let before = prepend_known c.args.pending.now (g.R.Source.remaining (inner_of c.args.reader.now)) in
    let left = g.R.Source.remaining (inner_of c.next.new.reader) in
    let line : IsFirstLine c.in-Line.end c.next.new.self = rw c.in-Line.is at c.in-Ok.ensures.comes in
    hears_line c.args.session before left c.next.new.self c.in-Ok.ensures.kept c.in-Line.end c.hear_line.new.pending c.in_ok-answered-in-Line.answered line
    c.in_ok-answered-in-Line.ensures.taken c.in_ok-answered-in-Line.ensures.answer

pub returns-in_ok-answered-in-Part-clause-ok : goal.returns-in_ok-answered-in-Part-clause-ok
returns-in_ok-answered-in-Part-clause-ok g c =
    let before = prepend_known c.args.pending.now (g.R.Source.remaining (inner_of c.args.reader.now)) in
    let mid = prepend_known c.next.new.self (g.R.Source.remaining (inner_of c.next.new.reader)) in
    let new = prepend_known c.hear_long.new.pending (g.R.Source.remaining (inner_of c.hear_long.new.reader)) in
    hears_kept c.args.session before mid new c.in_ok-answered-in-Part.answered c.in-Ok.ensures.kept c.in_ok-answered-in-Part.ensures.ok

pub returns-in-Rest-clause-ok : goal.returns-in-Rest-clause-ok
returns-in-Rest-clause-ok g c =
    let before = prepend_known c.args.pending.now (g.R.Source.remaining (inner_of c.args.reader.now)) in
    let left = g.R.Source.remaining (inner_of c.next.new.reader) in
    let comes : Comes Rest c.next.new.self left = rw c.in-Rest.is at c.in-Ok.ensures.comes in
    rw c.unended.ensures (hears_rest c.args.session before left c.next.new.self c.in-Ok.ensures.kept (prepend_known c.take_all.new.pending left)
    comes.0 comes.1 comes.3)

pub returns-in_ok-answered-in-Line-clause-fuel : goal.returns-in_ok-answered-in-Line-clause-fuel
returns-in_ok-answered-in-Line-clause-fuel g c = grind (arith, common_steps)
