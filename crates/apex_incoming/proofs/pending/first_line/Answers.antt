use Rattle.std.proofs.Common.{◌∙◌, sym}
use Rattle.apex_incoming.proofs.FirstLines.{first_line, no_feed}
use Rattle.apex_incoming.proofs.pending.first_line.Goals as goal

pub returns-clause-found : goal.returns-clause-found
returns-clause-found c = rw c.line_feed.ensures (first_line c.args.bytes.now)

pub returns-clause-none : goal.returns-clause-none
returns-clause-none c = λ none. no_feed c.args.bytes.now (sym c.line_feed.ensures ∙ none)
