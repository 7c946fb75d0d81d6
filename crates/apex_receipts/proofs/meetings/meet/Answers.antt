use Rattle.std.proofs.Common.{List, subst}
use Rattle.apex_receipts.specs.declared.law.Note.{Note}
use Rattle.apex_receipts.specs.Rules.{HasHeard}
use Rattle.apex_receipts.proofs.Calls.{heard_most}
use Rattle.apex_receipts.proofs.meetings.meet.Goals as goal

pub returns-clause-met : goal.returns-clause-met
returns-clause-met c =
    let heard = c.hear.ensures.heard in
    let later = c.hear.new.self.log in
    let mine = c.args.voice.now.log in
    let whole = c.hear-2.new.self.log in
    let voice : HasHeard mine later whole c.args.voice.now.id =
    subst (λ (l : List Note). HasHeard mine l whole c.args.voice.now.id) c.seen.ensures.log c.hear-2.ensures.heard in
    record {
      alone = heard.alone;
      knew = heard.knew;
      most = heard_most c.args.scribe.now.id c.args.voice.now.id c.args.scribe.now.log mine later whole (heard.alone.rest, heard.alone.parts) voice;
    }
