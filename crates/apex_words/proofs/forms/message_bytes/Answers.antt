use Rattle.std.proofs.Common.{sym, arith, rules}
use Rattle.apex_words.proofs.Messages.{too_many_bytes}
use Rattle.apex_words.proofs.forms.message_bytes.Goals as goal

pub returns-then-digits-gt-MOST_MESSAGE : goal.returns-then-digits-gt-MOST_MESSAGE
returns-then-digits-gt-MOST_MESSAGE c =
    sym (too_many_bytes c.args.subject c.args.word.now (search rules) (search rules) (omega arith))
