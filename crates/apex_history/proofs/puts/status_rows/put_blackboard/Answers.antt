-- The head of the line, its message and the waiters are put one behind the other.
use Rattle.std.specs.Prelude.{codes}
use Rattle.apex_machine.specs.text.Texts.{blackboard_name}
use Rattle.apex_machine.specs.text.Status.{head_text, optional_message_text, waiting_text}
use Rattle.apex_history.proofs.Joined.{four_joined}
use Rattle.apex_history.proofs.puts.status_rows.put_blackboard.Goals as goal

pub returns : goal.returns
returns c =
    let table = c.args.table.now in
    let head = head_text (codes "blackboard") c.args.blackboard (blackboard_name table c.args.blackboard) in
    let message = optional_message_text table c.args.message.now in
    record {
      text = rw (c.put_waiting.ensures.text, c.put_optional_message.ensures.text, c.put.ensures.text, c.put_head.ensures.text, c.name.ensures, c.blackboard.ensures.entry)
          (four_joined c.args.line.now.items head (codes " message ") message (waiting_text c.args.waiting.now));
    }
