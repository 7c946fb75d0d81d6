-- The parts of the line are put one behind the other.
use Rattle.std.specs.Prelude.{codes}
use Rattle.apex_machine.specs.text.Texts.{process_name}
use Rattle.apex_machine.specs.text.Status.{head_text, state_part, instants_part, held_part}
use Rattle.apex_history.proofs.Joined.{five_joined}
use Rattle.apex_history.proofs.puts.status_rows.put_process.Goals as goal

pub returns : goal.returns
returns c =
    let table = c.args.table.now in
    let r = c.args.fields.now in
    let head = head_text (codes "process") c.args.process (process_name table c.args.process) in
    record {
      text = rw (c.put.ensures.text, c.put_held.ensures.text, c.put_instants.ensures.text, c.put_state.ensures.text, c.put_head.ensures.text, c.name.ensures, c.process.ensures.entry)
          (five_joined c.args.line.now.items head (state_part c.args.state.now r) (instants_part r) (held_part table r) (codes "\n"));
    }
