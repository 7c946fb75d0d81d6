-- The kernel is that of the table of the text, whose history has room for the events.
use Rattle.std.proofs.Common.{◌≡◌, false, true}
use Rattle.apex_answers.proofs.Slowest.{has_room, has_run, own_events}
use Rattle.apex_answers.proofs.worst.kernel_after.Goals as goal

pub run-requires : goal.run-requires
run-requires c =
    own_events c.args.text.now c.args.events.now c.requires c.in_ok-kernel.kernel c.in_ok-kernel.ensures.table c.in_ok-kernel.ensures.opened

pub returns : goal.returns
returns c =
    has_run c.args.text.now c.args.events.now c.requires c.in_ok-kernel.kernel c.in_ok-kernel.ensures.table c.in_ok-kernel.ensures.opened
    c.run.new.self c.in-Ok.ensures.done

pub unreachable-requires : goal.unreachable-requires
unreachable-requires c =
    let full : false ≡ true =
    c.in-Err.ensures.accepted.1 (has_room c.args.text.now c.args.events.now c.requires c.in_ok-kernel.kernel c.in_ok-kernel.ensures.table
    c.in_ok-kernel.ensures.opened) in
    cc
