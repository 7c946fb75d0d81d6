-- The schedule that was found has a run, which ends with its last entry.
use Rattle.std.proofs.Common.{◌≡◌, sym, None, Some}
use Rattle.apex_machine.specs.table.Table.{IsLawful}
use Rattle.apex_search.specs.Worst.{schedule_in}
use Rattle.apex_answers.proofs.Slowest.{answer_with, answers_none, can_run, can_show, shows_run}
use Rattle.apex_answers.proofs.worst.worst_of.Goals as goal

pub kernel_after-requires : goal.kernel_after-requires
kernel_after-requires g c =
    let found : schedule_in c.in_ok-worst.worst ≡ Some c.in-Some.events.now = sym (rw c.in-Some.is at c.schedule.ensures) in
    can_run c.args.system.table c.args.text.now c.in-Some.events.now c.requires
    (can_show c.args.system c.args.process c.args.room c.in_ok-worst.worst c.in_ok-worst.ensures c.in-Some.events.now found)

pub returns-in_ok-kernel-in-Some : goal.returns-in_ok-kernel-in-Some
returns-in_ok-kernel-in-Some g c =
    let found : schedule_in c.in_ok-worst.worst ≡ Some c.in-Some.events.now = sym (rw c.in-Some.is at c.schedule.ensures) in
    let lawful : IsLawful c.args.system.table = rw c.table.ensures at c.lawful.ensures in
    answer_with c.args.system c.args.process c.args.room (record { worst = c.in_ok-worst.worst; kernel = Some c.in_ok-kernel-in-Some.kernel })
    c.in_ok-worst.ensures (Some c.in-Some.events.now) found
    (shows_run c.args.system.table lawful c.args.text.now c.in-Some.events.now c.in_ok-kernel-in-Some.kernel c.requires
    (can_show c.args.system c.args.process c.args.room c.in_ok-worst.worst c.in_ok-worst.ensures c.in-Some.events.now found) c.in_ok-kernel-in-Some.ensures)

pub returns-in-None : goal.returns-in-None
returns-in-None g c =
    let none : schedule_in c.in_ok-worst.worst ≡ None = sym (rw c.in-None.is at c.schedule.ensures) in
    answers_none c.args.system c.args.process c.args.room (record { worst = c.in_ok-worst.worst; kernel = None }) c.in_ok-worst.ensures none
