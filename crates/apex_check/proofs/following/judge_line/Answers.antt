use Rattle.std.proofs.Common.{◌≡◌, ◌+◌, ◌≤◌, ap, length, take, Ok, Err, rules, arith}
use Rattle.apex_machine.specs.Machine.{accept, replay}
use Rattle.apex_dispatch.specs.Kernel.{KernelState}
use Rattle.apex_check.specs.Histories.{event_named}
use Rattle.std.proofs.lemmas.Grind.{common_steps}
use Rattle.apex_check.proofs.MoreLines.{faulty, judged, unended_is}
use Rattle.apex_check.proofs.following.judge_line.Goals as goal

pub returns-in-Err-clause-judged : goal.returns-in-Err-clause-judged
returns-in-Err-clause-judged g c = λ before found are one e behind.
    let old = c.args.kernel.now in
    let bytes = c.args.bytes.now in
    let cores : c.cores.result ≡ old.table.cores = search rules in
    let read : event_named c.cores.result (take c.args.end bytes) ≡ Err c.in-Err.fault = search rules in
    let named : event_named old.table.cores found ≡ Err c.in-Err.fault = rw (cores, unended_is bytes found c.args.end c.requires e) at read in
    rw (c.fault_at.ensures, c.count-number.ensures.value) (faulty old.table old.machine.history before are found behind c.in-Err.fault one named)

pub returns-clause-judged : goal.returns-clause-judged
returns-clause-judged g c = λ before found are one e.
    let old = c.args.kernel.now in
    let bytes = c.args.bytes.now in
    let line = take (c.args.end + 1) bytes in
    let new = c.compare-answer.new.kernel in
    let cores : c.cores.result ≡ old.table.cores = search rules in
    let read : event_named c.cores.result (take c.args.end bytes) ≡ Ok c.in-Ok.event = search rules in
    let named : event_named old.table.cores found ≡ Ok c.in-Ok.event = rw (cores, unended_is bytes found c.args.end c.requires e) at read in
    let table : new.table ≡ old.table = ap (λ (k : KernelState _). k.table) c.compare-answer.ensures.new in
    let ran : new.machine.history ≡ (accept old.table old.machine c.in-Ok.event).history =
    ap (λ (k : KernelState _). k.machine.history) c.compare-answer.ensures.new in
    let replays : replay old.table new.machine.history ≡ new.machine = rw table at c.holds-2.ensures.replays in
    let fits : length new.machine.history ≤ old.table.limit = rw table at c.holds-2.ensures.within in
    judged old.table old.machine new.machine before found line c.in-Ok.event are one named e ran c.holds.ensures.replays replays fits
    c.compare-answer.result c.compare-answer.ensures.answers

pub returns-clause-more : goal.returns-clause-more
returns-clause-more g c = grind (arith, common_steps)
