use Rattle.std.proofs.Common.{◌≡◌, ◌∙◌, ℕ, ◌+◌, List, ◌++◌, None, Ok, subst, length, take, arith}
use Rattle.std.specs.Io.KnownBytes.{Consumes, prepend_known}
use Rattle.std.proofs.lemmas.Result.{err_from_is_err_and}
use Rattle.apex_history.specs.Counted.{inner_of}
use Rattle.apex_machine.specs.table.Table.{Table}
use Rattle.apex_machine.specs.Machine.{events_of}
use Rattle.apex_check.specs.Terms.{Entry}
use Rattle.apex_incoming.specs.Ahead.{Comes, IsFirstLine}
use Rattle.apex_incoming.specs.declared.pending.Next.TheVariants.{Part, Rest, End}
use Rattle.apex_check.specs.declared.verdicts.CheckFault.TheVariants.{BadLine, TooLong}
use Rattle.apex_check.specs.declared.following.Answer.{Answer}
use Rattle.apex_check.specs.declared.following.Answer.TheVariants.{Differs, Beyond}
use Rattle.apex_check.specs.declared.verdicts.Verdict.TheVariants.{DepartsAt, Legal}
use Rattle.apex_check.specs.Histories.{AreLines}
use Rattle.apex_check.specs.Steps.{Judged, departure}
use Rattle.apex_incoming.specs.Lines.{ended}
use Rattle.apex_check.specs.Verdicts.{JudgesLines, LineIsAtFault}
use Rattle.apex_incoming.proofs.Coming.{line_ahead, none_left, or_nothing, taken_more, text_ahead}
use Rattle.apex_check.proofs.MoreLines.{counted, ends, line_fault_of, rests, runs_on}
use Rattle.apex_check.proofs.following.judge.Goals as goal

-- the judgement by the table that stayed and the answer that was found
judged_by : {now table : Table} (bytes line : List ℕ) (history : List Entry) {answer found : Answer} → now ≡ table → answer ≡ found
    → Judged now bytes line history (Ok answer) → Judged table bytes line history (Ok found)
judged_by {now} {table} bytes line history {answer} {found} same is judged =
    subst (λ (a : Answer). Judged table bytes line history (Ok a)) is (subst (λ (t : Table). Judged t bytes line history (Ok answer)) same judged)

pub returns-in-Part-clause-err : goal.returns-in-Part-clause-err
returns-in-Part-clause-err g c =
    let (bytes, taken, are) = c.loop-next.invariant.lines in
    let table = c.args.kernel.now.table in
    let old = prepend_known c.args.pending.now (g.R.Source.remaining (inner_of c.args.reader.now)) in
    let before = prepend_known c.loop-next.pending (g.R.Source.remaining (inner_of c.loop-next.reader)) in
    let left = g.R.Source.remaining (inner_of c.next.new.reader) in
    let pending = c.next.new.self in
    let (one, long) : Comes Part pending left = rw c.in-Part.is at c.in-Ok.ensures.comes in
    text_ahead (λ (t : List ℕ). LineIsAtFault table t (TooLong (c.count.result + 1))) old before left bytes pending taken c.in-Ok.ensures.kept
    (rw c.count.ensures.value (runs_on table c.loop-next.kernel.machine.history bytes are pending (or_nothing left) one long))

pub returns-in-Rest-clause-err : goal.returns-in-Rest-clause-err
returns-in-Rest-clause-err g c =
    let (bytes, taken, are) = c.loop-next.invariant.lines in
    let table = c.args.kernel.now.table in
    let old = prepend_known c.args.pending.now (g.R.Source.remaining (inner_of c.args.reader.now)) in
    let before = prepend_known c.loop-next.pending (g.R.Source.remaining (inner_of c.loop-next.reader)) in
    let left = g.R.Source.remaining (inner_of c.next.new.reader) in
    let pending = c.next.new.self in
    let (one, some, few, end) : Comes Rest pending left = rw c.in-Rest.is at c.in-Ok.ensures.comes in
    text_ahead (λ (t : List ℕ). LineIsAtFault table t (BadLine (c.count-in-Rest.result + 1))) old before left bytes pending taken c.in-Ok.ensures.kept
    (rw c.count-in-Rest.ensures.value
    (rests table c.loop-next.kernel.machine.history bytes are pending (or_nothing left) one some few (none_left left end)))

pub returns-in-End-clause-ok : goal.returns-in-End-clause-ok
returns-in-End-clause-ok g c =
    let (bytes, taken, are) = c.loop-next.invariant.lines in
    let table = c.args.kernel.now.table in
    let old = prepend_known c.args.pending.now (g.R.Source.remaining (inner_of c.args.reader.now)) in
    let before = prepend_known c.loop-next.pending (g.R.Source.remaining (inner_of c.loop-next.reader)) in
    let left = g.R.Source.remaining (inner_of c.next.new.reader) in
    let pending = c.next.new.self in
    let (none, end) : Comes End pending left = rw c.in-End.is at c.in-Ok.ensures.comes in
    text_ahead (λ (t : List ℕ). JudgesLines table t (Legal c.count-in-End.result) (events_of c.loop-next.kernel.machine.history)) old before left bytes pending taken c.in-Ok.ensures.kept
    (rw c.count-in-End.ensures.value
    (ends table c.loop-next.kernel.machine.history bytes are pending (or_nothing left) none (none_left left end)))

pub returns-in_err-judge_line-clause-err : goal.returns-in_err-judge_line-clause-err
returns-in_err-judge_line-clause-err g c =
    let (bytes, taken, are) = c.loop-next.invariant.lines in
    let table = c.args.kernel.now.table in
    let old = prepend_known c.args.pending.now (g.R.Source.remaining (inner_of c.args.reader.now)) in
    let before = prepend_known c.loop-next.pending (g.R.Source.remaining (inner_of c.loop-next.reader)) in
    let left = g.R.Source.remaining (inner_of c.next.new.reader) in
    let pending = c.next.new.self in
    let end = c.in-Line.end in
    let fault = c.in_err-judge_line.field-0.0 in
    let first : IsFirstLine end pending = rw c.in-Line.is at c.in-Ok.ensures.comes in
    let e : take (end + 1) c.bytes.result.now ≡ ended (take end pending) = rw c.bytes.ensures first.1 in
    let here : AreLines c.loop-next.kernel.table bytes (events_of c.loop-next.kernel.machine.history) = rw c.loop-next.invariant.table are in
    let judged = c.in_err-judge_line.ensures.judged bytes (take end pending) here first.0 e in
    let p = err_from_is_err_and c.from_residual.result c.from_residual.ensures.1 in
    rw (p.1, p.2) (line_fault_of table old fault
    (line_ahead (λ (t : List ℕ). LineIsAtFault table t fault) old before left bytes pending end taken c.in-Ok.ensures.kept first
    (rw c.loop-next.invariant.table at judged)))

pub returns-in-Differs-clause-ok : goal.returns-in-Differs-clause-ok
returns-in-Differs-clause-ok g c =
    let (bytes, taken, are) = c.loop-next.invariant.lines in
    let table = c.args.kernel.now.table in
    let old = prepend_known c.args.pending.now (g.R.Source.remaining (inner_of c.args.reader.now)) in
    let before = prepend_known c.loop-next.pending (g.R.Source.remaining (inner_of c.loop-next.reader)) in
    let left = g.R.Source.remaining (inner_of c.next.new.reader) in
    let pending = c.next.new.self in
    let end = c.in-Line.end in
    let first : IsFirstLine end pending = rw c.in-Line.is at c.in-Ok.ensures.comes in
    let e : take (end + 1) c.bytes.result.now ≡ ended (take end pending) = rw c.bytes.ensures first.1 in
    let here : AreLines c.loop-next.kernel.table bytes (events_of c.loop-next.kernel.machine.history) = rw c.loop-next.invariant.table are in
    let history = c.judge_line.new.kernel.machine.history in
    let judged : Judged table bytes (take end pending) history (Ok Differs) =
    judged_by bytes (take end pending) history c.loop-next.invariant.table c.in-Differs.is (c.in_ok-judge_line.ensures.judged bytes (take end pending) here first.0 e) in
    rw c.departure.ensures.value
    (line_ahead (λ (t : List ℕ). JudgesLines table t (departure history) (events_of history)) old before left bytes pending end taken c.in-Ok.ensures.kept first judged)

pub returns-in-Beyond-clause-ok : goal.returns-in-Beyond-clause-ok
returns-in-Beyond-clause-ok g c =
    let (bytes, taken, are) = c.loop-next.invariant.lines in
    let table = c.args.kernel.now.table in
    let old = prepend_known c.args.pending.now (g.R.Source.remaining (inner_of c.args.reader.now)) in
    let before = prepend_known c.loop-next.pending (g.R.Source.remaining (inner_of c.loop-next.reader)) in
    let left = g.R.Source.remaining (inner_of c.next.new.reader) in
    let pending = c.next.new.self in
    let end = c.in-Line.end in
    let first : IsFirstLine end pending = rw c.in-Line.is at c.in-Ok.ensures.comes in
    let e : take (end + 1) c.bytes.result.now ≡ ended (take end pending) = rw c.bytes.ensures first.1 in
    let here : AreLines c.loop-next.kernel.table bytes (events_of c.loop-next.kernel.machine.history) = rw c.loop-next.invariant.table are in
    let history = c.judge_line.new.kernel.machine.history in
    let judged : Judged table bytes (take end pending) history (Ok Beyond) =
    judged_by bytes (take end pending) history c.loop-next.invariant.table c.in-Beyond.is (c.in_ok-judge_line.ensures.judged bytes (take end pending) here first.0 e) in
    rw c.count-in-Beyond.ensures.value
    (line_ahead (λ (t : List ℕ). JudgesLines table t (DepartsAt (length history + 1) None) (events_of history)) old before left bytes pending end taken c.in-Ok.ensures.kept first
    judged)

pub loop-next-smaller : goal.loop-next-smaller
loop-next-smaller g c =
    let (bytes, taken, are) = c.loop-next.invariant.lines in
    let table = c.args.kernel.now.table in
    let left = g.R.Source.remaining (inner_of c.next.new.reader) in
    let pending = c.next.new.self in
    let end = c.in-Line.end in
    let first : IsFirstLine end pending = rw c.in-Line.is at c.in-Ok.ensures.comes in
    let e : take (end + 1) c.bytes.result.now ≡ ended (take end pending) = rw c.bytes.ensures first.1 in
    let here : AreLines c.loop-next.kernel.table bytes (events_of c.loop-next.kernel.machine.history) = rw c.loop-next.invariant.table are in
    let history = c.judge_line.new.kernel.machine.history in
    let judged : AreLines table (bytes ++ ended (take end pending)) (events_of history) =
    judged_by bytes (take end pending) history c.loop-next.invariant.table c.in-Same.is (c.in_ok-judge_line.ensures.judged bytes (take end pending) here first.0 e) in
    let more : length c.judge_line.new.kernel.machine.history ≡ length c.loop-next.kernel.machine.history + 1 = c.in_ok-judge_line.ensures.more c.in-Same.is in
    omega (arith, more, judged.fits, counted c.judge_line.new.kernel.machine.history)

pub loop-next-preserved : goal.loop-next-preserved
loop-next-preserved g c =
    let (bytes, taken, are) = c.loop-next.invariant.lines in
    let table = c.args.kernel.now.table in
    let old = prepend_known c.args.pending.now (g.R.Source.remaining (inner_of c.args.reader.now)) in
    let before = prepend_known c.loop-next.pending (g.R.Source.remaining (inner_of c.loop-next.reader)) in
    let left = g.R.Source.remaining (inner_of c.next.new.reader) in
    let pending = c.next.new.self in
    let end = c.in-Line.end in
    let first : IsFirstLine end pending = rw c.in-Line.is at c.in-Ok.ensures.comes in
    let e : take (end + 1) c.bytes.result.now ≡ ended (take end pending) = rw c.bytes.ensures first.1 in
    let here : AreLines c.loop-next.kernel.table bytes (events_of c.loop-next.kernel.machine.history) = rw c.loop-next.invariant.table are in
    let history = c.judge_line.new.kernel.machine.history in
    let judged : AreLines table (bytes ++ ended (take end pending)) (events_of history) =
    judged_by bytes (take end pending) history c.loop-next.invariant.table c.in-Same.is (c.in_ok-judge_line.ensures.judged bytes (take end pending) here first.0 e) in
    let gone : Consumes old (prepend_known c.take.new.self left) (bytes ++ take (end + 1) pending) =
    rw c.take.ensures (taken_more old before left bytes pending (end + 1) taken c.in-Ok.ensures.kept) in
    record {
      table = c.judge_line.ensures.table ∙ c.loop-next.invariant.table;
      lines = (bytes ++ ended (take end pending), rw first.1 at gone, judged);
      failures = c.in-Ok.ensures.counted ∙ c.loop-next.invariant.failures;
    }
