use Rattle.std.proofs.Common.{◌≡◌, ◌∙◌, Ok, ap, refl}
use Rattle.std.specs.Io.KnownBytes.{prepend_known}
use Rattle.std.proofs.lemmas.Result.{err_from_is_err_and}
use Rattle.apex_dispatch.specs.Kernel.{KernelState}
use Rattle.apex_history.specs.Counted.{inner_of}
use Rattle.apex_check.proofs.Endings.{counts_leading, fault_ahead, followed, lacks_table, nothing_ahead}
use Rattle.apex_check.proofs.checking.follow.Goals as goal

pub returns-in_err-table-clause-err : goal.returns-in_err-table-clause-err
returns-in_err-table-clause-err g c =
    let none = nothing_ahead c.new-pending.result (g.R.Source.remaining (inner_of c.args.reader.now)) c.new-pending.ensures in
    let p = err_from_is_err_and c.from_residual.result c.from_residual.ensures.1 in
    rw (p.1, p.2) (lacks_table (g.R.Source.remaining (inner_of c.args.reader.now)) c.in_err-table.field-0.0 (rw none at c.in_err-table.ensures.err))

pub returns-in_err-table-clause-counted : goal.returns-in_err-table-clause-counted
returns-in_err-table-clause-counted g c =
    let p = err_from_is_err_and c.from_residual.result c.from_residual.ensures.1 in
    rw (p.1, p.2) (counts_leading c.in_err-table.field-0.0 _ _ c.in_err-table.ensures.counted)

pub boot-requires : goal.boot-requires
boot-requires g c = c.requires.opening c.in_ok-table.table (Ok c.in_ok-store.store) (_, c.in_ok-store.ensures, refl)

pub returns-in_err-verdict-clause-err : goal.returns-in_err-verdict-clause-err
returns-in_err-verdict-clause-err g c =
    let known = g.R.Source.remaining (inner_of c.args.reader.now) in
    let none = nothing_ahead c.new-pending.result known c.new-pending.ensures in
    let p = err_from_is_err_and c.from_residual-in_err-verdict.result c.from_residual-in_err-verdict.ensures.1 in
    let (front, lines, reads, taken) = c.in_ok-table.ensures.ok in
    let mid = prepend_known c.leading_table.new.pending (g.R.Source.remaining (inner_of c.leading_table.new.reader)) in
    rw (p.1, p.2) (fault_ahead front c.in_ok-table.table known mid lines reads (rw none at taken) c.in_err-verdict.field-0.0
    (rw c.in_ok-kernel.ensures at c.in_err-verdict.ensures.err))

pub returns-clause-ok : goal.returns-clause-ok
returns-clause-ok g c =
    let known = g.R.Source.remaining (inner_of c.args.reader.now) in
    let none = nothing_ahead c.new-pending.result known c.new-pending.ensures in
    let (front, lines, reads, taken) = c.in_ok-table.ensures.ok in
    let mid = prepend_known c.leading_table.new.pending (g.R.Source.remaining (inner_of c.leading_table.new.reader)) in
    let kernel = c.judge.new.kernel in
    let same : kernel.table ≡ c.in_ok-table.table = c.in_ok-verdict.ensures.table ∙ ap (λ (k : KernelState _). k.table) c.in_ok-kernel.ensures in
    rw same (followed front c.in_ok-table.table known mid lines reads (rw none at taken) c.in_ok-verdict.verdict kernel.machine
    (rw same at c.holds.ensures.replays) (rw c.in_ok-kernel.ensures at c.in_ok-verdict.ensures.ok))

pub returns-in_err-verdict-clause-counted : goal.returns-in_err-verdict-clause-counted
returns-in_err-verdict-clause-counted g c =
    let p = err_from_is_err_and c.from_residual-in_err-verdict.result c.from_residual-in_err-verdict.ensures.1 in
    rw (p.1, p.2) (rw c.in_ok-table.ensures.counted at c.in_err-verdict.ensures.counted)
