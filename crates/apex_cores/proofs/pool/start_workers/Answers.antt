use Rattle.std.proofs.Common.{◌+◌, arith, rules}
use Rattle.std.specs.Prelude.{vec_len}
use Rattle.std.proofs.lemmas.Result.{err_from_is_err_and}
use Rattle.apex_cores.proofs.Asking.{agreed_more, lacks_this}
use Rattle.apex_cores.proofs.pool.start_workers.Goals as goal

pub returns-in_err-ticker-clause-lacks : goal.returns-in_err-ticker-clause-lacks
returns-in_err-ticker-clause-lacks g c =
    let p = err_from_is_err_and c.from_residual-in_err-ticker.result c.from_residual-in_err-ticker.ensures.1 in
    let cores = vec_len c.args.workers.seats in
    rw p.1 (lacks_this g.S.Starts.asks (cores + 1) cores _ c.args.starts.now c.start_cores.new.starts c.start_ticker.new.starts
    c.in_ok-cores.ensures.agreed c.in_err-ticker.ensures.asked (search rules) (omega arith))

pub returns-clause-agreed : goal.returns-clause-agreed
returns-clause-agreed g c =
    agreed_more g.S.Starts.asks (vec_len c.args.workers.seats) _ c.args.starts.now c.start_cores.new.starts c.start_ticker.new.starts
    c.in_ok-cores.ensures.agreed c.in_ok-ticker.ensures.asked (search rules)
