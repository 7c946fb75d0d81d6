use Rattle.std.proofs.Common.{inl, inr, refl}
use Rattle.std.proofs.lemmas.Result.{err_from_is_err_and}
use Rattle.apex_cores.proofs.pool.run_workers.Goals as goal

pub returns-in_err-started-clause-asked : goal.returns-in_err-started-clause-asked
returns-in_err-started-clause-asked g c =
    let p = err_from_is_err_and c.from_residual.result c.from_residual.ensures.1 in
    rw p.1 (inl (p.2, refl))

pub returns-in_err-back-clause-asked : goal.returns-in_err-back-clause-asked
returns-in_err-back-clause-asked g c =
    let p = err_from_is_err_and c.from_residual-in_err-back.result c.from_residual-in_err-back.ensures.1 in
    rw p.1 (inl (p.2, refl))

pub returns-in_err-cores-clause-asked : goal.returns-in_err-cores-clause-asked
returns-in_err-cores-clause-asked g c =
    let p = err_from_is_err_and c.from_residual-in_err-cores.result c.from_residual-in_err-cores.ensures.1 in
    rw (p.1, p.2) (inr (c.in_err-cores.ensures.refused, c.in_err-cores.ensures.lacks))
