use Rattle.std.proofs.Common.{inl, refl}
use Rattle.std.proofs.lemmas.Result.{err_from_is_err_and}
use Rattle.apex_cores.proofs.runs.run_partition_with.Goals as goal

pub returns-in_err-shared-clause-asked : goal.returns-in_err-shared-clause-asked
returns-in_err-shared-clause-asked g c =
    let p = err_from_is_err_and c.from_residual.result c.from_residual.ensures.1 in
    rw p.1 (inl (p.2, refl))
