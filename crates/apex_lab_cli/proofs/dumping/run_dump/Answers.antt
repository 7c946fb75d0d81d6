-- How it ends, by what the source gives.
use Rattle.std.proofs.KnownBytes.{Keeps-refl}
use Rattle.std.proofs.lemmas.Result.{err_from_is_err_and}
use Rattle.apex_views.specs.Shows as showing
use Rattle.apex_lab_cli.specs.Dumps.{stopped}
use Rattle.apex_lab_cli.proofs.dumping.run_dump.Goals as goal

pub returns-in_err-run : goal.returns-in_err-run
returns-in_err-run g c =
    let p = err_from_is_err_and c.from_residual.result c.from_residual.ensures.1 in
    rw (p.1, p.2) (record { outcome = _; gives = c.in_err-run.ensures; dumps = stopped {ends = showing.fails c.in_err-run.field-0.0} (Keeps-refl _) })

pub returns : goal.returns
returns g c = record { outcome = _; gives = c.in_ok-run.ensures; dumps = c.dump_given.ensures }
