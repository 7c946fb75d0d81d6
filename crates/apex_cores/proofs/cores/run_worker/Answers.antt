-- The token of the core's entry is the first one.
use Rattle.std.proofs.Common.{◌≡◌, ℕ, subst}
use Rattle.apex_cores.proofs.cores.run_worker.Goals as goal

pub returns-clause-works : goal.returns-clause-works
returns-clause-works g c =
    let done = c.run_core-report.ensures.works in
    let same : c.core.result ≡ done.core = cc in
    record {
      first = c.enter-token.result;
      last = c.run_core-report.new.token;
      done = done;
      entered = subst (λ (core : ℕ). g.G.Gate.enters core c.enter-token.result) same c.enter-token.ensures;
    }
