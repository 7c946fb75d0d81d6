-- The process that its core runs is the chosen one, and a chosen process is running.
use Rattle.std.proofs.Common.{◌≡◌, ◌∙◌, ◌<◌, ℕ, List, Option, None, ap, arith, sym}
use Rattle.std.specs.Prelude.{slice_index_or}
use Rattle.apex_machine.specs.processes.Running.{chosen}
use Rattle.apex_types.specs.declared.limits.TheConstants.{MOST_CORES}
use Rattle.apex_moments.proofs.Places.{place_of}
use Rattle.apex_traces.proofs.TracksShown.{track_running}
use Rattle.apex_traces.proofs.tracks.is_run.Goals as goal

pub returns : goal.returns
returns g c h =
    let roster = g.S.Store.roster c.args._store.now in
    let core = c.args.core in
    let bound : core < MOST_CORES = omega (arith, c.number.ensures.value, c.number.ensures.range) in
    let here : slice_index_or c.args.running.now core None ≡ chosen roster core =
    ap (λ (l : List (Option ℕ)). slice_index_or l core None) c.requires
    ∙ place_of (chosen roster) MOST_CORES core None bound in
    track_running roster core c.args.process c.running_at.result (c.running_at.ensures.value ∙ here) (sym c.is_process.ensures ∙ h)
