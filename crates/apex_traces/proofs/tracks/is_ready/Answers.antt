-- The process that its core runs is the chosen one.
use Rattle.std.proofs.Common.{◌≡◌, ◌∙◌, ◌<◌, ℕ, List, Option, None, ap, arith, sym}
use Rattle.std.specs.Prelude.{slice_index_or}
use Rattle.apex_machine.specs.processes.Running.{chosen, process_state}
use Rattle.apex_types.specs.declared.limits.TheConstants.{MOST_CORES}
use Rattle.apex_types.specs.declared.modes.State.TheVariants as states
use Rattle.apex_moments.proofs.Places.{place_of}
use Rattle.apex_traces.proofs.TracksShown.{track_ready}
use Rattle.apex_traces.proofs.tracks.is_ready.Goals as goal

pub returns-in-Ready : goal.returns-in-Ready
returns-in-Ready g c h =
    let roster = g.S.Store.roster c.args.store.now in
    let core = c.args.fields.now.core in
    let bound : core < MOST_CORES = omega (arith, c.number.ensures.value, c.number.ensures.range) in
    let here : slice_index_or c.args.running.now core None ≡ chosen roster core =
    ap (λ (l : List (Option ℕ)). slice_index_or l core None) c.requires.running
    ∙ place_of (chosen roster) MOST_CORES core None bound in
    let ready : process_state roster c.args.process ≡ states.Ready =
    rw (here, c.mode.ensures, c.requires.fields) at (sym c.state_of.ensures ∙ c.in-Ready.is) in
    track_ready roster c.args.process ready
