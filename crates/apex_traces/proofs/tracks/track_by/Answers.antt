-- The process that its core runs is the chosen one.
use Rattle.std.proofs.Common.{◌≡◌, ◌∙◌, ◌<◌, ℕ, List, Option, None, ap, arith, refl}
use Rattle.std.specs.Prelude.{slice_index_or}
use Rattle.apex_machine.specs.processes.Running.{chosen}
use Rattle.apex_types.specs.declared.limits.TheConstants.{MOST_CORES}
use Rattle.apex_moments.proofs.Places.{place_of}
use Rattle.apex_traces.proofs.tracks.track_by.Goals as goal

pub returns : goal.returns
returns g c =
    let roster = g.S.Store.roster c.args.store.now in
    let core = c.args.fields.now.core in
    let bound : core < MOST_CORES = omega (arith, c.number.ensures.value, c.number.ensures.range) in
    let here : slice_index_or c.args.running.now core None ≡ chosen roster core =
    ap (λ (l : List (Option ℕ)). slice_index_or l core None) c.requires.running
    ∙ place_of (chosen roster) MOST_CORES core None bound in
    rw (c.being_of.ensures, c.state_of.ensures, here, c.mode.ensures, c.requires.fields) refl
