-- The trail that is still to be read says that the place has an origin.
use Rattle.std.proofs.Common.{rules, ◌≡◌, ℕ, ◌+◌, ◌-◌, ◌<◌, List, [], ◌∷◌, ◌++◌, length, Some, arith, slice_index_or}
use Rattle.std.proofs.lemmas.Option.{slice_get-get_or, slice_get_within}
use Rattle.std.specs.List.{slice_get}
use Rattle.apex_states.specs.declared.states.Origin.{Origin}
use Rattle.apex_explore.proofs.Trails.{IsReadTo, IsReadTo-place, IsReadTo-step}
use Rattle.apex_explore.proofs.paths.path_to.Goals as goal

within : (origins : List Origin) (depth place counter at : ℕ) (path : List ℕ) → counter < depth → IsReadTo origins depth place (depth - counter) at path → at < length origins
within origins depth place counter at path more read =
    let found = IsReadTo-place origins depth place (depth - counter) at path (omega arith) read in
    slice_get_within origins at found.0 found.1

-- One more choice is read.
step : (origins : List Origin) (depth place counter at : ℕ) (path path' : List ℕ) (none : Origin) → counter < depth → path' ≡ path ++ (slice_index_or origins at none).choice ∷ [] → IsReadTo origins depth place (depth - counter) at path → IsReadTo origins depth place (depth - (counter + 1)) (slice_index_or origins at none).parent path'
step origins depth place counter at path path' none more pushed read =
    let lt = within origins depth place counter at path more read in
    let found : slice_get origins at ≡ Some (slice_index_or origins at none) = slice_get-get_or origins at none lt in
    let next = IsReadTo-step origins depth place (depth - counter) at path (slice_index_or origins at none) (omega arith) found read in
    let fewer : depth - counter - 1 ≡ depth - (counter + 1) = omega arith in
    rw pushed (rw fewer at next)

pub offset_bounds-origins-at : goal.offset_bounds-origins-at
offset_bounds-origins-at c = let lt = within c.args.origins.now c.args.depth c.args.place c.loop.counter c.loop.at c.loop.path.items c.loop-test.true c.loop.invariant in search rules

pub bounds-origins-at : goal.bounds-origins-at
bounds-origins-at c = within c.args.origins.now c.args.depth c.args.place c.loop.counter c.loop.at c.loop.path.items c.loop-test.true c.loop.invariant

pub loop-preserved : goal.loop-preserved
loop-preserved c = step c.args.origins.now c.args.depth c.args.place c.loop.counter c.loop.at c.loop.path.items c.push.new.self.items (record { parent = 0; choice = 0 }) c.loop-test.true c.in_ok-push.ensures.items c.loop.invariant
