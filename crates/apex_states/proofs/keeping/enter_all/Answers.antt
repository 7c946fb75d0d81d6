-- Roots that are entered, one after the other.
use Rattle.std.proofs.Common.{◌<◌, ◌≤◌, [], ◌∷◌, length, arith, get_or}
use Rattle.std.proofs.lemmas.List.{length-map}
use Rattle.std.proofs.lemmas.Option.{slice_get-get_or}
use Rattle.apex_states.specs.Keeping.{roots_found}
use Rattle.apex_states.specs.declared.states.Origin.{Origin}
use Rattle.apex_states.proofs.Gathering.{IsKeeping-end, IsKeeping-full, IsKeeping-next}
use Rattle.apex_states.proofs.Rooting.{root_found}
use Rattle.apex_states.proofs.keeping.enter_all.Goals as goal

abbrev nowhere : Origin
nowhere = record { parent = 0; choice = 0 }

pub returns-then-not-enter : goal.returns-then-not-enter
returns-then-not-enter c =
    let place = c.loop-place.place in
    let short : place < length c.args.pairs.now = omega (arith, c.requires.count) in
    let origin = get_or c.args.origins.now place nowhere in
    let find = root_found c.args.pairs.now c.args.origins.now place origin short (slice_get-get_or c.args.origins.now place nowhere c.loop-place-test.true) in
    let kept = rw c.if-not-enter.true at c.enter.ensures in
    IsKeeping-full (roots_found c.args.pairs.now c.args.origins.now) c.args.roots.now c.loop-place.roots place (get_or c.args.pairs.now place 0 ∷ []) origin find c.loop-place.invariant c.enter.new.self kept

pub loop-place-preserved : goal.loop-place-preserved
loop-place-preserved c =
    let place = c.loop-place.place in
    let short : place < length c.args.pairs.now = omega (arith, c.requires.count) in
    let origin = get_or c.args.origins.now place nowhere in
    let find = root_found c.args.pairs.now c.args.origins.now place origin short (slice_get-get_or c.args.origins.now place nowhere c.loop-place-test.true) in
    let kept = rw c.if-not-enter.false at c.enter.ensures in
    IsKeeping-next (roots_found c.args.pairs.now c.args.origins.now) c.args.roots.now c.loop-place.roots place (get_or c.args.pairs.now place 0 ∷ []) origin find c.loop-place.invariant c.enter.new.self kept

pub returns : goal.returns
returns c =
    let found = roots_found c.args.pairs.now c.args.origins.now in
    let past : length found.states ≤ c.loop-place.place = omega (arith, length-map c.args.pairs.now (λ n. n ∷ []), c.requires.count) in
    IsKeeping-end found c.args.roots.now c.loop-place.roots c.loop-place.place past c.loop-place.invariant
