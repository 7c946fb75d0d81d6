-- The next step names a core or none.
use Rattle.std.proofs.Common.{◌≡◌, ◌∙◌, add-one, ap, arith, refl}
use Rattle.apex_types.specs.declared.limits.TheConstants.{MOST_INIT_STEPS}
use Rattle.apex_pictures.specs.Rows.{bound_core, core_after}
use Rattle.apex_pictures.proofs.rows.bound_core.Goals as goal

pub loop-place-preserved : goal.loop-place-preserved
loop-place-preserved c = record {
  core = c.core_by-core.ensures ∙ rw (c.init_call.ensures, c.loop-place.invariant.core, add-one c.loop-place.place) refl;
}

pub returns : goal.returns
unfolding bound_core
returns c =
    let all : c.loop-place.place ≡ MOST_INIT_STEPS = omega (arith, c.loop-place-test.false, c.loop-place.auto.place-end) in
    c.loop-place.invariant.core ∙ ap (core_after c.args.table.now c.args.process) all
