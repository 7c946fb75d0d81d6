-- Expansions up to the first that ends in a hit.
use Rattle.std.proofs.Common.{◌≡◌, ℕ, ◌+◌, ◌<◌, [], ◌∷◌, ◌++◌, length, take, Option, Some, sym, ap, ◌∙◌, subst, arith}
use Rattle.std.proofs.lemmas.List.{take_more}
use Rattle.std.proofs.lemmas.Option.{slice_get-get_or}
use Rattle.apex_states.specs.Expansions.{found_in}
use Rattle.apex_explore.specs.Parts.{FitsOne}
use Rattle.apex_explore.specs.Systems.{step_within}
use Rattle.apex_explore.proofs.Joining.{IsReaching-end, IsReaching-next, IsReaching-one, IsReaching-start}
use Rattle.apex_explore.proofs.taking.reach_of.Goals as goal

pub loop-place-init : goal.loop-place-init
loop-place-init g c =
    let step = step_within (g.S.System.choice_count c.args.system.now) (g.S.System.step c.args.system.now) in
    IsReaching-start step (g.S.System.is_state c.args.system.now) c.args.states.now c.args.front c.args.limit c.args.expansions.now c.requires

pub loop-place-preserved : goal.loop-place-preserved
loop-place-preserved g c =
    let step = step_within (g.S.System.choice_count c.args.system.now) (g.S.System.step c.args.system.now) in
    let expansions = c.args.expansions.now in
    let place = c.loop-place.place in
    let expansion = c.index-expansions-place.result in
    let short : place < length expansions = omega arith in
    let here = slice_get-get_or expansions place expansion short ∙ ap Some (sym c.index-expansions-place.is) in
    let next : take (place + 1) expansions ≡ take place expansions ++ expansion ∷ [] = take_more expansions place expansion short ∙ ap (λ e. take place expansions ++ e ∷ []) (sym c.index-expansions-place.is) in
    IsReaching-next step (g.S.System.is_state c.args.system.now) c.args.states.now c.args.front c.args.limit expansions place c.loop-place.end c.loop-place.invariant expansion here next c.in-None.is

pub returns-in-Some-clause-fits : goal.returns-in-Some-clause-fits
returns-in-Some-clause-fits g c =
    let step = step_within (g.S.System.choice_count c.args.system.now) (g.S.System.step c.args.system.now) in
    let is_state = g.S.System.is_state c.args.system.now in
    let expansions = c.args.expansions.now in
    let place = c.loop-place.place in
    let expansion = c.index-expansions-place.result in
    let short : place < length expansions = omega arith in
    let here = slice_get-get_or expansions place expansion short ∙ ap Some (sym c.index-expansions-place.is) in
    let next : take (place + 1) expansions ≡ take place expansions ++ expansion ∷ [] = take_more expansions place expansion short ∙ ap (λ e. take place expansions ++ e ∷ []) (sym c.index-expansions-place.is) in
    let fits = IsReaching-one step is_state c.args.states.now c.args.front c.args.limit expansions place c.loop-place.end c.loop-place.invariant expansion here next c.requires.level in
    let Fits : Option ℕ → Type 0 = λ h. FitsOne step is_state c.args.states.now c.args.front (record { finds = found_in c.args.states.now.width (take (place + 1) expansions); end = expansion.end; hit = h }) in
    subst Fits c.in-Some.is fits

pub returns-clause-fits : goal.returns-clause-fits
returns-clause-fits g c =
    let step = step_within (g.S.System.choice_count c.args.system.now) (g.S.System.step c.args.system.now) in
    (IsReaching-end step (g.S.System.is_state c.args.system.now) c.args.states.now c.args.front c.args.limit c.args.expansions.now c.loop-place.place c.loop-place.end c.loop-place.invariant (length c.args.expansions.now) (omega arith) (omega arith) c.requires.level).0

pub returns-clause-whole : goal.returns-clause-whole
returns-clause-whole g c = λ _.
    let step = step_within (g.S.System.choice_count c.args.system.now) (g.S.System.step c.args.system.now) in
    (IsReaching-end step (g.S.System.is_state c.args.system.now) c.args.states.now c.args.front c.args.limit c.args.expansions.now c.loop-place.place c.loop-place.end c.loop-place.invariant (length c.args.expansions.now) (omega arith) (omega arith) c.requires.level).1
