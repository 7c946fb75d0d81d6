-- States that are laid out on the desks.
use Rattle.std.proofs.Common.{ℕ, ◌+◌, ◌*◌, ◌^◌, ◌<◌, ◌≤◌, length, sym, ap, ◌∙◌, subst, arith}
use Rattle.std.proofs.lemmas.Option.{slice_get_within}
use Rattle.std.proofs.lemmas.Result.{IfOk-weaker}
use Rattle.apex_explore.specs.declared.desks.Desk.{Desk}
use Rattle.apex_states.specs.Lists.{AllAre}
use Rattle.apex_jobs.specs.Rounds.{start_at, IsLaid, LaysOut}
use Rattle.apex_jobs.proofs.Changing.{left_from, AreChangedFrom-weaker}
use Rattle.apex_jobs.proofs.Layouts.{desks_laid, AreLaidOut-from}
use Rattle.apex_jobs.proofs.laying.lay_out_all.Goals as goal

pub for_each_apart-requires-clause-accepts : goal.for_each_apart-requires-clause-accepts
for_each_apart-requires-clause-accepts g c κs within = λ at desk is p same.
    let wide = (c.requires.desks at desk is).width ∙ sym c.requires.width in
    let before : 0 + at + 1 < 2 ^ 64 = omega (arith, slice_get_within c.args.desks.now at desk is) in
    (before, c.requires.in_order, c.requires.within, ap (λ (d : Desk g.row.W.Denot). d.batch.width) same ∙ wide)

pub returns-clause-laid : goal.returns-clause-laid
returns-clause-laid g c =
    let states = c.args.states.now in
    let size = c.size_beside-size.result in
    let Laid : ℕ → Desk g.row.W.Denot → Desk g.row.W.Denot → Type 0 = λ at. LaysOut states (start_at c.args.from c.args.limit size at) (start_at c.args.from c.args.limit size (at + 1)) in
    let changed = AreChangedFrom-weaker _ Laid 0 c.args.desks.now c.for_each_apart.new.items (λ at x y change. subst (Laid at x) change.left (subst (λ z. Laid at z change.after_call.now) change.argument_is change.call)) c.for_each_apart.ensures.changed in
    let laid = left_from Laid c.args.desks.now c.for_each_apart.new.items changed in
    let whole : c.args.limit ≤ c.args.from + size * length c.for_each_apart.new.items = rw changed.count (omega (arith, c.size_beside-size.ensures, c.requires.in_order)) in
    let few : c.args.limit ≤ 2 ^ 32 = omega (arith, c.requires.within, c.len-size.ensures.len, c.len-size.ensures.room, c.len-size.ensures.few) in
    IfOk-weaker c.all_laid.result (λ _. AllAre IsLaid c.for_each_apart.new.items) _ (λ _ all. AreLaidOut-from (g.S.System.is_state c.args.system.now) states c.args.from c.args.limit size c.args.desks.now c.for_each_apart.new.items laid all c.requires.in_order whole few c.requires.states) c.all_laid.ensures

pub returns-clause-desks : goal.returns-clause-desks
returns-clause-desks g c =
    let states = c.args.states.now in
    let size = c.size_beside-size.result in
    let Laid : ℕ → Desk g.row.W.Denot → Desk g.row.W.Denot → Type 0 = λ at. LaysOut states (start_at c.args.from c.args.limit size at) (start_at c.args.from c.args.limit size (at + 1)) in
    let changed = AreChangedFrom-weaker _ Laid 0 c.args.desks.now c.for_each_apart.new.items (λ at x y change. subst (Laid at x) change.left (subst (λ z. Laid at z change.after_call.now) change.argument_is change.call)) c.for_each_apart.ensures.changed in
    let laid = left_from Laid c.args.desks.now c.for_each_apart.new.items changed in
    IfOk-weaker c.all_laid.result (λ _. AllAre IsLaid c.for_each_apart.new.items) _ (λ _ all. desks_laid (g.S.System.is_state c.args.system.now) states c.args.from c.args.limit size c.args.desks.now c.for_each_apart.new.items laid all (g.S.System.word_count c.args.system.now) (g.S.System.is_workspace c.args.system.now) c.requires.width c.requires.desks) c.all_laid.ensures
