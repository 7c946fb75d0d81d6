-- The states of each desk are expanded, and what was made is gathered.
use Rattle.std.proofs.Common.{ℕ, sym, subst}
use Rattle.std.proofs.lemmas.Result.{IfOk-weaker}
use Rattle.apex_explore.specs.Desks.{IsDesk, IsMade, IsReady}
use Rattle.apex_explore.specs.Systems.{step_within}
use Rattle.apex_explore.specs.declared.desks.Desk.{Desk}
use Rattle.apex_jobs.specs.Rounds.{AreGathered}
use Rattle.apex_jobs.proofs.Changing.{left_from, left_of, AreChangedFrom-weaker}
use Rattle.apex_jobs.proofs.Rounds.{AreExpansions-gathered}
use Rattle.apex_jobs.proofs.expanding.expand_all.Goals as goal

pub for_each_apart-requires-clause-accepts : goal.for_each_apart-requires-clause-accepts
for_each_apart-requires-clause-accepts g c κs within = λ at desk is p same.
    let Is = IsDesk (g.S.System.word_count c.args.system.now) (g.S.System.is_workspace c.args.system.now) in
    (subst Is (sym same) (c.requires.desks at desk is), subst (IsReady (g.S.System.is_state c.args.system.now)) (sym same) (c.requires.ready at desk is))

pub gather-requires : goal.gather-requires
gather-requires g c = λ place desk is.
    let step = step_within (g.S.System.choice_count c.args.system.now) (g.S.System.step c.args.system.now) in
    let Made : ℕ → Desk g.row.W.Denot → Desk g.row.W.Denot → Type 0 = λ at old new. IsMade step (g.S.System.word_count c.args.system.now) (g.S.System.is_state c.args.system.now) (g.S.System.is_workspace c.args.system.now) old.batch new in
    let changed = AreChangedFrom-weaker _ Made 0 c.args.desks.now c.for_each_apart.new.items (λ at x y change. subst (Made at x) change.left (subst (λ z. Made at z change.after_call.now) change.argument_is change.call)) c.for_each_apart.ensures.changed in
    let was = left_from Made c.args.desks.now c.for_each_apart.new.items changed place desk is in
    (was.0.batch, was.2)

pub returns-clause-expansions : goal.returns-clause-expansions
returns-clause-expansions g c =
    let step = step_within (g.S.System.choice_count c.args.system.now) (g.S.System.step c.args.system.now) in
    let word_count = g.S.System.word_count c.args.system.now in
    let is_state = g.S.System.is_state c.args.system.now in
    let is_workspace = g.S.System.is_workspace c.args.system.now in
    let Made : ℕ → Desk g.row.W.Denot → Desk g.row.W.Denot → Type 0 = λ at old new. IsMade step word_count is_state is_workspace old.batch new in
    let changed = AreChangedFrom-weaker _ Made 0 c.args.desks.now c.for_each_apart.new.items (λ at x y change. subst (Made at x) change.left (subst (λ z. Made at z change.after_call.now) change.argument_is change.call)) c.for_each_apart.ensures.changed in
    let made = left_of Made c.args.desks.now c.for_each_apart.new.items changed in
    IfOk-weaker c.gather.result (λ expansions. AreGathered c.for_each_apart.new.items expansions.items) _ (λ expansions. AreExpansions-gathered step word_count is_state is_workspace c.args.desks.now c.for_each_apart.new.items made changed.count expansions.items) c.gather.ensures.gathered
