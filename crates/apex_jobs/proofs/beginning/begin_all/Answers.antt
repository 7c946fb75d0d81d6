-- States are laid out and expanded at each desk, and what was made is gathered.
use Rattle.std.proofs.Common.{◌≡◌, ℕ, ◌+◌, ◌*◌, ◌^◌, ◌<◌, ◌≤◌, length, IfOk, Result, Some, sym, subst, arith}
use Rattle.std.proofs.lemmas.Option.{slice_get_within}
use Rattle.std.proofs.lemmas.Result.{IfOk-weaker}
use Rattle.std.specs.List.{slice_get}
use Rattle.std.specs.declared.alloc.AllocError.{AllocError}
use Rattle.apex_explore.specs.Desks.{IsDesk}
use Rattle.apex_explore.specs.Systems.{step_within}
use Rattle.apex_explore.specs.declared.desks.Desk.{Desk}
use Rattle.apex_jobs.specs.Rounds.{start_at, AreGathered, IsDone}
use Rattle.apex_jobs.proofs.Changing.{left_from, AreChangedFrom-weaker}
use Rattle.apex_jobs.proofs.Rounds.{AreExpansions-begun}
use Rattle.apex_jobs.proofs.beginning.begin_all.Goals as goal

pub for_each_apart-requires-clause-accepts : goal.for_each_apart-requires-clause-accepts
for_each_apart-requires-clause-accepts g c κs within = λ at desk is p same.
    let Is = IsDesk (g.S.System.word_count c.args.system.now) (g.S.System.is_workspace c.args.system.now) in
    let before : 0 + at + 1 < 2 ^ 64 = omega (arith, slice_get_within c.args.desks.now at desk is) in
    let few : c.args.limit ≤ 2 ^ 32 = omega (arith, c.requires.within, c.len-size.ensures.len, c.len-size.ensures.room, c.len-size.ensures.few) in
    (before, c.requires.in_order, c.requires.within, few, c.requires.width, c.requires.states, subst Is (sym same) (c.requires.desks at desk is))

pub gather-requires : goal.gather-requires
gather-requires g c = λ place k there.
    let step = step_within (g.S.System.choice_count c.args.system.now) (g.S.System.step c.args.system.now) in
    let states = c.args.states.now in
    let size = c.size_for-size.result in
    let new = c.for_each_apart.new.items in
    let Done : ℕ → Desk g.row.W.Denot → Type 0 = λ at desk. IsDone step (g.S.System.word_count c.args.system.now) (g.S.System.is_state c.args.system.now) (g.S.System.is_workspace c.args.system.now) states (start_at c.args.from c.args.limit size at) (start_at c.args.from c.args.limit size (at + 1)) desk in
    let Works : ℕ → Desk g.row.W.Denot → Desk g.row.W.Denot → Type 0 = λ at old new. IfOk new.laid (λ _. Done at new) in
    let changed = AreChangedFrom-weaker _ Works 0 c.args.desks.now new (λ at x y change. subst (Works at x) change.left change.call) c.for_each_apart.ensures.changed in
    let done : (at : ℕ) (desk : Desk g.row.W.Denot) → slice_get new at ≡ Some desk → Done at desk = λ at desk is.
    let worked = left_from Works c.args.desks.now new changed at desk is in
    let Told : Result Unit AllocError → Type 0 = λ laid. IfOk laid (λ _. Done at desk) in
    subst Told (c.in_ok-all_laid.ensures at desk is) worked.2 in
    let all = done place k there in
    (all.copies, all.made)

pub returns-clause-expansions : goal.returns-clause-expansions
returns-clause-expansions g c =
    let step = step_within (g.S.System.choice_count c.args.system.now) (g.S.System.step c.args.system.now) in
    let states = c.args.states.now in
    let size = c.size_for-size.result in
    let new = c.for_each_apart.new.items in
    let Done : ℕ → Desk g.row.W.Denot → Type 0 = λ at desk. IsDone step (g.S.System.word_count c.args.system.now) (g.S.System.is_state c.args.system.now) (g.S.System.is_workspace c.args.system.now) states (start_at c.args.from c.args.limit size at) (start_at c.args.from c.args.limit size (at + 1)) desk in
    let Works : ℕ → Desk g.row.W.Denot → Desk g.row.W.Denot → Type 0 = λ at old new. IfOk new.laid (λ _. Done at new) in
    let changed = AreChangedFrom-weaker _ Works 0 c.args.desks.now new (λ at x y change. subst (Works at x) change.left change.call) c.for_each_apart.ensures.changed in
    let done : (at : ℕ) (desk : Desk g.row.W.Denot) → slice_get new at ≡ Some desk → Done at desk = λ at desk is.
    let worked = left_from Works c.args.desks.now new changed at desk is in
    let Told : Result Unit AllocError → Type 0 = λ laid. IfOk laid (λ _. Done at desk) in
    subst Told (c.in_ok-all_laid.ensures at desk is) worked.2 in
    let whole : c.args.limit ≤ c.args.from + size * length new = rw changed.count (omega (arith, c.size_for-size.ensures, c.requires.in_order)) in
    IfOk-weaker c.gather.result (λ expansions. AreGathered new expansions.items) _ (λ expansions. AreExpansions-begun step (g.S.System.word_count c.args.system.now) (g.S.System.is_state c.args.system.now) (g.S.System.is_workspace c.args.system.now) states c.args.from c.args.limit size new done expansions.items c.requires.in_order whole c.requires.width) c.gather.ensures.gathered
