-- The states that are laid out next are of the same level, or of the next one.
use Rattle.std.proofs.Common.{◌≡◌, ℕ, ◌+◌, ◌-◌, ◌<◌, ◌≤◌, length, sym, ap, ◌∙◌, subst, arith}
use Rattle.apex_explore.specs.Searches.{IsOver}
use Rattle.apex_explore.specs.Systems.{step_within}
use Rattle.apex_explore.specs.declared.fronts.Front.{Front}
use Rattle.apex_explore.specs.declared.searches.Search.{Search}
use Rattle.apex_explore.proofs.Levels.{turned_level}
use Rattle.apex_states.specs.States.{Reached}
use Rattle.apex_jobs.specs.Rounds.{AreExpansions}
use Rattle.std.proofs.lemmas.Grind.{common_steps}
use Rattle.apex_jobs.proofs.Rounds.{AreExpansions-later}
use Rattle.apex_jobs.proofs.jobs.Jobs.go_on_at_once.Goals as goal

pub loop-search-preserved : goal.loop-search-preserved
loop-search-preserved g c =
    let step = step_within (g.S.System.choice_count c.args.system.now) (g.S.System.step c.args.system.now) in
    let is_state = g.S.System.is_state c.args.system.now in
    let word_count = g.S.System.word_count c.args.system.now in
    let so_far = c.loop-search.invariant in
    let taken = c.in_ok-stop.ensures.taken in
    let past = taken.past c.in-None.is in
    let old = c.loop-search.search in
    let new = c.take_and_expand.new.search in
    let turn = c.turn.new.self in
    let end = c.loop-search.end in
    let count = c.states_at_once-in-loop-search.result in
    let next : ℕ = end + count in
    let laid = rw c.states.ensures at c.in_ok-lay_out_all.ensures.laid in
    let found = c.in_ok-stop.ensures.expansions old.states end next so_far.over.width laid in
    let kept = AreExpansions-later step is_state old.states new.states end next c.in_ok-stop.more.items taken.states (taken.over.width ∙ sym so_far.over.width) found in
    let states : turn.states ≡ new.states = ap (λ (s : Search g.row.W.Denot). s.states) c.turn.ensures.same in
    let In : Reached → Type 0 = λ r. AreExpansions step is_state r end next c.in_ok-stop.more.items in
    let From : ℕ → Type 0 = λ n. AreExpansions step is_state turn.states n next c.in_ok-stop.more.items in
    let Over : Search g.row.W.Denot → Type 0 = λ s. IsOver word_count is_state (g.S.System.is_workspace c.args.system.now) s in
    let at : turn.front.at ≡ end = sym c.turn.ensures.further ∙ past.at in
    let level : new.front.level_end ≡ c.loop-search.limit = past.level ∙ so_far.level in
    let there : next ≤ length new.states.states = omega (arith, taken.states.longer, c.len.ensures, c.states_ahead-left.ensures.within, c.states_at_once-in-loop-search.ensures.within) in
    let here : new.front.at < new.front.level_end → next ≤ new.front.level_end = λ before.
    let within = c.states_ahead-left.ensures.level (omega (arith, before, past.at, level)) in
    omega (arith, within, level, c.states_at_once-in-loop-search.ensures.within) in
    let turned_to = turned_level new.front (length new.states.states) next there here taken.searched.in_order in
    let Ends : Front → Type 0 = λ f. next ≤ f.level_end in
    let within : next ≤ turn.front.level_end = subst Ends (sym c.in-Some-turn.ensures.turned) turned_to in
    let left = c.in-Some-turn.ensures.left in
    record {
      over = subst Over (sym c.turn.ensures.same) (record {
        width = taken.over.width;
        state = taken.over.state;
        next = taken.over.next;
        workspace = taken.over.workspace;
        states = taken.over.states;
      });
      searched = c.turn.ensures.searched;
      desks = c.in_ok-stop.ensures.desks;
      some = omega (arith, so_far.some, c.lay_out_all.auto.desks, c.take_and_expand.auto.desks);
      expansions = subst From (sym at) (subst In (sym states) kept);
      further = omega (arith, at, so_far.further, so_far.before);
      before = omega (arith, at, c.states_at_once-in-loop-search.ensures.some);
      within = omega (arith, within, left.limit);
      level = sym left.limit;
      room = ap (λ (r : Reached). r.room) states ∙ (taken.room ∙ so_far.room);
    }

pub loop-search-smaller : goal.loop-search-smaller
loop-search-smaller g c =
    let so_far = c.loop-search.invariant in
    let taken = c.in_ok-stop.ensures.taken in
    let past = taken.past c.in-None.is in
    let old = c.loop-search.search in
    let new = c.take_and_expand.new.search in
    let turn = c.turn.new.self in
    let end = c.loop-search.end in
    let states : turn.states ≡ new.states = ap (λ (s : Search g.row.W.Denot). s.states) c.turn.ensures.same in
    let at : turn.front.at ≡ end = sym c.turn.ensures.further ∙ past.at in
    let room : turn.states.room ≡ old.states.room = ap (λ (r : Reached). r.room) states ∙ taken.room in
    let fits : length old.states.states ≤ old.states.room = c.show.ensures in
    let smaller : turn.states.room + 1 - turn.front.at < old.states.room + 1 - old.front.at = omega (arith, room, at, fits, so_far.before, so_far.within, so_far.level, so_far.searched.in_states) in
    smaller

pub loop-search-init : goal.loop-search-init
loop-search-init g c = grind (arith, common_steps)

pub take-requires-clause-fit : goal.take-requires-clause-fit
take-requires-clause-fit g c = grind (arith, common_steps)

pub lay_out_all-requires-clause-states : goal.lay_out_all-requires-clause-states
lay_out_all-requires-clause-states g c κs within = grind (arith, common_steps)

pub take_and_expand-requires-clause-fit : goal.take_and_expand-requires-clause-fit
take_and_expand-requires-clause-fit g c κs within = grind (arith, common_steps)
