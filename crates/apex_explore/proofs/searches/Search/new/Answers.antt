use Rattle.std.proofs.Common.{rules, ◌≡◌, length, sym, ap, ◌∙◌}
use Rattle.apex_states.proofs.Halving.{given_back}
use Rattle.apex_explore.proofs.searches.Search.new.Goals as goal

pub returns-clause-over : goal.returns-clause-over
returns-clause-over g c =
    let reached = c.in_ok-states in
    let first = c.reached_first.new.first in
    let words = c.in_ok-next.next in
    let lent = c.as_mut_slice.ensures in
    let long : length first ≡ length words.items = c.reached_first.auto.first ∙ ap length lent.value in
    let wide : words.len ≡ g.S.System.word_count c.args.system.now = c.in_ok-next.ensures.len ∙ c.width-width.ensures in
    let back = given_back words.len first words.items (sym lent.len ∙ ap length lent.value) long in
    record {
      width = reached.ensures.width;
      state = search rules;
      next = ap length back ∙ (c.reached_first.auto.first ∙ (lent.len ∙ wide));
      workspace = c.in_ok-workspace.ensures;
      states = reached.ensures.states;
    }
