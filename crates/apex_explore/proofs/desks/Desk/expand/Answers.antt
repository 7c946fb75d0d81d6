-- The desk has what was made, and room for the next states.
use Rattle.std.proofs.Common.{rules, ◌≡◌, length, ap, ◌∙◌}
use Rattle.std.proofs.lemmas.Result.{IfOk-weaker}
use Rattle.apex_states.proofs.Halving.{given_back}
use Rattle.apex_explore.proofs.desks.Desk.expand.Goals as goal

pub returns : goal.returns
returns g c =
    let next = c.args.self.now.next in
    let made = c.expand_batch-made in
    let whole : next.len ≡ length next.items = search rules in
    let same : length made.new.next ≡ length next.items = made.auto.next ∙ ap length c.as_mut_slice-next.ensures.value in
    record {
      made = made.result;
      is = search rules;
      expansion = made.ensures.expansion;
      desk_is = IfOk-weaker made.result _ _ (λ expansion workspace. record {
        workspace = workspace;
        next = ap length (given_back next.len made.new.next next.items whole same) ∙ (same ∙ c.requires.desk.next);
        width = c.requires.desk.width;
      }) made.ensures.workspace;
    }
