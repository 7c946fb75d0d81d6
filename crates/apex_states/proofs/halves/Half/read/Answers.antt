use Rattle.std.proofs.Common.{rules, ◌≡◌, length, ap, ◌∙◌, arith}
use Rattle.std.proofs.lemmas.Grind.{common_steps}
use Rattle.apex_states.proofs.Halving.{to_restore}
use Rattle.apex_states.proofs.halves.Half.read.Goals as goal

pub restore-requires-clause-tree : goal.restore-requires-clause-tree
restore-requires-clause-tree c =
    let size : c.len.result ≡ length c.args.self.now.words.items = search rules in
    to_restore c.args.self.now c.args.number c.requires.known.0 c.as_mut_slice.result.now c.requires.half c.requires.known.1 (ap length c.as_mut_slice.ensures.value ∙ (c.in_ok-make_room.ensures ∙ size))

pub returns : goal.returns
returns c = grind (arith, common_steps)
