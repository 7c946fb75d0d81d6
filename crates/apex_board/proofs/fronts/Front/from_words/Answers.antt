use Rattle.std.proofs.Common.{◌≡◌, ℕ, map, take, rules, subst}
use Rattle.apex_board.specs.Fronts.{byte_of}
use Rattle.apex_board.proofs.Words.{decoded}
use Rattle.apex_board.proofs.fronts.Front.from_words.Goals as goal

pub returns : goal.returns
returns c = λ front written fits cores.
    let bytes = c.to_le_bytes-bytes.result in
    let done : c.loop-core.core ≡ c.args.cores = search rules in
    decoded front c.args.words.now c.loop-core.chosen.items c.args.cores bytes written fits cores c.to_le_bytes-bytes.ensures
    (subst (λ (k : ℕ). map byte_of c.loop-core.chosen.items ≡ take k bytes) done c.loop-core.invariant)
