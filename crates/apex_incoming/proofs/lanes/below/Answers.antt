use Rattle.std.proofs.Common.{◌-◌, ◌∙◌, sym, ap, arith, bit_and, pow_pos}
use Rattle.std.specs.Int.{bit_at}
use Rattle.memchr.proofs.lemmas.BitLemmas.{bit_at_low_kept, bit_at_low_only, shl_one}
use Rattle.apex_incoming.proofs.lanes.below.Goals as goal

pub overflow_sub-result : goal.overflow_sub-result
overflow_sub-result c = omega (arith, shl_one c.args.place c.requires, pow_pos c.args.place)

pub returns-clause-kept : goal.returns-clause-kept
returns-clause-kept c k under =
    ap (λ x. bit_at (bit_and c.args.bits (x - 1)) k) (shl_one c.args.place c.requires) ∙ bit_at_low_kept c.args.bits c.args.place k under

pub returns-clause-no_more : goal.returns-clause-no_more
returns-clause-no_more c k set =
    let same = ap (λ x. bit_at (bit_and c.args.bits (x - 1)) k) (shl_one c.args.place c.requires) in
    bit_at_low_only c.args.bits c.args.place k (sym same ∙ set)
