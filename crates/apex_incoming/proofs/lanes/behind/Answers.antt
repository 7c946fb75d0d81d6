use Rattle.std.proofs.Common.{◌∙◌, ◌+◌, ◌/◌, ◌%◌, ◌^◌, ap, shr-shr}
use Rattle.apex_incoming.proofs.lanes.behind.Goals as goal

pub returns : goal.returns
returns c k =
    ap (λ x. x / 2 ^ k % 2) (shr-shr c.args.bits c.args.place 1)
    ∙ ap (λ x. x % 2) (shr-shr c.args.bits (c.args.place + 1) k)
