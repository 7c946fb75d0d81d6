-- The two short loads cover the bytes.
use Rattle.std.proofs.Common.{arith}
use Rattle.std.proofs.lemmas.Bool.{and_parts}
use Rattle.apex_traces.proofs.Plain.{joined}
use Rattle.apex_traces.proofs.escapes.are_plain.Goals as goal

pub returns-then-bytes-ge-HALF_LOAD : goal.returns-then-bytes-ge-HALF_LOAD
returns-then-bytes-ge-HALF_LOAD c = λ plain.
    let both = and_parts c.is_half_plain_at-first.result c.is_half_plain_at.result plain in
    joined c.args.bytes.now 8 8 (c.is_half_plain_at-first.ensures both.0) (c.is_half_plain_at.ensures both.1)
    (omega (arith, c.if-bytes-ge-LOAD.false)) c.if-bytes-ge-HALF_LOAD.true
