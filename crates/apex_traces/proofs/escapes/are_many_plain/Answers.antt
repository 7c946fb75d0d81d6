-- The next load goes on behind those before it, and the last one overlaps it.
use Rattle.std.proofs.Common.{◌*◌, ◌+◌, arith}
use Rattle.std.proofs.lemmas.Bool.{and_parts}
use Rattle.apex_traces.proofs.Plain.{goes_on, joined}
use Rattle.apex_traces.proofs.escapes.are_many_plain.Goals as goal

pub loop-round-preserved : goal.loop-round-preserved
loop-round-preserved c =
    let at = c.loop-round.invariant in
    let round = c.loop-round.round in
    record {
      end = at.end;
      last = λ plain. at.last (and_parts _ _ plain).0;
      front = λ plain.
          let parts = and_parts _ _ plain in
          goes_on c.args.bytes.now (16 * round) 16 (16 * (round + 1)) (at.front parts.0) (c.is_plain_at-plain-in-loop-round.ensures parts.1) (omega arith);
    }

pub returns : goal.returns
returns c = λ plain.
    let at = c.loop-round.invariant in
    joined c.args.bytes.now (16 * c.loop-round.round) 16 (at.front plain) (at.last plain)
    (omega (arith, at.end, c.loop-round-test.false)) c.requires
