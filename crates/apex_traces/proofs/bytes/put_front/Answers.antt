-- The first bytes are put behind those before the place.
use Rattle.std.proofs.Common.{◌≡◌, arith, length, length-take-le, take}
use Rattle.std.proofs.lemmas.Simd.{length-put_chunk, take_more_put_chunk}
use Rattle.apex_traces.proofs.bytes.put_front.Goals as goal

pub returns-clause-kept : goal.returns-clause-kept
returns-clause-kept g c =
    let front = take g.row.N c.args.bytes.now in
    let long : length front ≡ g.row.N = length-take-le g.row.N c.args.bytes.now c.requires.0 in
    take_more_put_chunk c.args.place c.args.cells.now front _ (omega arith) c.requires.1

pub returns-clause-len : goal.returns-clause-len
returns-clause-len g c = length-put_chunk c.args.place c.args.cells.now (take g.row.N c.args.bytes.now)
