use Rattle.std.proofs.Common.{arith, rules}
use Rattle.std.proofs.lemmas.Int.{ints}
use Rattle.apex_laws.proofs.MissesServed.{reach_serve_deadlines, room_left}
use Rattle.apex_dispatch.proofs.ticks.serve_instant.Goals as goal

pub serve_dues-requires : goal.serve_dues-requires
serve_dues-requires g c =
    let old = g.S.Store.roster c.args.store.now in
    let made = c.serve_deadlines.ensures in
    let moves = (reach_serve_deadlines old c.requires.starts).moves in
    let left = room_left old c.requires.starts in
    let many = c.requires.stamps in
    record {
      few_processes = rw made.roster (omega (arith, moves.many, c.requires.few_processes));
      starts = rw made.roster (moves.starts c.requires.starts);
      instants = rw made.roster (moves.times c.requires.instants);
      stamps = rw made.roster (record {
        young = omega (arith, ints, moves.stamps, many.young, c.requires.few_processes, left);
        old = omega (arith, ints, moves.older, many.old, c.requires.few_processes, left);
      });
      time = rw made.roster (omega (arith, moves.time, c.requires.time));
      room = rw (made.roster, made.notices, c.requires.room) (omega (arith, left, c.requires.few_processes));
    }

pub serve_deadlines-requires-clause-few_processes : goal.serve_deadlines-requires-clause-few_processes
serve_deadlines-requires-clause-few_processes c = search rules
