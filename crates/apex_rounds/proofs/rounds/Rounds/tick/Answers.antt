use Rattle.std.proofs.Common.{refl}
use Rattle.apex_types.specs.declared.entries.Event.TheVariants.{Tick}
use Rattle.apex_rounds.specs.Rounds.{RoundsState}
use Rattle.apex_rounds.proofs.Counted.{HasTicked, IsCountedAfter, counted_tick}
use Rattle.apex_rounds.proofs.rounds.Rounds.tick.Given.{Over}
use Rattle.apex_rounds.proofs.rounds.Rounds.tick.Goals.{After-tick}
use Rattle.apex_rounds.proofs.rounds.Rounds.tick.Goals as goal

abbrev before : (g : Over) (c : After-tick g) → RoundsState g.row.S.Denot
before g c = record { kernel = c.self.inside.kernel; pace = c.self.inside.pace; counts = c.self.inside.counts }

abbrev after : (g : Over) (c : After-tick g) → RoundsState g.row.S.Denot
after g c = record { kernel = c.accept.new.self; pace = c.self.inside.pace; counts = c.tick.new.self }

-- the kernel and its counts after the tick
made : (g : Over) (c : After-tick g) → IsCountedAfter (tt {0}) (before g c) (after g c) (Tick c.args.n)
made g c =
    let has : HasTicked c.self.inside.counts c.tick.new.self =
    record { turns = c.tick.ensures.turns; since = c.tick.ensures.since } in
    counted_tick (tt {0}) (before g c) (after g c) c.holds.ensures.lawful c.holds.ensures.replays c.self.invariant
    (c.in_ok-accept.ensures.accepted.0 refl) refl c.args.n c.in_ok-accept.ensures.done
    has

pub invariant_of-self-2 : goal.invariant_of-self-2
invariant_of-self-2 g c = (made g c).within

pub returns-clause-makes : goal.returns-clause-makes
returns-clause-makes g c = rw (← c.self.view_is) (made g c).makes
