use Rattle.std.proofs.Common.{not, refl}
use Rattle.apex_types.specs.declared.entries.Event.TheVariants.{Turn}
use Rattle.apex_rounds.specs.Rounds.{RoundsState}
use Rattle.apex_rounds.proofs.Counted.{HasTurned, IsCountedAfter, counted_turn}
use Rattle.apex_rounds.proofs.rounds.Rounds.turn.Given.{Over}
use Rattle.apex_rounds.proofs.rounds.Rounds.turn.Goals.{After-turn}
use Rattle.apex_rounds.proofs.rounds.Rounds.turn.Goals as goal

abbrev before : (g : Over) (c : After-turn g) → RoundsState g.row.S.Denot
before g c = record { kernel = c.self.inside.kernel; pace = c.self.inside.pace; counts = c.self.inside.counts }

abbrev after : (g : Over) (c : After-turn g) → RoundsState g.row.S.Denot
after g c = record { kernel = c.accept.new.self; pace = c.self.inside.pace; counts = c.turn.new.self }

-- the kernel and its counts after the turn
made : (g : Over) (c : After-turn g) → IsCountedAfter (tt {0}) (before g c) (after g c) (Turn c.args.core)
made g c =
    let has : HasTurned c.args.core c.now.result (not c.is_starting-counts.result) c.self.inside.counts c.turn.new.self =
    record { turns = c.turn.ensures.turns; since = c.turn.ensures.since } in
    counted_turn (tt {0}) (before g c) (after g c) c.holds.ensures.lawful c.holds.ensures.replays c.self.invariant
    (c.in_ok-accept.ensures.accepted.0 refl) refl c.args.core c.in_ok-accept.ensures.done
    (rw (c.now.ensures, c.is_starting-counts.ensures, ← c.self.view_is) at has)

pub invariant_of-self-2 : goal.invariant_of-self-2
invariant_of-self-2 g c = (made g c).within

pub returns-clause-makes : goal.returns-clause-makes
returns-clause-makes g c = rw (← c.self.view_is) (made g c).makes
