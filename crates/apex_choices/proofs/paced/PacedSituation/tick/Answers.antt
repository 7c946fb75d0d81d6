use Rattle.std.proofs.Common.{◌≡◌, ◌+◌, ◌-◌, ◌<◌, ◌≤◌, ◌^◌, arith}
use Rattle.apex_dispatch.specs.Situations.{situation_in}
use Rattle.apex_laws.specs.GoesOn.{CanGoOn}
use Rattle.apex_choices.specs.Counts.{StoredPaced, count_at}
use Rattle.apex_choices.proofs.Counted.{ticked_is, went_near}
use Rattle.apex_choices.proofs.paced.PacedSituation.tick.Goals as goal

pub tick-requires : goal.tick-requires
tick-requires c core =
    let can : CanGoOn c.args.table.now 1 (situation_in c.self.inside.situation) = rw (← c.self.view_is) at c.requires.can in
    let near : c.tick-deed.new.self.roster.now ≤ c.self.inside.situation.roster.now + c.args.n =
    went_near c.args.table.now c.lawful.ensures c.self.inside.situation c.tick-deed.new.self can c.args.n c.tick-deed.ensures.situation in
    let counts = rw (← c.self.view_is) at c.requires.counts in
    let fits : count_at c.self.inside.counts.worked core + c.args.n < 2 ^ 64 = counts core in
    omega (arith, near, fits, c.now.ensures, c.now-before.ensures, c.saturating_sub-went.ensures)

pub returns-clause-step : goal.returns-clause-step
returns-clause-step c =
    let before : StoredPaced = record { situation = c.self.inside.situation; counts = c.self.inside.counts } in
    let after : StoredPaced = record { situation = c.tick-deed.new.self; counts = c.tick.new.self } in
    let went : c.saturating_sub-went.result ≡ c.tick-deed.new.self.roster.now - c.self.inside.situation.roster.now =
    omega (arith, c.now.ensures, c.now-before.ensures, c.saturating_sub-went.ensures) in
    rw (← c.self.view_is) (ticked_is c.args.table.now before after c.args.n c.saturating_sub-went.result c.tick-deed.ensures.situation went
    c.tick.ensures.turns c.tick.ensures.worked)
