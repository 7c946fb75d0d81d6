use Rattle.std.proofs.Common.{◌≡◌, [], None, refl, sym, subst, arith}
use Rattle.apex_types.specs.declared.entries.Event.TheVariants.{Tick}
use Rattle.apex_types.specs.declared.entries.Caller.TheVariants.{Nobody}
use Rattle.apex_types.specs.declared.entries.Reply.TheVariants.{Advanced}
use Rattle.apex_types.specs.declared.entries.Who.TheVariants.{Ticker}
use Rattle.apex_machine.specs.Deeds.{tick_deed}
use Rattle.apex_machine.specs.Situations.{step}
use Rattle.apex_machine.proofs.BothProfiles.{lawful_count}
use Rattle.apex_dispatch.specs.Deeds.{Does}
use Rattle.apex_laws.specs.GoesOn.{CanGoOn}
use Rattle.apex_dispatch.specs.Situations.{situation_with}
use Rattle.apex_laws.proofs.GoesOn.{goes_on, many_stamps}
use Rattle.apex_dispatch.proofs.MachineSteps.{after_does}
use Rattle.apex_dispatch.proofs.situations.Situation.tick.Given.{Over}
use Rattle.apex_dispatch.proofs.situations.Situation.tick.Goals.{After-watch}
use Rattle.apex_dispatch.proofs.situations.Situation.tick.Goals as goal

pub pass_time-went-requires : goal.pass_time-went-requires
pass_time-went-requires g c =
    let can = rw (← c.self.view_is) at c.requires.can in
    record {
      few_processes = omega (arith, can.records, lawful_count _ c.lawful.ensures);
      starts = can.starts;
      instants = can.times;
      stamps = many_stamps can;
      near = omega (arith, can.ticks, c.requires.range);
      room = c.clear.ensures;
    }

-- the deed was done
done : (g : Over) (c : After-watch g) →
    let inside = c.self.inside in
    Does (tick_deed (g.S.Store.roster inside.store) inside.objects c.args.n) Nobody None (Advanced c.args.n c.pass_time-went.result)
    (g.S.Store.roster c.pass_time-went.new.store) inside.objects [] c.pass_time-went.new.notices
done g c =
    let passed = c.pass_time-went.ensures in
    let changes = rw c.clear.ensures at passed.changes in
    record {
      caller = refl;
      call = refl;
      outcome = record { roster = changes.roster; kept = refl; reply = rw passed.went refl; notices = changes.notices };
    }

-- the situation afterwards is the next one
stepped : (g : Over) (c : After-watch g) →
    let inside = c.self.inside in
    situation_with (g.S.Store.roster c.pass_time-went.new.store) inside.objects c.watch.new.self inside.made
    ≡ step c.args.table.now (situation_with (g.S.Store.roster inside.store) inside.objects inside.works inside.made) (Tick c.args.n)
stepped g c =
    let inside = c.self.inside in
    after_does (situation_with (g.S.Store.roster inside.store) inside.objects inside.works inside.made) Ticker _ (done g c)
    c.watch.new.self c.watch.ensures _ (omega arith)

pub returns-clause-situation : goal.returns-clause-situation
returns-clause-situation g c = rw (← c.self.view_is) (stepped g c)

pub returns-clause-answer : goal.returns-clause-answer
returns-clause-answer g c = rw (← c.self.view_is) (done g c)

pub returns-clause-goes_on : goal.returns-clause-goes_on
returns-clause-goes_on g c left can =
    let before = rw (← c.self.view_is) at can in
    subst (CanGoOn c.args.table.now left) (sym (stepped g c))
    (goes_on c.args.table.now c.lawful.ensures _ left before (Tick c.args.n) c.requires.range.1)
