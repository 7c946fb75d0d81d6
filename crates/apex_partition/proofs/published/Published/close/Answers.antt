use Rattle.std.proofs.Common.{subst, sym}
use Rattle.std.specs.Prelude.{All, List}
use Rattle.apex_machine.specs.Machine.{events_of}
use Rattle.apex_machine.specs.table.Table.{Table}
use Rattle.apex_types.specs.declared.entries.Entry.{Entry}
use Rattle.apex_machine.specs.Events.{IsWithin}
use Rattle.apex_partition.specs.Seats.{IsOneOf}
use Rattle.apex_partition.proofs.Seated.{all_of}
use Rattle.apex_partition.proofs.published.Published.close.Goals as goal

pub returns-clause-others : goal.returns-clause-others
returns-clause-others g c =
    let history = c.self.inside.partition.machine.history in
    let within = subst (λ (t : Table). All (IsWithin t.cores) (events_of history)) c.self.invariant.0 c.stays_within.ensures.events in
    subst (λ (h : List Entry). All (λ (e : Entry). IsOneOf g.P.Naming.table.cores e.who) h) (sym c.new.ensures)
    (all_of g.P.Naming.table.cores history within)
