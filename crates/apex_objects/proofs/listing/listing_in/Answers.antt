-- The values that are listed are those that the history gives.
use Rattle.std.proofs.Common.{◌≡◌, ◌∙◌, ℕ, ap, arith, length}
use Rattle.apex_machine.specs.Deeds.{Objects}
use Rattle.apex_machine.specs.Machine.{objects_after}
use Rattle.apex_machine.specs.Situations.{Situation}
use Rattle.apex_machine.specs.processes.Roster.{Roster}
use Rattle.apex_laws.proofs.Known.{objects_are}
use Rattle.apex_objects.specs.Listing.{listing_objects, listing_objects_of}
use Rattle.apex_objects.proofs.listing.listing_in.Goals as goal

pub invariant_of-result : goal.invariant_of-result
invariant_of-result g c =
    let kernel = c.args.kernel.now in
    let roster : g.S.Store.roster c.store-store.result.now ≡ kernel.machine.roster =
    c.store-store.ensures.roster ∙ ap (λ (s : Situation). s.roster) c.situation-situation.ensures in
    let objects : c.objects.result.now ≡ objects_after kernel.table kernel.machine.history =
    c.objects.ensures ∙ ap (λ (s : Situation). s.objects) c.situation-situation.ensures in
    rw (c.table.ensures, objects)
    (record {
      lawful = c.holds.ensures.lawful;
      cores = omega (arith, c.cores-cores.ensures.value, c.cores-cores.ensures.range);
      records = rw roster c.holds.ensures.records;
      objects = objects_are kernel.table kernel.machine.history;
    })

pub returns : goal.returns
unfolding listing_objects
returns g c =
    let kernel = c.args.kernel.now in
    let roster : g.S.Store.roster c.store-store.result.now ≡ kernel.machine.roster =
    c.store-store.ensures.roster ∙ ap (λ (s : Situation). s.roster) c.situation-situation.ensures in
    let objects : c.objects.result.now ≡ objects_after kernel.table kernel.machine.history =
    c.objects.ensures ∙ ap (λ (s : Situation). s.objects) c.situation-situation.ensures in
    let many : c.len.result ≡ length kernel.machine.history = c.len.ensures.value ∙ ap length c.entries.ensures in
    ap (λ table. listing_objects_of table (g.S.Store.roster c.store-store.result.now) c.objects.result.now c.len.result) c.table.ensures
    ∙ ap (λ (r : Roster). listing_objects_of kernel.table r c.objects.result.now c.len.result) roster
    ∙ ap (λ (o : Objects). listing_objects_of kernel.table kernel.machine.roster o c.len.result) objects
    ∙ ap (λ (n : ℕ). listing_objects_of kernel.table kernel.machine.roster (objects_after kernel.table kernel.machine.history) n) many
