use Rattle.std.proofs.Common.{◌≡◌, map, ◌∙◌, refl, sym, arith}
use Rattle.std.proofs.lemmas.List.{ext_get_or, get_or-map, length-map}
use Rattle.apex_machine.specs.services.PartitionServices.{enter_idle}
use Rattle.apex_machine.specs.processes.Roster.{nobody}
use Rattle.apex_machine.specs.processes.Stamps.{stopped}
use Rattle.apex_services.proofs.services.partition.enter_idle.Goals as goal

pub returns : goal.returns
returns g c =
    let old = g.S.Store.roster c.args.store.now in
    let new = g.S.Store.roster c.loop-place.store in
    let kept = c.loop-place.invariant in
    let records : new.records ≡ map stopped old.records =
    ext_get_or nobody new.records (map stopped old.records) (kept.many ∙ sym (length-map old.records stopped))
    (λ p within. kept.done p (omega (arith, within, kept.many, kept.end, c.loop-place-test.false))
    ∙ sym (get_or-map stopped old.records p nobody nobody (omega (arith, within, kept.many)))) in
    rw (kept.same, records) (refl {a = enter_idle old})
