-- The running values that are listed are those that the history gives.
use Rattle.std.proofs.Common.{ap, length, arith}
use Rattle.apex_machine.specs.text.Listing.{listing, listing_of}
use Rattle.apex_machine.specs.Deeds.{Objects}
use Rattle.apex_dispatch.proofs.Replays.{kept_values}
use Rattle.apex_dispatch.proofs.kernels.Kernel.listing.Goals as goal

pub invariant_of-result : goal.invariant_of-result
invariant_of-result g c = record {
  lawful = c.self.invariant.lawful;
  cores = omega (arith, c.cores-cores.ensures.value, c.cores-cores.ensures.range);
  records = rw c.store-store.ensures.roster c.self.invariant.goes_on.records;
  objects = rw c.objects.ensures c.self.invariant.goes_on.objects;
}

pub returns : goal.returns
unfolding listing
returns g c =
    let inside = c.self.inside in
    let situation = inside.situation in
    let history = inside.log.entries in
    rw (← c.self.view_is, c.objects.ensures, c.store-store.ensures.roster, c.len.ensures.value)
    (ap (λ (o : Objects). listing_of inside.table situation.roster o (length history)) (kept_values _ _ _ _ c.self.invariant))
