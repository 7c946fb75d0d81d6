use Rattle.std.proofs.Common.{arith}
use Rattle.std.proofs.lemmas.Grind.{common_steps}
use Rattle.apex_table.proofs.names.Names.of.Goals as goal

pub returns : goal.returns
returns c =
    rw (
      ← c.objects.view_is,
      c.in_ok-listed.ensures,
      c.in_ok-listed-2.ensures,
      c.in_ok-listed-3.ensures,
      c.in_ok-listed-4.ensures,
      c.in_ok-listed-5.ensures,
      c.in_ok-listed-6.ensures,
      c.deref.ensures.value,
      c.deref-2.ensures.value,
      c.deref-3.ensures.value,
      c.deref-4.ensures.value,
      c.deref-5.ensures.value,
    )

pub invariant_of-result : goal.invariant_of-result
invariant_of-result c = grind (arith, common_steps)
