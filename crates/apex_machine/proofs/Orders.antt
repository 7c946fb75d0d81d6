-- The orders of records are strict weak orders: they rank records. If no two stamps are the same,
-- the two orders by stamps are total.
use Rattle.std.proofs.Common.{◌≡◌, ◌≢◌, true, false, arith}
use Rattle.std.specs.Cmp.{IsStrictWeakOrder}
use Rattle.std.proofs.lemmas.Bool.Decides.{nat_tests}
use Rattle.std.proofs.lemmas.Int.{ints}
use Rattle.apex_machine.specs.Terms.{Discipline, Record}
use Rattle.apex_types.specs.declared.modes.Discipline.TheVariants.{Fifo, Priority}
use Rattle.apex_machine.specs.processes.Waiters.{waits_before}
use Rattle.apex_machine.specs.processes.Running.{is_before, is_older}

pub older_strict : IsStrictWeakOrder is_older
older_strict = record {
  one_way = λ r s e. grind (arith, ints);
  chain = λ r s t e f. grind (arith, ints);
}

pub before_strict : IsStrictWeakOrder is_before
before_strict = record {
  one_way = λ r s e. grind (arith, ints, nat_tests);
  chain = λ r s t e f. grind (arith, ints, nat_tests);
}

pub older_total : (r s : Record) → r.since ≢ s.since → is_older r s ≡ false → is_older s r ≡ true
older_total r s apart e = grind (arith, ints)

pub before_total : (r s : Record) → r.since ≢ s.since → is_before r s ≡ false → is_before s r ≡ true
before_total r s apart e = grind (arith, ints, nat_tests)

-- so is the order of a queue of any discipline
pub waits_strict : (discipline : Discipline) → IsStrictWeakOrder (waits_before discipline)
waits_strict Fifo = older_strict
waits_strict Priority = before_strict
