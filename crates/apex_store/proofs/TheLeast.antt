-- Shared laws of a store's choices: the place of the least, under distinct stamps.
use Rattle.std.proofs.Common.{◌≡◌, ℕ, Bool, List, Some, slice_get}
use Rattle.std.specs.Cmp.{IsStrictWeakOrder}
use Rattle.std.proofs.lemmas.Option.{get_or_from_slice_get, slice_get_within}
use Rattle.apex_store.specs.Terms.{Discipline, Record}
use Rattle.apex_machine.specs.processes.Roster.{Roster, nobody}
use Rattle.apex_machine.specs.processes.Distinct.{HasDistinctStamps}
use Rattle.apex_machine.specs.processes.Choice.{place_of_least}
use Rattle.apex_types.specs.declared.modes.Discipline.TheVariants.{Fifo, Priority}
use Rattle.apex_machine.specs.processes.Waiters.{waits_before}
use Rattle.apex_machine.specs.processes.Running.{is_before, is_older}
use Rattle.apex_machine.proofs.Choice.{IsTotalOn, place_is, place_least, place_none}
use Rattle.apex_machine.proofs.Orders.{older_total, before_total}
use Rattle.apex_store.specs.Laws.{IsTheLeast}

pub the_least : (passes : Record → Bool) (before : Record → Record → Bool) → IsStrictWeakOrder before
    → (rs : List Record) → IsTotalOn before rs → IsTheLeast passes before rs (place_of_least passes before rs)
the_least passes before strict rs all = record {
  least = place_least passes before rs strict all;
  only = place_is passes before rs strict;
  none = λ e p r here.
      let same = get_or_from_slice_get rs p r nobody here in
      rw same at ((place_none passes before rs strict e).none p (slice_get_within rs p r here));
}

distinct_at : (roster : Roster) → HasDistinctStamps roster → (p q : ℕ) (r s : Record) → slice_get roster.records p ≡ Some r → slice_get roster.records q ≡ Some s → r.since ≡ s.since → p ≡ q
distinct_at roster distinct p q r s here there same =
    distinct.distinct p q (slice_get_within roster.records p r here) (slice_get_within roster.records q s there)
    (rw (get_or_from_slice_get roster.records p r nobody here, get_or_from_slice_get roster.records q s nobody there) same)

pub older_on : (roster : Roster) → HasDistinctStamps roster → IsTotalOn is_older roster.records
older_on roster distinct = record {
  total = λ p q r s here there apart. older_total r s (λ same. apart (distinct_at roster distinct p q r s here there same));
}

pub before_on : (roster : Roster) → HasDistinctStamps roster → IsTotalOn is_before roster.records
before_on roster distinct = record {
  total = λ p q r s here there apart. before_total r s (λ same. apart (distinct_at roster distinct p q r s here there same));
}

pub waits_on : (roster : Roster) (discipline : Discipline) → HasDistinctStamps roster → IsTotalOn (waits_before discipline) roster.records
waits_on roster Fifo distinct = older_on roster distinct
waits_on roster Priority distinct = before_on roster distinct
