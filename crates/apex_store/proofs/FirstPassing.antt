-- The first record that passes, from which a scan begins to compare.
use Rattle.std.proofs.Common.{◌≡◌, ℕ, ◌+◌, Bool, List, None, Some, get_or, position, false, inl, inr, arith}
use Rattle.std.specs.Cmp.{IsStrictWeakOrder}
use Rattle.std.proofs.lemmas.Bool.{cases_Bool}
use Rattle.std.proofs.lemmas.List.Quantifiers.{position-Some}
use Rattle.apex_store.specs.Terms.{Record}
use Rattle.apex_machine.specs.processes.Choice.{place_of_least}
use Rattle.apex_machine.specs.processes.Roster.{nobody}
use Rattle.apex_machine.proofs.Choice.{IsFirst, place_found}
use Rattle.apex_machine.proofs.Dues.{position_none}

-- if no record passes, there is no least
pub none_is_least : (passes : Record → Bool) (before : Record → Record → Bool) (rs : List Record)
    → position passes rs ≡ None → place_of_least passes before rs ≡ None
none_is_least passes before rs e = place_found passes before rs None (record { none = position_none passes rs e })

-- the first record that passes is the first of those up to it
pub first_passing : (passes : Record → Bool) (before : Record → Record → Bool) (rs : List Record) (p : ℕ)
    → IsStrictWeakOrder before → position passes rs ≡ Some p → IsFirst passes before rs (p + 1) p
first_passing passes before rs p order e =
    let found = position-Some passes rs p nobody e in
    let r = get_or rs p nobody in
    let itself : before r r ≡ false = elim (cases_Bool (before r r)) [ inl both ↦ order.one_way r r both | inr not ↦ not ] in
    record {
      within = omega arith;
      passing = found.1;
      least = λ q below passing. grind (arith, found.2, itself);
      first = λ q below passing. grind (arith, found.2);
    }
