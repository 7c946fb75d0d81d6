-- The processes in a queue, from its first waiter on.
use Rattle.std.proofs.Common.{◌≡◌, ℕ, zero, suc, true, [], Option, None, Some, refl, sym}
use Rattle.std.specs.Prelude.{IfSome}
use Rattle.std.proofs.lemmas.Bool.{and_parts}
use Rattle.apex_laws.specs.Terms.{Queue}
use Rattle.apex_machine.specs.text.Listing.{waiters_from}
use Rattle.apex_machine.specs.processes.Roster.{Roster, nobody, record_at}
use Rattle.apex_machine.specs.processes.Waiters.{discipline_of, first_waiter, next_waiter, waits_before, waits_behind, waits_in}
use Rattle.apex_machine.proofs.Choice.{place_passes}
use Rattle.apex_machine.proofs.Starts.{first_waits}

-- a process that is found waits in the queue
abbrev pub WaitsIn : Roster → Queue → Option ℕ → Type 0
WaitsIn roster queue found = IfSome found (λ p. waits_in queue (record_at roster p) ≡ true)

pub first_stands : (roster : Roster) (queue : Queue) (found : Option ℕ) → found ≡ first_waiter roster queue
    → WaitsIn roster queue found
first_stands roster queue None e = tt
first_stands roster queue (Some p) e = first_waits roster queue p (sym e)

pub next_stands : (roster : Roster) (queue : Queue) (ahead : ℕ) (found : Option ℕ) → found ≡ next_waiter roster queue ahead
    → WaitsIn roster queue found
unfolding waits_behind
next_stands roster queue ahead None e = tt
next_stands roster queue ahead (Some p) e =
    let discipline = discipline_of roster queue in
    let passes = waits_behind discipline queue (record_at roster ahead) in
    (and_parts _ _ (place_passes passes (waits_before discipline) roster.records p nobody (sym e))).0

-- no process is behind none
pub none_behind : (roster : Roster) (queue : Queue) (n : ℕ) → waiters_from roster queue n None ≡ []
none_behind roster queue zero = refl
none_behind roster queue (suc n) = refl
