-- The events of a list, one by one.
use Rattle.std.proofs.Common.{◌≡◌, ℕ, ◌+◌, ◌<◌, ◌≤◌, List, ◌∷◌, length, drop, get_or, add-one, refl}
use Rattle.std.proofs.Math.Seq.{drop-cons}
use Rattle.std.proofs.lemmas.List.{drop_all}
use Rattle.apex_machine.specs.Machine.{Machine, accept, run}
use Rattle.apex_machine.specs.table.Table.{Table}
use Rattle.apex_moments.specs.Terms.{Event}

-- one event more of a list
pub run_next : (table : Table) (machine new : Machine) (events : List Event) (i : ℕ) (event : Event) (end : Machine)
    → i < length events → event ≡ get_or events i event → new ≡ accept table machine event
    → run table machine (drop i events) ≡ end → run table new (drop (i + 1) events) ≡ end
run_next table machine new events i event end within here is before =
    let next : drop i events ≡ event ∷ drop (i + 1) events = rw (drop-cons events i event within, ← here, add-one i) refl in
    let taken : run table (accept table machine event) (drop (i + 1) events) ≡ end = rw next at before in
    rw is taken

-- all events were made
pub run_ended : (table : Table) (machine : Machine) (events : List Event) (i : ℕ) (end : Machine)
    → length events ≤ i → run table machine (drop i events) ≡ end → machine ≡ end
run_ended table machine events i end past is = rw (drop_all i events past) at is
