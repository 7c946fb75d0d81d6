-- Runs of events.
use Rattle.std.proofs.Common.{◌≡◌, ℕ, ◌+◌, ◌≤◌, ◌<◌, List, [], ◌∷◌, ◌++◌, length, refl, drop, get_or, add-one, arith, length-append, inl, inr, subst, sym}
use Rattle.std.proofs.Math.Seq.{drop-cons}
use Rattle.std.proofs.lemmas.Bool.{lt-ltb, le-ltb, cases_lt}
use Rattle.apex_laws.specs.Terms.{Event}
use Rattle.apex_types.specs.declared.entries.Event.TheVariants.{Turn, Tick}
use Rattle.apex_machine.specs.table.Table.{Table}
use Rattle.apex_machine.specs.Machine.{Machine, turn, tick, happen, accept, run}

-- an event adds one entry
pub length-happen : (table : Table) (machine : Machine) (event : Event) → length (happen table machine event).history ≡ length machine.history + 1
unfolding turn tick
length-happen table machine (Turn core) = rw length-append refl
length-happen table machine (Tick n) = rw length-append refl

-- an event for which there is room
pub accept-room : (table : Table) (machine : Machine) (event : Event) → length machine.history < table.limit
    → accept table machine event ≡ happen table machine event
accept-room table machine event room = rw (lt-ltb _ _ room) refl

-- a full history takes no event
pub accept-full : (table : Table) (machine : Machine) (event : Event) → table.limit ≤ length machine.history
    → accept table machine event ≡ machine
accept-full table machine event full = rw (le-ltb _ _ full) refl

pub run-full : (table : Table) (machine : Machine) (events : List Event) → table.limit ≤ length machine.history
    → run table machine events ≡ machine
run-full table machine [] full = refl
run-full table machine (event ∷ events) full = rw (accept-full table machine event full) (run-full table machine events full)

-- a run is a run over a prefix of it, and then over the rest
pub run-append : (table : Table) (machine : Machine) (first rest : List Event)
    → run table machine (first ++ rest) ≡ run table (run table machine first) rest
run-append table machine [] rest = refl
run-append table machine (event ∷ first) rest = run-append table (accept table machine event) first rest

-- one event more of a list, for which there was room
pub run-step : (table : Table) (machine new : Machine) (events : List Event) (i : ℕ) (event : Event) (end : Machine)
    → i < length events → event ≡ get_or events i event → length machine.history < table.limit → new ≡ happen table machine event
    → run table machine (drop i events) ≡ end → run table new (drop (i + 1) events) ≡ end
run-step table machine new events i event end within here room is before =
    let next : drop i events ≡ event ∷ drop (i + 1) events = rw (drop-cons events i event within, ← here, add-one i) refl in
    let taken : run table (happen table machine event) (drop (i + 1) events) ≡ end = rw (← accept-room table machine event room) (rw next at before) in
    rw is taken

-- as many events as there is room for fill the history
pub run-fills : (table : Table) (machine : Machine) (events : List Event)
    → table.limit ≤ length machine.history + length events
    → table.limit ≤ length (run table machine events).history
run-fills table machine [] many = omega arith
run-fills table machine (event ∷ events) many = elim (cases_lt (length machine.history) table.limit) [
  | inl room ↦
      let rest = run-fills table (happen table machine event) events (omega (arith, many, length-happen table machine event)) in
      subst (λ (m : Machine). table.limit ≤ length (run table m events).history) (sym (accept-room table machine event room)) rest
  | inr full ↦ subst (λ (m : Machine). table.limit ≤ length m.history) (sym (run-full table machine (event ∷ events) full)) full
]
