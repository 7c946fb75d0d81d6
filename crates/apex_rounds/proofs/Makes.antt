-- Events that are made one after the other.
use Rattle.std.proofs.Common.{◌≡◌, ◌∙◌, ◌+◌, ◌≤◌, false, inl, inr, List, [], ◌∷◌, ◌++◌, length, length-append, Result, Ok, Err, refl, sym, ap, arith}
use Rattle.std.specs.Prelude.{OnOk}
use Rattle.std.proofs.lemmas.Bool.{both_ways, cases_lt}
use Rattle.apex_types.specs.declared.entries.Full.{Full}
use Rattle.apex_machine.specs.Machine.{Machine, accept, run}
use Rattle.apex_machine.specs.table.Table.{Table}
use Rattle.apex_dispatch.specs.Kernel.{KernelState, kernel_in}
use Rattle.apex_laws.proofs.Runs.{accept-room, length-happen, run-append, run-fills, run-full}
use Rattle.apex_pace.specs.Pace.{Paced, paced_run, paced_step}
use Rattle.apex_laws.specs.Terms.{Event}
use Rattle.apex_rounds.specs.Rounds.{Makes, RoundsState, paced_in}

-- each event for which there is room adds one entry
length-run : (table : Table) (machine : Machine) (events : List Event)
    → length machine.history + length events ≤ table.limit
    → length (run table machine events).history ≡ length machine.history + length events
length-run table machine [] fits = omega arith
length-run table machine (event ∷ events) fits =
    let taken = accept-room table machine event (omega (arith, fits)) in
    let one : length (accept table machine event).history ≡ length machine.history + 1 =
    ap (λ (m : Machine). length m.history) taken ∙ length-happen table machine event in
    length-run table (accept table machine event) events (omega (arith, one, fits)) ∙ omega (arith, one)

paced_run-append : (table : Table) (s : Paced) (first rest : List Event)
    → paced_run table s (first ++ rest) ≡ paced_run table (paced_run table s first) rest
paced_run-append table s [] rest = refl
paced_run-append table s (event ∷ first) rest = paced_run-append table (paced_step table s event) first rest

-- what holds of a result holds of each that is Ok if it is
on_ok : {X : Type 0} (result : Result X Full) {A B : Type 0} → (A → B) → OnOk result A → OnOk result B
on_ok (Ok x) f a = f a
on_ok (Err e) f a = tt

module _ {S : Type 0} where
  -- no event is made
  pub makes_none : {X : Type 0} (x : X) (old : RoundsState S)
      → old.kernel ≡ kernel_in old.kernel.table old.kernel.machine old.kernel.store
      → length old.kernel.machine.history ≤ old.kernel.table.limit → Makes (Ok x) old old []
  makes_none x old values within = record {
    kernel = values;
    accepted = (λ ok. omega (arith, within), λ few. refl);
    paced = refl;
    pace = refl;
  }

  -- a run that is answered in another way
  pub makes_ok : {X Y : Type 0} {x : X} (y : Y) {old new : RoundsState S} {events : List Event}
      → Makes (Ok x) old new events → Makes (Ok y) old new events
  makes_ok y made = record { kernel = made.kernel; accepted = made.accepted; paced = made.paced; pace = made.pace }

  -- the table stays
  pub makes_table : {X : Type 0} {result : Result X Full} {old new : RoundsState S} {events : List Event}
      → Makes result old new events → new.kernel.table ≡ old.kernel.table
  makes_table made = ap (λ (k : KernelState S). k.table) made.kernel

  pub makes_machine : {X : Type 0} {result : Result X Full} {old new : RoundsState S} {events : List Event}
      → Makes result old new events
      → new.kernel.machine ≡ run old.kernel.table old.kernel.machine events
  makes_machine made = ap (λ (k : KernelState S). k.machine) made.kernel

  -- each event that was made has its entry
  pub makes_longer : {X : Type 0} {x : X} {old new : RoundsState S} {events : List Event}
      → Makes (Ok x) old new events
      → length new.kernel.machine.history ≡ length old.kernel.machine.history + length events
  makes_longer {X} {x} {old} {new} {events} made =
      ap (λ (m : Machine). length m.history) (makes_machine made)
      ∙ length-run old.kernel.table old.kernel.machine events (made.accepted.0 refl)

  -- some events are made, and then others
  pub makes_then : {X Y : Type 0} {x : X} {result : Result Y Full} (old mid new : RoundsState S) (first rest : List Event)
      → Makes (Ok x) old mid first → Makes result mid new rest → Makes result old new (first ++ rest)
  makes_then {X} {Y} {x} {result} old mid new first rest one two =
      let table = old.kernel.table in
      let same = makes_table one in
      let is = makes_machine one in
      let more = makes_longer one in
      let limit : mid.kernel.table.limit ≡ table.limit = ap (λ (t : Table). t.limit) same in
      let many : length (first ++ rest) ≡ length first + length rest = length-append first rest in
      record {
        kernel = two.kernel
            ∙ ap (λ (t : Table). kernel_in t (run t mid.kernel.machine rest) new.kernel.store) same
            ∙ ap (λ (m : Machine). kernel_in table (run table m rest) new.kernel.store) is
            ∙ ap (λ (m : Machine). kernel_in table m new.kernel.store) (sym (run-append table old.kernel.machine first rest));
        accepted = (
          λ ok. omega (arith, two.accepted.0 ok, more, limit, many),
          λ few. two.accepted.1 (omega (arith, few, more, limit, many)),
        );
        paced = on_ok result
            (λ (here : paced_in new ≡ paced_run mid.kernel.table (paced_in mid) rest). here
            ∙ ap (λ (t : Table). paced_run t (paced_in mid) rest) same
            ∙ ap (λ (s : Paced). paced_run table s rest) one.paced
            ∙ sym (paced_run-append table (paced_in old) first rest))
            two.paced;
        pace = two.pace ∙ one.pace;
      }

  -- once the history is full no other event is made
  pub makes_stops : {X Y : Type 0} {e : Full} (f : Full) (old new : RoundsState S) (first rest : List Event)
      → Makes {X = X} (Err e) old new first → Makes {X = Y} (Err f) old new (first ++ rest)
  makes_stops {X} {Y} {e} f old new first rest one =
      let table = old.kernel.table in
      let machine = old.kernel.machine in
      let many : length (first ++ rest) ≡ length first + length rest = length-append first rest in
      let over : table.limit + 1 ≤ length machine.history + length first = elim (cases_lt table.limit (length machine.history + length first)) [
        | inl more ↦ omega (arith, more)
        | inr few ↦ absurd (both_ways false refl (one.accepted.1 few))
      ] in
      let full = run-fills table machine first (omega (arith, over)) in
      record {
        kernel = one.kernel
            ∙ ap (λ (m : Machine). kernel_in table m new.kernel.store)
            (sym (run-full table (run table machine first) rest full) ∙ sym (run-append table machine first rest));
        accepted = (λ ok. absurd (both_ways false refl ok), λ few. absurd (omega (arith, few, over, many)));
        paced = tt;
        pace = one.pace;
      }
