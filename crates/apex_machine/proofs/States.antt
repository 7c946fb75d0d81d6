-- The state of a process, and what is true of a core's chosen process.
use Rattle.std.proofs.Common.{◌≡◌, ℕ, Bool, true, false, not, ◌&&◌, if◌then◌else◌, Option, None, Some, is_none, ◌==◌, refl, sym, ap}
use Rattle.std.proofs.lemmas.Bool.{and_parts, eqb-true, eq-eqb}
use Rattle.apex_machine.specs.Terms.{Mode, Record, State}
use Rattle.apex_types.specs.declared.modes.State.TheVariants.{Dormant, Ready, Running, Waiting}
use Rattle.apex_types.specs.Modes.{is_normal}
use Rattle.apex_machine.specs.processes.Roster.{Roster, nobody, record_at}
use Rattle.apex_machine.specs.processes.Running.{chosen, is_before, is_eligible, is_process, runs_on}
use Rattle.apex_machine.proofs.Choice.{place_passes}

-- the state by three questions in turn: started, eligible, chosen
abbrev pub state_by : Bool → Bool → Bool → State
state_by started eligible runs = if not started then Dormant else if not eligible then Waiting else if runs then Running else Ready

-- a process that is found is this one
pub is_found : (p : ℕ) (found : Option ℕ) → is_process p found ≡ true → found ≡ Some p
is_found p None h = cc
is_found p (Some q) h = ap Some (sym (eqb-true p q h))

pub found_is : (p : ℕ) (found : Option ℕ) → found ≡ Some p → is_process p found ≡ true
found_is p found e = rw e (eq-eqb p p refl)

pub running_runs : (started eligible runs : Bool) → state_by started eligible runs ≡ Running → runs ≡ true
running_runs false eligible runs e = cc
running_runs true false runs e = cc
running_runs true true true e = refl
running_runs true true false e = cc

pub runs_running : (started eligible runs : Bool) → started ≡ true → eligible ≡ true → runs ≡ true → state_by started eligible runs ≡ Running
runs_running started eligible runs e f g = rw (e, f, g)

pub eligible_started : (mode : Mode) (r : Record) → is_eligible mode r ≡ true → r.started ≡ true
eligible_started mode r e =
    let free = and_parts (is_normal mode && r.started && is_none r.suspended) (is_none r.wait) e in
    let begun = and_parts (is_normal mode && r.started) (is_none r.suspended) free.0 in
    (and_parts (is_normal mode) r.started begun.0).1

running_parts : (mode : Mode) (core : ℕ) (r : Record) → runs_on mode core r ≡ true → (r.started ≡ true) × (is_eligible mode r ≡ true) × (r.core ≡ core)
unfolding runs_on
running_parts mode core r e =
    let both = and_parts (is_eligible mode r) (r.core == core) e in
    (eligible_started mode r both.0, both.0, eqb-true r.core core both.1)

-- a chosen process is started, eligible, and bound to the core
pub chosen_parts : (roster : Roster) (core p : ℕ) → chosen roster core ≡ Some p → ((record_at roster p).started ≡ true) × (is_eligible roster.mode (record_at roster p) ≡ true) × ((record_at roster p).core ≡ core)
chosen_parts roster core p e =
    running_parts roster.mode core (record_at roster p) (place_passes (runs_on roster.mode core) is_before roster.records p nobody e)
