-- The things that the steps of an accepted table name are there.
use Rattle.std.proofs.Common.{◌≡◌, ◌∙◌, ap, sym, inl, inr, ℕ, ◌<◌, Bool, true, false, List, length, slice_get, Option, Some, None, option_map, cond, refl, subst}
use Rattle.std.proofs.lemmas.Bool.{cases_lt}
use Rattle.std.proofs.lemmas.List.{get_or_past}
use Rattle.std.proofs.lemmas.Option.{none-some, same_Some, slice_get_within, get_or_from_slice_get}
use Rattle.apex_laws.specs.Terms.{Call, Entry, Origin}
use Rattle.apex_types.specs.declared.calls.Origin.TheVariants.{Init, Script}
use Rattle.apex_machine.specs.table.Table.{Table, ProcessConfig, Step, IsLawful, IsLawfulStep, IsKnown, no_step, step_at, call_in, no_process, process_config}
use Rattle.apex_machine.specs.Machine.{objects_after}
use Rattle.apex_types.proofs.Places.{length-map_places}
use Rattle.apex_laws.specs.Premises.{AreOf}

-- the objects that a history gives are those of the table
pub objects_are : (table : Table) (history : List Entry) → AreOf table (objects_after table history)
objects_are table history = record {
  processes = length-map_places _ 0 table.processes;
  semaphores = length-map_places _ 0 table.semaphores;
  buffers = length-map_places _ 0 table.buffers;
  blackboards = length-map_places _ 0 table.blackboards;
  event_flags = length-map_places _ 0 table.event_flags;
  mutexes = length-map_places _ 0 table.mutexes;
}

-- the call of a step of a list of lawful steps
pub known_step : (table : Table) (origin : ℕ → Origin) (steps : List Step) (k : ℕ) (call : Call)
    → ((i : ℕ) → i < length steps → IsLawfulStep table (origin i) (step_at steps i))
    → call_in steps k ≡ Some call → IsKnown table call
known_step table origin steps k call all = found (slice_get steps k) refl where
  found : (o : Option Step) → slice_get steps k ≡ o → option_map (λ (s : Step). s.call) o ≡ Some call → IsKnown table call
  found None is e = absurd (none-some call e)
  found (Some step) is e =
      let here = (all k (slice_get_within steps k step is)).known in
      let same : step_at steps k ≡ step = get_or_from_slice_get steps k step no_step is in
      subst (λ (c : Call). IsKnown table c) (same_Some step.call call e)
      (subst (λ (s : Step). IsKnown table s.call) same here)

-- a step of a process's script
pub known_script_step : (table : Table) (p k : ℕ) (call : Call) → IsLawful table
    → call_in (process_config table p).script k ≡ Some call → IsKnown table call
known_script_step table p k call lawful e = elim (cases_lt p (length table.processes)) [
  | inl within ↦ known_step table (λ i. Script p i) _ k call (lawful.processes p within).script e
  | inr past ↦
      let nobody : process_config table p ≡ no_process = get_or_past table.processes p no_process past in
      let none : None ≡ Some call = sym (ap (λ (entry : ProcessConfig). call_in entry.script k) nobody) ∙ e in
      absurd (none-some call none)
]

-- the init step that is due
pub known_due : (table : Table) (k : ℕ) → IsLawful table → (due : Bool) (call : Call)
    → cond {A = Option Call} due (call_in table.init k) None ≡ Some call → IsKnown table call
known_due table k lawful true call e = known_step table (λ i. Init i) table.init k call lawful.init e
known_due table k lawful false call e = cc
