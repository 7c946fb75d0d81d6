-- What the facts about a table's steps say of their calls.
use Rattle.std.proofs.Common.{◌≡◌, ℕ, ◌<◌, ◌^◌, List, length, slice_get, Option, None, Some, option_map, refl, sym, ◌∙◌, ap, subst, inl, inr, arith}
use Rattle.std.proofs.lemmas.Bool.{cases_lt}
use Rattle.std.proofs.lemmas.List.{get_or_past}
use Rattle.std.proofs.lemmas.Option.{get_or_from_slice_get, none-some, same_Some, slice_get_within}
use Rattle.apex_types.specs.declared.calls.Call.{Call}
use Rattle.apex_types.specs.declared.calls.Call.TheVariants.{Process as ToProcess, Work as ToWork}
use Rattle.apex_types.specs.declared.calls.ObjectCall.TheVariants.{KindService}
use Rattle.apex_types.specs.declared.calls.ProcessService.TheVariants as process
use Rattle.apex_types.specs.declared.calls.Timeout.{Timeout}
use Rattle.apex_types.specs.declared.calls.Timeout.TheVariants.{Ticks}
use Rattle.apex_machine.specs.services.ProcessServices.{delay_ticks}
use Rattle.apex_machine.specs.table.Table.{HasNumbersInRange, IsLawful, IsLawfulTimeout, ProcessConfig, Step, Table, call_in, no_process, no_step, process_config, step_at}
use Rattle.apex_recall.specs.Reached.{IsUsual}

-- the call of a step has what the calls of all steps have
pub of_call : (P : Call → Type 0) (steps : List Step) → ((k : ℕ) → k < length steps → P (step_at steps k).call)
    → (k : ℕ) (call : Call) → call_in steps k ≡ Some call → P call
of_call P steps each k call is = found (slice_get steps k) refl where
  found : (o : Option Step) → slice_get steps k ≡ o → P call
  found None none = absurd (none-some call (ap (option_map (λ (s : Step). s.call)) (sym none) ∙ is))
  found (Some step) some =
      let same : step_at steps k ≡ step = get_or_from_slice_get steps k step no_step some in
      let own : step.call ≡ call = same_Some step.call call (sym (ap (option_map (λ (s : Step). s.call)) some) ∙ is) in
      subst P (ap (λ (s : Step). s.call) same ∙ own) (each k (slice_get_within steps k step some))

short : (delay : Timeout) → IsLawfulTimeout delay → delay_ticks delay < 2 ^ 32
short (Ticks n) is = omega (arith, is.1)
short delay is = omega arith

usual_numbers : (call : Call) → HasNumbersInRange call → IsUsual call
usual_numbers (ToProcess (KindService p (process.DelayedStart delay))) is = short delay is
usual_numbers (ToWork amount) is = (is.0, omega (arith, is.1))
usual_numbers call is = tt

-- the numbers of a call of the init list
pub init_call_is_usual : (table : Table) → IsLawful table → (k : ℕ) (call : Call) → call_in table.init k ≡ Some call → IsUsual call
init_call_is_usual table lawful =
    of_call IsUsual table.init (λ k below. usual_numbers (step_at table.init k).call (lawful.init k below).numbers)

-- a step is that of a process of the table
process_within : (table : Table) (p k : ℕ) (call : Call) → call_in (process_config table p).script k ≡ Some call → p < length table.processes
process_within table p k call is = elim (cases_lt p (length table.processes)) [
  | inl within ↦ within
  | inr past ↦
      let none : process_config table p ≡ no_process = get_or_past table.processes p no_process past in
      absurd (none-some call (sym (ap (λ (entry : ProcessConfig). call_in entry.script k) none) ∙ is))
]

-- the numbers of a call of a script
pub script_call_is_usual : (table : Table) → IsLawful table → (p k : ℕ) (call : Call) → call_in (process_config table p).script k ≡ Some call → IsUsual call
script_call_is_usual table lawful p k call is =
    let own = lawful.processes p (process_within table p k call is) in
    of_call IsUsual (process_config table p).script
    (λ i below. usual_numbers (step_at (process_config table p).script i).call (own.script i below).numbers) k call is
