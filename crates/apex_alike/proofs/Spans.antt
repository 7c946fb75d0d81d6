-- The periods of a lawful table's processes are at least 1.
use Rattle.std.proofs.Common.{◌≡◌, ℕ, length, sym, ap, ◌∙◌, inl, inr}
use Rattle.std.proofs.lemmas.Bool.{cases_lt}
use Rattle.std.proofs.lemmas.List.{get_or_past}
use Rattle.std.proofs.lemmas.Option.{none-some}
use Rattle.apex_laws.specs.Terms.{Attributes}
use Rattle.apex_machine.proofs.Periods.{HasSomeTicks}
use Rattle.apex_machine.specs.processes.Roster.{Roster, record_at}
use Rattle.apex_machine.specs.table.Table.{IsLawful, ProcessConfig, Table, no_process, process_config}

config_spans : (table : Table) → IsLawful table → (p : ℕ) → HasSomeTicks (process_config table p).attributes.period
config_spans table lawful p = elim (cases_lt p (length table.processes)) [
  | inl within ↦ λ n is. ((lawful.processes p within).period n is).0
  | inr past ↦ λ n is.
      let none : process_config table p ≡ no_process = get_or_past table.processes p no_process past in
      absurd (none-some n (sym (ap (λ (entry : ProcessConfig). entry.attributes.period) none) ∙ is))
]

-- so are those of the processes that have their attributes
pub spans_of : (table : Table) → IsLawful table → (roster : Roster)
    → ((p : ℕ) → (record_at roster p).attributes ≡ (process_config table p).attributes)
    → (p : ℕ) → HasSomeTicks (record_at roster p).attributes.period
spans_of table lawful roster same p n is =
    config_spans table lawful p n (sym (ap (λ (attributes : Attributes). attributes.period) (same p)) ∙ is)
