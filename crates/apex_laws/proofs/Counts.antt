-- The number of processes that pass a test, and its change with one record.
use Rattle.std.proofs.Common.{◌≡◌, ℕ, ◌+◌, ◌<◌, ◌≤◌, Bool, true, if◌then◌else◌, List, length, count_by, ℤ, ◌∙◌, ap, inl, inr, arith}
use Rattle.std.proofs.lemmas.Bool.{cases_Bool, cond_both}
use Rattle.std.proofs.lemmas.List.Sums.{sum_by-le-sum_by, sum_by-set}
use Rattle.apex_laws.specs.Terms.{Record}
use Rattle.apex_machine.specs.processes.Roster.{Roster, nobody, record_at, with_record}
use Rattle.apex_machine.specs.processes.Running.{is_eligible}
use Rattle.apex_machine.specs.processes.Stamps.{newest, readied}

-- 1 if it is so, else 0
abbrev pub one_if : Bool → ℕ
one_if b = if b then 1 else 0

abbrev pub count : (Record → Bool) → Roster → ℕ
count passes roster = count_by passes roster.records

-- if all that pass one test pass another, no fewer pass the other
pub count_more : (passes others : Record → Bool) → ((r : Record) → passes r ≡ true → others r ≡ true)
    → (rs : List Record) → count_by passes rs ≤ count_by others rs
count_more passes others more rs =
    sum_by-le-sum_by (λ (r : Record). one_if (passes r)) (λ (r : Record). one_if (others r)) rs
    (λ r. elim (cases_Bool (passes r)) [
      | inl passing ↦ rw (passing, more r passing) (omega arith)
      | inr fails ↦ rw fails (omega arith)
    ])

-- the record of process p changes, and the test takes no notice of stamps
module _ (passes : Record → Bool) (ageless : (r : Record) (since : ℤ) → passes (record r { since = since }) ≡ passes r)
    (roster : Roster) (p : ℕ) (known : p < length roster.records) where
  pub counted : (r : Record) → count passes (with_record roster p r) + one_if (passes (record_at roster p)) ≡ count passes roster + one_if (passes r)
  counted r = sum_by-set (λ (x : Record). one_if (passes x)) roster.records p r nobody known

  pub counted_newest : (r : Record) → count passes (newest roster p r) + one_if (passes (record_at roster p)) ≡ count passes roster + one_if (passes r)
  counted_newest r =
      counted (record r { since = roster.young }) ∙ ap (λ b. count passes roster + one_if b) (ageless r roster.young)

  pub counted_readied : (r : Record) → count passes (readied roster p r) + one_if (passes (record_at roster p)) ≡ count passes roster + one_if (passes r)
  counted_readied r =
      cond_both {A = Roster} (is_eligible roster.mode r) (newest roster p r) (with_record roster p r)
      (λ (after : Roster). count passes after + one_if (passes (record_at roster p)) ≡ count passes roster + one_if (passes r))
      (λ _. counted_newest r) (λ _. counted r)
