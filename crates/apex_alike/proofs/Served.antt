-- The code can serve a canonical form: stamps and time are left.
use Rattle.std.proofs.Common.{◌≡◌, ℕ, suc, ◌+◌, ◌-◌, ◌*◌, ◌%◌, ◌≤◌, nat_lt, ◌&&◌, not, List, [], ◌∷◌, length, get_or, Option, None, Some, refl, arith}
use Rattle.std.proofs.Math.Nat.{mod-lt, mul-le-mul}
use Rattle.std.proofs.lemmas.Bool.{cond_both, ltb-false}
use Rattle.std.proofs.lemmas.Int.{ints}
use Rattle.apex_laws.specs.Terms.{Record}
use Rattle.apex_machine.specs.processes.Dues.{HasTime}
use Rattle.apex_machine.specs.processes.Periods.{awaits_first}
use Rattle.apex_machine.specs.processes.Roster.{Roster, nobody, record_at}
use Rattle.apex_machine.specs.processes.Stamps.{HasManyStamps}
use Rattle.apex_types.specs.declared.limits.TheConstants.{MOST_PROCESSES, MOST_SPAN}
use Rattle.apex_alike.specs.Canonical.{HasUsualPeriod, age, canonical_roster, oldest_age, recent}

recent_few : (ticks : ℕ) (period : Option ℕ) → ((n : ℕ) → period ≡ Some n → 1 ≤ n) → ((n : ℕ) → period ≡ Some n → n ≤ MOST_SPAN)
    → recent ticks period ≤ 2 * MOST_SPAN
recent_few ticks None some few = omega arith
recent_few ticks (Some n) some few =
    cond_both (nat_lt n ticks) (n + 1 + (ticks - (n + 1)) % n) ticks (λ x. x ≤ 2 * MOST_SPAN)
    (λ _. omega (arith, mod-lt (ticks - (n + 1)) (some n refl), few n refl)) (λ short. omega (arith, few n refl, ltb-false n ticks short))

age_few : (now : ℕ) (r : Record) → HasUsualPeriod r → age now r ≤ 2 * MOST_SPAN
age_few now r usual =
    cond_both (r.started && not (awaits_first r.wait)) (recent (now - r.release) r.attributes.period) 0 (λ x. x ≤ 2 * MOST_SPAN)
    (λ _. recent_few (now - r.release) r.attributes.period usual.some usual.few) (λ _. omega arith)

oldest_few : (now : ℕ) (rs : List Record) → ((p : ℕ) → HasUsualPeriod (get_or rs p nobody)) → oldest_age now rs ≤ 2 * MOST_SPAN
oldest_few now [] usual = omega arith
oldest_few now (r ∷ rs) usual = omega (arith, age_few now r (usual 0), oldest_few now rs (λ p. usual (suc p)))

canonical_has_time : (roster : Roster) → ((p : ℕ) → HasUsualPeriod (record_at roster p)) → HasTime (canonical_roster roster)
canonical_has_time roster usual = omega (arith, oldest_few roster.now roster.records usual)

canonical_has_stamps : (roster : Roster) → length roster.records ≤ MOST_PROCESSES → HasManyStamps (canonical_roster roster)
canonical_has_stamps roster few =
    let n = length roster.records in
    let more : n + 1 ≤ MOST_PROCESSES + 1 = omega (arith, few) in
    let square : (n + 1) * n ≤ (MOST_PROCESSES + 1) * MOST_PROCESSES = mul-le-mul more few in
    record { young = omega (arith, ints, square); old = omega (arith, ints) }

pub can_be_served : (roster : Roster) → ((p : ℕ) → HasUsualPeriod (record_at roster p)) → length roster.records ≤ MOST_PROCESSES
    → HasTime (canonical_roster roster) × HasManyStamps (canonical_roster roster)
can_be_served roster usual few = (canonical_has_time roster usual, canonical_has_stamps roster few)
