-- Releases that follow each other by whole periods: the facts that changes of processes keep.
use Rattle.std.proofs.Common.{◌≡◌, ℕ, ◌+◌, ◌-◌, ◌*◌, ◌/◌, ◌≤◌, ◌<◌, false, Option, None, Some, option_map, inl, inr, refl, sym, ◌∙◌, subst, arith}
use Rattle.std.proofs.Math.Nat.{add-mul, div-mul-le_self, mod-eq-sub-div-mul, mod-lt, mul-le-mul_right}
use Rattle.std.proofs.lemmas.Bool.{cases_lt}
use Rattle.std.proofs.lemmas.Option.{none-some, same_Some}
use Rattle.apex_machine.specs.Terms.{Record}
use Rattle.apex_machine.specs.processes.Dues.{IsFrom}
use Rattle.apex_machine.specs.processes.Periods.{IsWholePeriodsAfter, awaits_first, next_release, release_after}
use Rattle.apex_machine.specs.processes.Roster.{Roster, record_at}

-- no period has passed
pub no_period : (period : Option ℕ) (t : ℕ) → IsWholePeriodsAfter period t t
no_period None t = refl
no_period (Some n) t = (0, omega arith)

-- some periods, and then others
pub periods_then : (period : Option ℕ) (t u v : ℕ) → IsWholePeriodsAfter period t u → IsWholePeriodsAfter period u v
    → IsWholePeriodsAfter period t v
periods_then None t u v first second = second ∙ first
periods_then (Some n) t u v first second =
    let split : (first.0 + second.0) * n ≡ first.0 * n + second.0 * n = add-mul first.0 second.0 n in
    (first.0 + second.0, omega (arith, split, first.1, second.1))

-- a process keeps its attributes and its core; one that does not wait for its first release does
-- not do so afterwards either, and its release is the same or whole periods later; a dormant one
-- stays dormant
pub record StaysInPeriod (r s : Record) : Type 0 where
  pub attributes : s.attributes ≡ r.attributes
  pub core : s.core ≡ r.core
  pub later : awaits_first r.wait ≡ false → IsWholePeriodsAfter r.attributes.period r.release s.release
  pub still : awaits_first r.wait ≡ false → awaits_first s.wait ≡ false
  pub dormant : r.started ≡ false → s.started ≡ false

-- that holds of every process
abbrev pub KeepsPeriods : Roster → Roster → Type 0
KeepsPeriods old new = (p : ℕ) → StaysInPeriod (record_at old p) (record_at new p)

pub stays_same : (r : Record) → StaysInPeriod r r
stays_same r = record { attributes = refl; core = refl; later = λ _. no_period r.attributes.period r.release; still = λ e. e; dormant = λ e. e }

pub stays_then : {r s t : Record} → StaysInPeriod r s → StaysInPeriod s t → StaysInPeriod r t
stays_then {r} {s} {t} first second = record {
  attributes = second.attributes ∙ first.attributes;
  core = second.core ∙ first.core;
  later = λ e. periods_then r.attributes.period r.release s.release t.release (first.later e)
      (subst (λ attributes. IsWholePeriodsAfter attributes.period s.release t.release) first.attributes (second.later (first.still e)));
  still = λ e. second.still (first.still e);
  dormant = λ e. second.dormant (first.dormant e);
}

-- the next release of a process is above now, and whole periods later, and no other such instant is
-- sooner
module _ (now release period : ℕ) (some : 1 ≤ period) where
  abbrev passed : ℕ
  passed = (now - release) / period

  one_more : (passed + 1) * period ≡ passed * period + period
  one_more = let split : (passed + 1) * period ≡ passed * period + 1 * period = add-mul passed 1 period in omega (arith, split)

  pub next_later : now < next_release now release period
  next_later =
      let rest = mod-eq-sub-div-mul (now - release) period in
      omega (arith, one_more, rest, mod-lt (now - release) some)

  pub next_once : (k : ℕ) × (1 ≤ k) × (next_release now release period ≡ release + k * period)
  next_once = (passed + 1, omega arith, refl)

  pub next_least : (k : ℕ) → 1 ≤ k → now < release + k * period → next_release now release period ≤ release + k * period
  next_least k once later = elim (cases_lt passed k) [
    | inl less ↦
        let more : passed + 1 ≤ k = omega (arith, less) in
        omega (arith, mul-le-mul_right period more)
    | inr beyond ↦
        let few : k * period ≤ passed * period = mul-le-mul_right period beyond in
        let least : 1 * period ≤ k * period = mul-le-mul_right period once in
        absurd (omega (arith, some, few, least, later, div-mul-le_self (now - release) period))
  ]

-- a period is at least 1
abbrev pub HasSomeTicks : Option ℕ → Type 0
HasSomeTicks period = (n : ℕ) → period ≡ Some n → 1 ≤ n

-- the next release of a process, if it has one, is not below now, and whole periods after the last
-- one
pub release_later : (now : ℕ) (r : Record) → HasSomeTicks r.attributes.period → IsFrom now (release_after now r)
release_later now r = later r.attributes.period where
  later : (period : Option ℕ) → HasSomeTicks period → IsFrom now (option_map (next_release now r.release) period)
  later None some t e = absurd (none-some t e)
  later (Some n) some t e =
      let above = next_later now r.release n (some n refl) in omega (arith, above, same_Some (next_release now r.release n) t e)

pub release_whole : (now : ℕ) (r : Record) (t : ℕ) → release_after now r ≡ Some t → IsWholePeriodsAfter r.attributes.period r.release t
release_whole now r t = whole r.attributes.period where
  whole : (period : Option ℕ) → option_map (next_release now r.release) period ≡ Some t → IsWholePeriodsAfter period r.release t
  whole None e = absurd (none-some t e)
  whole (Some n) e = ((now - r.release) / n + 1, sym (same_Some (next_release now r.release n) t e))
