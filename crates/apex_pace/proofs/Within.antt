-- Work that needs more ticks.
use Rattle.std.proofs.Common.{◌≡◌, ℕ, ◌*◌, ◌≤◌, Bool, true, false, Option, None, Some, arith, nat_lt, ltb-true, lt-ltb, lt_of_lt_of_le, mul-le-mul_right}
use Rattle.std.proofs.lemmas.Bool.{and_from, and_parts, both_ways, false_from_ne_true}
use Rattle.apex_pace.specs.Terms.{OpenWork}
use Rattle.apex_pace.specs.Pace.{Paced, all_ticks, is_at_work, is_within, least_ticks, needs_time}

-- work that needs some ticks needs no fewer of them
pub within_less : (ticks more : ℕ → ℕ) → ((n : ℕ) → ticks n ≤ more n) → (passed : ℕ) (begun : Option OpenWork)
    → is_within ticks passed begun ≡ true → is_within more passed begun ≡ true
within_less ticks more less passed None h = h
within_less ticks more less passed (Some o) h =
    let parts = and_parts o.unbroken (nat_lt passed (ticks o.work.amount)) h in
    and_from o.unbroken (nat_lt passed (more o.work.amount)) parts.0
    (lt-ltb passed (more o.work.amount)
    (lt_of_lt_of_le (ltb-true passed (ticks o.work.amount) parts.1) (less o.work.amount)))

pub least_mono : (percent more : ℕ) → percent ≤ more → (n : ℕ) → least_ticks percent n ≤ least_ticks more n
least_mono percent more less n =
    let product : percent * n ≤ more * n = mul-le-mul_right n less in
    omega arith

pub least_all : (percent : ℕ) → percent ≤ 100 → (n : ℕ) → least_ticks percent n ≤ n
least_all percent most n =
    let product : percent * n ≤ 100 * n = mul-le-mul_right n most in
    omega arith

pub needs_less : (percent more : ℕ) → percent ≤ more → (s : Paced) (core : ℕ)
    → needs_time percent s core ≡ true → needs_time more s core ≡ true
needs_less percent more less s core =
    within_less (least_ticks percent) (least_ticks more) (least_mono percent more less) (s.worked core) (s.situation.works core)

-- work that needs time is at work
pub needs_works : (percent : ℕ) → percent ≤ 100 → (s : Paced) (core : ℕ)
    → needs_time percent s core ≡ true → is_at_work s core ≡ true
needs_works percent most s core =
    within_less (least_ticks percent) all_ticks (least_all percent most) (s.worked core) (s.situation.works core)

-- a test that holds less often fails if the other does
pub fails : (x y : Bool) → (x ≡ true → y ≡ true) → y ≡ false → x ≡ false
fails x y both absent = false_from_ne_true x (λ holds. both_ways y absent (both holds))
