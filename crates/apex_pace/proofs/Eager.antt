-- Turns of cores that are not settled: no more come in a row than the cores have turns.
use Rattle.std.proofs.Common.{◌≡◌, ◌≢◌, ℕ, zero, suc, ◌+◌, ◌-◌, ◌*◌, ◌≤◌, ◌<◌, Bool, true, false, List, [], ◌∷◌, length, inl, inr, refl, arith, subst, sym, nat_lt, ◌||◌, not, ltb-true, true≢false, ne_eqb, eq-eqb}
use Rattle.std.proofs.lemmas.Bool.{cases_eq}
use Rattle.apex_types.specs.declared.entries.Event.TheVariants.{Turn, Tick}
use Rattle.apex_machine.specs.table.Table.{Table}
use Rattle.apex_pace.specs.Laws.{AreEager, IsPace}
use Rattle.apex_pace.specs.Pace.{Paced, is_at_work, is_idle, is_settled, is_starting, may_turn, needs_time, paced_step, turns_after}
use Rattle.apex_pace.specs.Terms.{Event, Pace}
use Rattle.apex_pace.proofs.Within.{fails, needs_works}

-- the turns that the first n cores have left, if each has had this many
abbrev pub left : ℕ → (ℕ → ℕ) → ℕ → ℕ
left most turns zero = 0
left most turns (suc n) = (most - turns n) + left most turns n

pub left_most : (most : ℕ) (turns : ℕ → ℕ) (n : ℕ) → left most turns n ≤ most * n
left_most most turns zero = omega arith
left_most most turns (suc n) = let rest = left_most most turns n in omega arith

module _ (most core : ℕ) (turns after : ℕ → ℕ) (own : after core ≡ turns core + 1)
    (others : (c : ℕ) → c ≢ core → after c ≡ turns c) where
  -- the cores below this one have as many left as before
  left_same : (n : ℕ) → n ≤ core → left most after n ≡ left most turns n
  left_same zero below = refl
  left_same (suc n) below =
      let same : after n ≡ turns n = others n (λ e. omega arith) in
      rw (same, left_same n (omega arith)) refl

  -- a turn of a core that has one left takes one
  pub left_less : (n : ℕ) → core < n → turns core < most → left most after n + 1 ≤ left most turns n
  left_less zero below few = absurd (omega arith)
  left_less (suc n) below few = elim (cases_eq core n) [
    | inl same ↦
        let here : after n ≡ turns n + 1 = subst (λ (c : ℕ). after c ≡ turns c + 1) same own in
        let few_here : turns n < most = subst (λ (c : ℕ). turns c < most) same few in
        let rest = left_same n (omega arith) in
        rw (here, rest) (omega arith)
    | inr other ↦
        let here : after n ≡ turns n = others n (λ e. other (sym e)) in
        let rest = left_less n (omega arith) few in
        rw here (omega arith)
  ]

-- what it means that a core is not settled
unsettled : (idle work few : Bool) → (idle || work || not few) ≡ false → (idle ≡ false) × (work ≡ false) × (few ≡ true)
unsettled false false true h = (refl, refl, refl)
unsettled false false false h = absurd (true≢false h)
unsettled false true few h = absurd (true≢false h)
unsettled true work few h = absurd (true≢false h)

pub unsettled_core : (pace : Pace) (s : Paced) (core : ℕ) → is_settled pace s core ≡ false
    → (is_idle s core ≡ false) × (is_at_work s core ≡ false) × (nat_lt (s.turns core) pace.turns ≡ true)
unsettled_core pace s core = unsettled (is_idle s core) (is_at_work s core) (nat_lt (s.turns core) pace.turns)

turns_own : (s : Paced) (core : ℕ) → is_starting s ≡ false → turns_after s (Turn core) core ≡ s.turns core + 1
turns_own s core started = rw (started, eq-eqb core core refl) refl

turns_others : (s : Paced) (core : ℕ) → is_starting s ≡ false → (c : ℕ) → c ≢ core
    → turns_after s (Turn core) c ≡ s.turns c
turns_others s core started c other = rw (started, ne_eqb c core other) refl

pub eager_few : (pace : Pace) (table : Table) (s : Paced) (events : List Event) → AreEager pace table s events
    → length events ≤ left pace.turns s.turns table.cores
eager_few pace table s [] eager = omega arith
eager_few pace table s (Turn core ∷ events) eager =
    let rest = eager_few pace table (paced_step table s (Turn core)) events eager.3 in
    let less = left_less pace.turns core s.turns (turns_after s (Turn core)) (turns_own s core eager.0)
    (turns_others s core eager.0) table.cores eager.1
    (ltb-true (s.turns core) pace.turns (unsettled_core pace s core eager.2).2) in
    omega arith
eager_few pace table s (Tick n ∷ events) eager = elim eager [ ]

-- the turn of a core that is not settled is allowed
pub eager_may : (pace : Pace) → IsPace pace → (table : Table) (s : Paced) (core : ℕ) → is_starting s ≡ false
    → is_settled pace s core ≡ false → may_turn pace table s core ≡ true
eager_may pace most table s core started h =
    let parts = unsettled_core pace s core h in
    let needs = fails (needs_time pace.percent s core) (is_at_work s core) (needs_works pace.percent most s core) parts.1 in
    rw (started, parts.0, needs) refl
