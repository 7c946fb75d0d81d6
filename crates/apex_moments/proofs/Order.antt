-- The moments of a run are in order on the axis of its trace, and each is in its tick.
use Rattle.std.proofs.Common.{◌≡◌, ◌∙◌, ℕ, suc, ◌+◌, ◌*◌, ◌-◌, ◌<◌, ◌≤◌, inl, inr, List, refl, sym, subst, ap, arith, length, ◌∷◌, []}
use Rattle.std.proofs.Math.Nat.{mul-le-mul_left, mul-suc}
use Rattle.std.proofs.lemmas.Bool.{cases_eq, cases_lt, eq-eqb, le-ltb, lt-ltb, ne_eqb}
use Rattle.apex_machine.specs.Machine.{Machine, accept, opening, run}
use Rattle.apex_machine.specs.table.Table.{Table, IsLawful}
use Rattle.apex_laws.proofs.Sound.{forward_after, sound_run}
use Rattle.apex_types.specs.declared.limits.TheConstants.{MOST_ENTRIES}
use Rattle.apex_moments.specs.Instants.{instant_after, next_instant, time_at, within_tick}
use Rattle.apex_moments.specs.Laws.{AreInOrder}
use Rattle.apex_moments.specs.Terms.{Event}
use Rattle.apex_moments.specs.declared.instants.Instant.{Instant}
use Rattle.apex_moments.specs.declared.instants.TheConstants.{WIDE_MOMENTS}
use Rattle.apex_scales.specs.declared.ticks.TheConstants.{LEAST_TICK}
use Rattle.apex_moments.proofs.NextInstants.{place_within}
use Rattle.apex_moments.proofs.Pictured.{instant_more, timed_machine}

-- the next place comes after this one
within_rises : (tick p : ℕ) → LEAST_TICK ≤ tick → within_tick tick p < within_tick tick (p + 1)
within_rises tick p long = elim (cases_lt (p + 1) WIDE_MOMENTS) [
  | inl few ↦ rw (lt-ltb p WIDE_MOMENTS (omega (arith, few)), lt-ltb (p + 1) WIDE_MOMENTS few) (omega (arith, long, mul-suc tick p))
  | inr more ↦ elim (cases_lt p WIDE_MOMENTS) [
    | inl last ↦
        let here : p ≡ 99 = omega (arith, last, more) in
        rw (lt-ltb p WIDE_MOMENTS last, le-ltb (p + 1) WIDE_MOMENTS more) (omega (arith, long, ap (λ k. tick * k) here))
    | inr past ↦
        let next : p + 1 - WIDE_MOMENTS ≡ suc (p - WIDE_MOMENTS) = omega (arith, past) in
        rw (le-ltb p WIDE_MOMENTS past, le-ltb (p + 1) WIDE_MOMENTS more)
        (omega (arith, long, ap (λ k. tick * k) next, mul-suc tick (p - WIDE_MOMENTS)))
  ]
]

-- all places are in their tick
within_room : (tick p : ℕ) → LEAST_TICK ≤ tick → p ≤ MOST_ENTRIES → within_tick tick p < 1000 * tick
within_room tick p long few = elim (cases_lt p WIDE_MOMENTS) [
  | inl first ↦
      let below : p ≤ 99 = omega (arith, first) in
      rw (lt-ltb p WIDE_MOMENTS first) (omega (arith, long, mul-le-mul_left tick below))
  | inr past ↦
      let below : p - WIDE_MOMENTS ≤ 65436 = omega (arith, few) in
      rw (le-ltb p WIDE_MOMENTS past) (omega (arith, long, mul-le-mul_left tick below))
]

-- the next instant comes after this one, if time does not go back
pub next_rises : (tick : ℕ) → LEAST_TICK ≤ tick → (instant : Instant) (now : ℕ) → instant.now ≤ now → instant.place ≤ MOST_ENTRIES
    → time_at tick instant < time_at tick (next_instant instant now)
next_rises tick long instant now forward few = elim (cases_eq now instant.now) [
  | inl same ↦
      rw (eq-eqb now instant.now same)
      (omega (arith, ap (λ k. 1000 * tick * k) same, within_rises tick instant.place long))
  | inr other ↦
      let later : suc instant.now ≤ now = omega (arith, forward, other) in
      rw (ne_eqb now instant.now other)
      (omega (arith, long, mul-suc (1000 * tick) instant.now, mul-le-mul_left (1000 * tick) later, within_room tick instant.place long few))
]

-- the machine after these events
abbrev after : Table → List Event → Machine
after table events = run table (opening table) events

few_moments : (table : Table) → IsLawful table → (events : List Event) → (instant_after (after table events).history).place ≤ MOST_ENTRIES
few_moments table lawful events =
    omega (arith, place_within (after table events).history, (sound_run table lawful events).within, lawful.limit.1)

pub in_order : AreInOrder
in_order = record {
  rises = λ table lawful tick long events event room.
      let machine = after table events in
      let sound = sound_run table lawful events in
      let time = timed_machine table machine sound.replays in
      let forward = forward_after table lawful machine (event ∷ []) sound in
      subst (λ (i : Instant). time_at tick (instant_after machine.history) < time_at tick i)
      (sym (instant_more table machine (accept table machine event) event room refl))
      (next_rises tick long (instant_after machine.history) (accept table machine event).roster.now (omega (arith, time, forward))
      (few_moments table lawful events));
  time = λ table lawful events. timed_machine table (after table events) (sound_run table lawful events).replays;
  ticks = λ table lawful tick long events.
      let instant = instant_after (after table events).history in
      omega (arith, mul-suc (1000 * tick) instant.now, within_room tick instant.place long (few_moments table lawful events));
}
