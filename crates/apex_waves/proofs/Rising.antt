-- The times of a dump rise.
use Rattle.std.proofs.Common.{◌≡◌, ◌∙◌, ℕ, ◌+◌, ◌<◌, ◌≤◌, List, [], ◌∷◌, ◌++◌, inl, inr, ap, arith, length, length-append, refl, subst, sym}
use Rattle.std.proofs.Math.Seq.{take-length}
use Rattle.std.proofs.lemmas.Bool.{cases_lt}
use Rattle.std.proofs.lemmas.List.{take-append-le}
use Rattle.std.specs.Prelude.{take}
use Rattle.apex_types.specs.declared.entries.Entry.{Entry}
use Rattle.apex_types.specs.declared.entries.Event.{Event}
use Rattle.apex_types.specs.declared.limits.TheConstants.{MOST_ENTRIES}
use Rattle.apex_machine.specs.Machine.{Machine, accept, opening, run}
use Rattle.apex_machine.specs.table.Table.{IsLawful, Table}
use Rattle.apex_laws.proofs.Runs.{accept-full, accept-room}
use Rattle.apex_laws.proofs.Sound.{IsSound, forward_after, sound_accept, sound_opening, sound_run}
use Rattle.apex_waves.specs.Dumps.{end_time}
use Rattle.apex_moments.specs.Instants.{instant_after, next_instant}
use Rattle.apex_waves.specs.Instants.{units}
use Rattle.apex_waves.specs.Laws.{TimesRise, after}
use Rattle.apex_moments.specs.declared.instants.Instant.{Instant}
use Rattle.apex_scales.specs.declared.ticks.TheConstants.{LEAST_TICK}
use Rattle.apex_moments.proofs.Pictured.{instant_more, timed_machine}
use Rattle.apex_moments.proofs.NextInstants.{place_within}
use Rattle.apex_moments.proofs.Order.{next_rises}
use Rattle.apex_moments.proofs.Pictured.{event_adds, longer}

-- the next instant comes after this one, if time does not go back
next_later : (instant : Instant) (now : ℕ) → instant.now ≤ now → instant.place ≤ MOST_ENTRIES
    → units instant < units (next_instant instant now)
next_later instant now forward few = next_rises LEAST_TICK (omega arith) instant now forward few

-- the time after the first k of these entries
abbrev time_at : List Entry → ℕ → ℕ
time_at history k = units (instant_after (take k history))

record AreRising (history : List Entry) : Type 0 where
  entries : (k : ℕ) → k < length history → time_at history k < time_at history (k + 1)

time_kept : (done : List Entry) (entry : Entry) (k : ℕ) → k ≤ length done → time_at (done ++ entry ∷ []) k ≡ time_at done k
time_kept done entry k within = ap (λ (l : List Entry). units (instant_after l)) (take-append-le k done (entry ∷ []) within)

time_whole : (done : List Entry) (k : ℕ) → k ≡ length done → time_at done k ≡ units (instant_after done)
time_whole done k is =
    ap (λ (l : List Entry). units (instant_after l)) (ap (λ (n : ℕ). take n done) is ∙ take-length done)

rising_push : (done : List Entry) (entry : Entry) → AreRising done
    → units (instant_after done) < units (instant_after (done ++ entry ∷ [])) → AreRising (done ++ entry ∷ [])
rising_push done entry rising last = record {
  entries = λ k within.
      let many : length (done ++ entry ∷ []) ≡ length done + 1 = length-append done (entry ∷ []) in
      elim (cases_lt k (length done)) [
        | inl old ↦
            subst (λ (t : ℕ). t < time_at (done ++ entry ∷ []) (k + 1)) (sym (time_kept done entry k (omega (arith, old))))
            (subst (λ (t : ℕ). time_at done k < t) (sym (time_kept done entry (k + 1) (omega (arith, old)))) (rising.entries k old))
        | inr new ↦
            let at : k ≡ length done = omega (arith, within, new, many) in
            subst (λ (t : ℕ). t < time_at (done ++ entry ∷ []) (k + 1))
            (sym (time_kept done entry k (omega (arith, at)) ∙ time_whole done k at))
            (subst (λ (t : ℕ). units (instant_after done) < t)
            (sym (time_whole (done ++ entry ∷ []) (k + 1) (omega (arith, at, many)))) last)
      ];
}

-- the place of the instant after a history is in range
few_places : (table : Table) → IsLawful table → (machine : Machine) → IsSound table machine
    → (instant_after machine.history).place ≤ MOST_ENTRIES
few_places table lawful machine sound = omega (arith, place_within machine.history, sound.within, lawful.limit.1)

rising_accept : (table : Table) → IsLawful table → (machine : Machine) → IsSound table machine → (event : Event)
    → AreRising machine.history → AreRising (accept table machine event).history
rising_accept table lawful machine sound event rising = elim (cases_lt (length machine.history) table.limit) [
  | inl room ↦
      let (entry, roster, adds) = event_adds table machine event in
      let new = accept table machine event in
      let is : new ≡ longer machine entry roster = accept-room table machine event room ∙ adds in
      let forward = forward_after table lawful machine (event ∷ []) sound in
      let time = timed_machine table machine sound.replays in
      let next : units (instant_after machine.history) < units (instant_after new.history) =
      subst (λ (i : Instant). units (instant_after machine.history) < units i)
      (sym (instant_more table machine new event room refl))
      (next_later (instant_after machine.history) new.roster.now (omega (arith, time, forward)) (few_places table lawful machine sound)) in
      subst (λ (m : Machine). AreRising m.history) (sym is) (rising_push machine.history entry rising
      (subst (λ (m : Machine). units (instant_after machine.history) < units (instant_after m.history)) is next))
  | inr full ↦ subst (λ (m : Machine). AreRising m.history) (sym (accept-full table machine event full)) rising
]

rising_run : (table : Table) → IsLawful table → (events : List Event) (machine : Machine) → IsSound table machine
    → AreRising machine.history → AreRising (run table machine events).history
rising_run table lawful [] machine sound rising = rising
rising_run table lawful (event ∷ events) machine sound rising =
    rising_run table lawful events (accept table machine event) (sound_accept table lawful machine sound event)
    (rising_accept table lawful machine sound event rising)

none_rise : AreRising []
none_rise = record { entries = λ k within. absurd (omega (arith, within)) }

pub rise : TimesRise
rise = record {
  entries = λ table lawful events k within.
      (rising_run table lawful events (opening table) (sound_opening table lawful) none_rise).entries k within;
  end = λ table lawful events.
      let machine = after table events in
      let sound = sound_run table lawful events in
      let time = timed_machine table machine sound.replays in
      subst (λ (t : ℕ). t < end_time machine) (sym (time_whole machine.history (length machine.history) refl))
      (next_later (instant_after machine.history) machine.roster.now (omega (arith, time)) (few_places table lawful machine sound));
}
