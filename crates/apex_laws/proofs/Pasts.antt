-- The past states of a run are those of the runs over its prefixes.
use Rattle.std.proofs.Common.{◌≡◌, ℕ, ◌+◌, ◌<◌, List, [], ◌∷◌, ◌++◌, length, get_or, nat_lt, take, refl, sym, ◌∙◌, ap, subst, inl, inr, arith, length-append}
use Rattle.std.proofs.Math.Seq.{get_or-append_seam}
use Rattle.std.proofs.lemmas.Bool.{cases_lt, cond_both, ltb-true}
use Rattle.std.proofs.lemmas.List.{get_or_append_left, length-map, take-append-le, take_all}
use Rattle.apex_laws.specs.Terms.{Event}
use Rattle.apex_machine.specs.Machine.{Machine, accept, event_of, events_of, happen, opening, replay, run}
use Rattle.apex_machine.specs.processes.Roster.{Roster}
use Rattle.apex_machine.specs.table.Table.{Table, IsLawful}
use Rattle.apex_laws.proofs.Sound.{IsSound, happened, happens, sound_accept, sound_happen, sound_opening, told}

-- the roster after the first n events of a history
abbrev pub after_first : Table → ℕ → List Event → Roster
after_first table n events = (run table (opening table) (take n events)).roster

abbrev pub PastIsTheRuns : Table → Machine → Type 0
PastIsTheRuns table machine = (i : ℕ) (d : Roster) → i < length machine.past
    → get_or machine.past i d ≡ after_first table (i + 1) (events_of machine.history)

module _ (table : Table) (lawful : IsLawful table) where
  module _ (machine : Machine) (sound : IsSound table machine) (before : PastIsTheRuns table machine) (event : Event) (room : length machine.history < table.limit) where
    abbrev after : Machine
    after = happened table machine event

    events_after : events_of after.history ≡ events_of machine.history ++ event ∷ []
    events_after = ap (λ (m : Machine). events_of m.history) (sym (happens table machine event)) ∙ told table machine event

    many : length (events_of machine.history) ≡ length machine.past
    many = length-map machine.history event_of ∙ sym sound.past

    replays_after : replay table after.history ≡ after
    replays_after = subst (λ (m : Machine). replay table m.history ≡ m) (happens table machine event)
        (sound_happen table lawful machine sound event room).replays

    earlier : (i : ℕ) (d : Roster) → i < length machine.past → get_or after.past i d ≡ after_first table (i + 1) (events_of after.history)
    earlier i d old =
        get_or_append_left machine.past (after.roster ∷ []) d i old
        ∙ before i d old
        ∙ ap (λ es. (run table (opening table) es).roster)
        (sym (ap (take (i + 1)) events_after ∙ take-append-le (i + 1) (events_of machine.history) (event ∷ []) (omega (arith, many, old))))

    latest : (d : Roster) → get_or after.past (length machine.past) d ≡ after_first table (length machine.past + 1) (events_of after.history)
    latest d =
        let all : take (length machine.past + 1) (events_of after.history) ≡ events_of after.history =
        take_all (length machine.past + 1) (events_of after.history) (rw (events_after, length-append) (omega (arith, many))) in
        get_or-append_seam machine.past after.roster [] d
        ∙ ap (λ (m : Machine). m.roster) (sym replays_after)
        ∙ ap (λ es. (run table (opening table) es).roster) (sym all)

    past_happen : PastIsTheRuns table (happen table machine event)
    past_happen =
        subst (PastIsTheRuns table) (sym (happens table machine event)) (λ i d within. elim (cases_lt i (length machine.past)) [
          | inl old ↦ earlier i d old
          | inr new ↦
              let longer : length after.past ≡ length machine.past + 1 = rw length-append refl in
              let same : length machine.past ≡ i = omega (arith, new, within, longer) in
              subst (λ (k : ℕ). get_or after.past k d ≡ after_first table (k + 1) (events_of after.history)) same (latest d)
        ])

  past_run : (events : List Event) (machine : Machine) → IsSound table machine → PastIsTheRuns table machine → PastIsTheRuns table (run table machine events)
  past_run [] machine sound before = before
  past_run (event ∷ events) machine sound before =
      past_run events (accept table machine event) (sound_accept table lawful machine sound event)
      (cond_both {A = Machine} (nat_lt (length machine.history) table.limit) (happen table machine event) machine (PastIsTheRuns table)
      (λ room. past_happen machine sound before event (ltb-true _ _ room)) (λ _. before))

  pub past_is_the_runs : (events : List Event) → PastIsTheRuns table (run table (opening table) events)
  past_is_the_runs events = past_run events (opening table) (sound_opening table lawful) (λ i d within. absurd (omega (arith, within)))
