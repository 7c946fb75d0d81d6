-- The first schedule goes on until no more is to come.
use Rattle.std.proofs.Common.{◌≡◌, ◌∙◌, ℕ, zero, suc, ◌+◌, ◌-◌, ◌<◌, ◌≤◌, Bool, true, false, List, [], ◌∷◌, ◌++◌, Option, None, Some, ◌⊎◌, inl, inr, refl, sym, ap, subst, arith, nat_lt, ◌&&◌, ◌||◌, not, is_some, length, length-append, le_refl, if◌then◌else◌, ltb-true, ltb-false, true≢false}
use Rattle.std.proofs.lemmas.Bool.{cases_Bool, cases_eq}
use Rattle.apex_types.specs.declared.entries.Event.TheVariants.{Turn, Tick}
use Rattle.apex_machine.specs.table.Table.{Table}
use Rattle.apex_pace.specs.First.{Part, closing, round, rounds, takes_turn, turns_or_tick}
use Rattle.apex_pace.specs.Laws.{IsCutShort, IsOver, IsPace}
use Rattle.apex_pace.specs.Pace.{IsAtRest, KeepsPace, Paced, is_settled, is_starting, may_turn, next_tick, paced_run, paced_step}
use Rattle.apex_pace.specs.Terms.{Event, Pace}
use Rattle.apex_pace.proofs.Cores.{all_from}
use Rattle.apex_pace.proofs.Eager.{eager_may, unsettled_core}
use Rattle.apex_pace.proofs.Ends.{ticks_or_rests}
use Rattle.apex_pace.proofs.First.{cut_here, is_next, on_if, round_keeps, run_append, then_cut}

-- a turn that is left out leaves none behind it
skipped : (takes : Bool) (turn : Event) (more rest : List Event) → (if takes then turn ∷ more else rest) ≡ []
    → (takes ≡ false) × (rest ≡ [])
skipped true turn more rest e = absurd (omega (arith, ap length e))
skipped false turn more rest e = (refl, e)

-- in COLD_START a core that takes no turn may take none
may_not : (starting may waits : Bool) → starting ≡ true → (may && (starting || waits)) ≡ false → not may ≡ true
may_not true true waits starts h = absurd (true≢false h)
may_not true false waits starts h = refl
may_not false may waits starts h = absurd (true≢false (sym starts))

module _ (pace : Pace) (most : IsPace pace) (table : Table) where
  no_turns : (s : Paced) (n : ℕ) → n ≤ table.cores → round pace table s n ≡ [] → (core : ℕ) → table.cores ≤ core + n
      → core < table.cores → takes_turn pace table s core ≡ false
  no_turns s zero within none core from below = absurd (omega (arith, from, below))
  no_turns s (suc n) within none core from below =
      let here = table.cores - suc n in
      let left = skipped (takes_turn pace table s here) (Turn here) _ (round pace table s n) none in
      elim (cases_eq core here) [
        | inl same ↦ subst (λ (c : ℕ). takes_turn pace table s c ≡ false) (sym same) left.0
        | inr other ↦ no_turns s n (omega arith) left.1 core (omega (arith, from, other)) below
      ]

  -- after COLD_START a core that takes no turn is settled
  settled : (s : Paced) → is_starting s ≡ false → (core : ℕ) → takes_turn pace table s core ≡ false
      → is_settled pace s core ≡ true
  settled s started core waits = elim (cases_Bool (is_settled pace s core)) [
    | inl is ↦ is
    | inr not_ ↦
        let parts = unsettled_core pace s core not_ in
        let takes : takes_turn pace table s core ≡ true =
        rw (eager_may pace most table s core started not_, started, parts.1, parts.2) refl in
        absurd (true≢false (sym takes ∙ waits))
  ]

  rests : (s : Paced) → round pace table s table.cores ≡ [] → next_tick pace table s ≡ None → IsAtRest pace table s
  rests s none no_tick =
      let waits : (core : ℕ) → core < table.cores → takes_turn pace table s core ≡ false =
      λ core below. no_turns s table.cores (le_refl table.cores) none core (omega arith) below in
      elim (cases_Bool (is_starting s)) [
        | inl starting ↦ record {
          turns = all_from (λ core. not (may_turn pace table s core)) table.cores (λ core below. may_not (is_starting s) (may_turn pace table s core) _ starting (waits core below));
          ticks = no_tick;
        }
        | inr started ↦
            elim (ticks_or_rests pace table s started (all_from (is_settled pace s) table.cores (λ core below. settled s started core (waits core below)))) [
              | inl ticks ↦ absurd (true≢false (sym ticks ∙ ap is_some no_tick))
              | inr rest ↦ rest
            ]
      ]

  module _ (until : ℕ) where
    abbrev GoesOn : ℕ → Paced → List Event → Type 0
    GoesOn room s events = IsOver pace table until room s events ⊎ IsCutShort pace table until s events

    -- events that keep the pace, and then a schedule that goes on
    then_goes_on : (room : ℕ) (s : Paced) (first rest : List Event) → 1 ≤ length first → KeepsPace pace table s first
        → GoesOn room (paced_run table s first) rest → GoesOn (suc room) s (first ++ rest)
    then_goes_on room s first rest some kept (inl (inl late)) = inl (inl (rw (run_append pace table s first rest) late))
    then_goes_on room s first rest some kept (inl (inr (inl rest_))) = inl (inr (inl (rw (run_append pace table s first rest) rest_)))
    then_goes_on room s first rest some kept (inl (inr (inr full))) = inl (inr (inr (omega (arith, some, full, length-append first rest))))
    then_goes_on room s first rest some kept (inr cut) = inr (then_cut pace table until s first rest kept cut)

    -- a part of the schedule, and then its rest
    abbrev with_rest : ℕ → Paced → Part → List Event
    with_rest n s part =
        part.events ++ (if part.ends then [] else rounds pace table until n (paced_run table s part.events))

    module _ (n : ℕ) (later : (s : Paced) → GoesOn n s (rounds pace table until n s)) (s : Paced) (before : s.situation.roster.now < until) where
      from_tick : round pace table s table.cores ≡ [] → (tick : Option ℕ) → next_tick pace table s ≡ tick
          → GoesOn (suc n) s (with_rest n s (closing until s tick))
      from_tick none None e = inl (inr (inl (rests s none e)))
      from_tick none (Some t) e = on_if (λ (part : Part). GoesOn (suc n) s (with_rest n s part)) (nat_lt (s.situation.roster.now + t) until) _ _
          (λ sooner. then_goes_on n s (Tick t ∷ []) _ (omega arith) (is_next pace table s t e, tt) (later (paced_step table s (Tick t))))
          (λ cut. inr (cut_here pace table until s before t e cut))

      from_turns : (turns : List Event) → round pace table s table.cores ≡ turns → KeepsPace pace table s turns
          → GoesOn (suc n) s (with_rest n s (turns_or_tick pace table until s turns))
      from_turns [] none kept = from_tick none (next_tick pace table s) refl
      from_turns (turn ∷ turns) are kept = then_goes_on n s (turn ∷ turns) _ (omega arith) kept (later (paced_run table s (turn ∷ turns)))

    pub rounds_go_on : (n : ℕ) (s : Paced) → GoesOn n s (rounds pace table until n s)
    rounds_go_on zero s = inl (inr (inr (omega arith)))
    rounds_go_on (suc n) s = on_if (GoesOn (suc n) s) (nat_lt s.situation.roster.now until) _ _
        (λ on. from_turns n (rounds_go_on n) s (ltb-true s.situation.roster.now until on) (round pace table s table.cores) refl
        (round_keeps pace table s table.cores (le_refl table.cores)))
        (λ over. inl (inl (ltb-false s.situation.roster.now until over)))
