-- The first schedule keeps the pace.
use Rattle.std.proofs.Common.{◌≡◌, ◌∙◌, ℕ, zero, suc, ◌+◌, ◌-◌, ◌<◌, ◌≤◌, Bool, true, false, List, [], ◌∷◌, ◌++◌, Option, None, Some, ◌⊎◌, inl, inr, refl, sym, ap, subst, arith, nat_lt, append_assoc, append-nil, le_refl, if◌then◌else◌, lt-ltb, ltb-true, true≢false, ltb-false, eq-eqb}
use Rattle.std.proofs.lemmas.Bool.{and_from, and_parts}
use Rattle.apex_types.specs.declared.entries.Event.TheVariants.{Turn, Tick}
use Rattle.apex_machine.specs.table.Table.{Table}
use Rattle.apex_machine.specs.processes.Dues.{is_instant}
use Rattle.apex_pace.specs.First.{Part, closing, part, round, rounds, takes_turn, turns_or_tick}
use Rattle.apex_pace.specs.Laws.{IsCutShort, IsServed}
use Rattle.apex_pace.specs.Pace.{KeepsPace, Paced, may_turn, next_tick, paced_run, paced_step}
use Rattle.apex_pace.specs.Terms.{Event, Pace}
use Rattle.apex_pace.proofs.Times.{tick_passes}

-- what holds of each branch holds of an if
pub on_if : {X : Type 0} (P : X → Type 0) (b : Bool) (x y : X) → (b ≡ true → P x) → (b ≡ false → P y) → P (if b then x else y)
on_if P true x y yes_ no_ = yes_ refl
on_if P false x y yes_ no_ = no_ refl

module _ (pace : Pace) (table : Table) where
  pub keeps_append : (s : Paced) (first rest : List Event) → KeepsPace pace table s first
      → KeepsPace pace table (paced_run table s first) rest → KeepsPace pace table s (first ++ rest)
  keeps_append s [] rest first later = later
  keeps_append s (event ∷ first) rest kept later =
      (kept.0, keeps_append (paced_step table s event) first rest kept.1 later)

  pub round_keeps : (s : Paced) (n : ℕ) → n ≤ table.cores → KeepsPace pace table s (round pace table s n)
  round_keeps s zero within = tt
  round_keeps s (suc n) within =
      let core = table.cores - suc n in
      let taken = round_keeps (paced_step table s (Turn core)) n (omega arith) in
      let left = round_keeps s n (omega arith) in
      on_if (KeepsPace pace table s) (takes_turn pace table s core) _ _
      (λ takes. (
        and_from (nat_lt core table.cores) (may_turn pace table s core) (lt-ltb core table.cores (omega arith))
            (and_parts (may_turn pace table s core) _ takes).0,
        taken,
      ))
      (λ waits. left)

  -- to go on with the rest after the first events is to go through all of them
  pub run_append : (s : Paced) (first rest : List Event)
      → paced_run table s (first ++ rest) ≡ paced_run table (paced_run table s first) rest
  run_append s [] rest = refl
  run_append s (event ∷ first) rest = run_append (paced_step table s event) first rest

  -- the next tick is allowed
  pub is_next : (s : Paced) (n : ℕ) → next_tick pace table s ≡ Some n → is_instant n (next_tick pace table s) ≡ true
  is_next s n e = rw (e, eq-eqb n n refl) refl

  module _ (until : ℕ) where
    -- the events keep the pace, but for their last tick, which is cut short
    abbrev Keeps : Paced → List Event → Type 0
    Keeps s events = KeepsPace pace table s events ⊎ IsCutShort pace table until s events

    -- a part keeps the pace, and cuts the last tick only if the schedule ends with it
    abbrev Fits : Paced → Part → Type 0
    Fits s p = (p.ends ≡ false → KeepsPace pace table s p.events) × (p.ends ≡ true → Keeps s p.events)

    -- a tick of the pace that is cut short here
    pub cut_here : (s : Paced) → s.situation.roster.now < until → (n : ℕ) → next_tick pace table s ≡ Some n
        → nat_lt (s.situation.roster.now + n) until ≡ false → IsCutShort pace table until s (Tick (until - s.situation.roster.now) ∷ [])
    cut_here s before n e later =
        let ticks = until - s.situation.roster.now in
        let stops : s.situation.roster.now + ticks ≡ until = omega (arith, before) in
        let sooner : ticks ≤ n = omega (arith, ltb-false (s.situation.roster.now + n) until later) in
        record {
          earlier = [];
          ticks = ticks;
          whole = n;
          cut = refl;
          some = omega (arith, before);
          sooner = sooner;
          stops = stops;
          time = λ served. tick_passes pace table s n ticks e sooner served ∙ stops;
          keeps = (is_next s n e, tt);
        }

    closing_fits : (s : Paced) → s.situation.roster.now < until → (n : Option ℕ) → next_tick pace table s ≡ n
        → Fits s (closing until s n)
    closing_fits s before None e = ((λ h. tt), λ h. inl tt)
    closing_fits s before (Some n) e =
        on_if (Fits s) (nat_lt (s.situation.roster.now + n) until) _ _
        (λ sooner. ((λ h. (is_next s n e, tt)), λ h. absurd (true≢false (sym h))))
        (λ later. ((λ h. absurd (true≢false h)), λ h. inr (cut_here s before n e later)))

    part_fits : (s : Paced) → s.situation.roster.now < until → (turns : List Event) → KeepsPace pace table s turns
        → Fits s (turns_or_tick pace table until s turns)
    part_fits s before [] kept = closing_fits s before (next_tick pace table s) refl
    part_fits s before (turn ∷ turns) kept = ((λ h. kept), λ h. absurd (true≢false (sym h)))

    pub then_cut : (s : Paced) (first rest : List Event) → KeepsPace pace table s first
        → IsCutShort pace table until (paced_run table s first) rest → IsCutShort pace table until s (first ++ rest)
    then_cut s first rest kept cut = record {
      earlier = first ++ cut.earlier;
      ticks = cut.ticks;
      whole = cut.whole;
      cut = ap (λ events. first ++ events) cut.cut ∙ sym (append_assoc first cut.earlier (Tick cut.ticks ∷ []));
      some = cut.some;
      sooner = cut.sooner;
      stops = ap (λ (after : Paced). after.situation.roster.now + cut.ticks) (run_append s first cut.earlier) ∙ cut.stops;
      time = λ served.
          ap (λ (after : Paced). after.situation.roster.now) (run_append s first rest)
          ∙ cut.time (subst IsServed (run_append s first cut.earlier) served);
      keeps = rw (append_assoc first cut.earlier (Tick cut.whole ∷ []))
          (keeps_append s first (cut.earlier ++ Tick cut.whole ∷ []) kept cut.keeps);
    }

    -- the rest of a schedule after a part of it that keeps the pace
    then_keeps : (s : Paced) (first rest : List Event) → KeepsPace pace table s first
        → Keeps (paced_run table s first) rest → Keeps s (first ++ rest)
    then_keeps s first rest kept (inl later) = inl (keeps_append s first rest kept later)
    then_keeps s first rest kept (inr cut) = inr (then_cut s first rest kept cut)

    pub rounds_keep : (n : ℕ) (s : Paced) → Keeps s (rounds pace table until n s)
    rounds_keep zero s = inl tt
    rounds_keep (suc n) s =
        let next = part pace table until s in
        let turns = round_keeps s table.cores (le_refl table.cores) in
        let later = rounds_keep n (paced_run table s next.events) in
        on_if (Keeps s) (nat_lt s.situation.roster.now until) _ _
        (λ on.
        let fits = part_fits s (ltb-true s.situation.roster.now until on) (round pace table s table.cores) turns in
        on_if (λ (rest : List Event). Keeps s (next.events ++ rest)) next.ends _ _
        (λ ends. rw (append-nil next.events) (fits.1 ends))
        (λ goes. then_keeps s next.events _ (fits.0 goes) later))
        (λ over. inl tt)
