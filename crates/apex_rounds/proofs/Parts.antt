-- The first schedule, event by event and part by part.
use Rattle.std.proofs.Common.{◌≡◌, ◌∙◌, ℕ, zero, suc, ◌+◌, ◌-◌, ◌≤◌, ◌<◌, Bool, true, false, not, List, [], ◌∷◌, ◌++◌, length, append-nil, append_assoc, Option, None, Some, Result, Ok, Err, inl, inr, refl, sym, ap, subst, arith, nat_lt, lt-ltb, le-ltb}
use Rattle.std.proofs.lemmas.Bool.{both_ways, cases_Bool, cases_lt}
use Rattle.apex_types.specs.declared.entries.Event.TheVariants.{Turn}
use Rattle.apex_types.specs.declared.entries.Full.{Full}
use Rattle.apex_laws.specs.Terms.{Event}
use Rattle.apex_laws.proofs.Runs.{accept-room, length-happen, run-append, run-full}
use Rattle.apex_machine.specs.Machine.{Machine, happen, opening, run}
use Rattle.apex_machine.specs.table.Table.{Table}
use Rattle.apex_dispatch.specs.Kernel.{kernel_in}
use Rattle.apex_pace.specs.First.{Part, closing, first_schedule, part, round, rounds, takes_turn, turns_or_tick}
use Rattle.apex_pace.specs.Pace.{Paced, next_tick, paced_opening, paced_run, paced_step}
use Rattle.apex_pace.specs.declared.paces.Pace.{Pace}
use Rattle.apex_rounds.specs.Rounds.{IsAtOpening, Makes, RoundsState, is_any, paced_in, schedule_from}
use Rattle.apex_rounds.proofs.Makes.{makes_longer, makes_machine, makes_none, makes_ok, makes_stops, makes_table, makes_then}

module _ (pace : Pace) (table : Table) where
  -- the next core takes its turn, or none
  round_takes : (s : Paced) (core : ℕ) → core < table.cores → takes_turn pace table s core ≡ true
      → round pace table s (table.cores - core)
      ≡ Turn core ∷ round pace table (paced_step table s (Turn core)) (table.cores - (core + 1))
  round_takes s core below takes =
      let more : table.cores - core ≡ suc (table.cores - (core + 1)) = omega (arith, below) in
      let here : table.cores - suc (table.cores - (core + 1)) ≡ core = omega (arith, below) in
      rw (more, here, takes) refl

  round_waits : (s : Paced) (core : ℕ) → core < table.cores → takes_turn pace table s core ≡ false
      → round pace table s (table.cores - core) ≡ round pace table s (table.cores - (core + 1))
  round_waits s core below waits =
      let more : table.cores - core ≡ suc (table.cores - (core + 1)) = omega (arith, below) in
      let here : table.cores - suc (table.cores - (core + 1)) ≡ core = omega (arith, below) in
      rw (more, here, waits) refl

  round_over : (s : Paced) (core : ℕ) → table.cores ≤ core → round pace table s (table.cores - core) ≡ []
  round_over s core over = let none : table.cores - core ≡ 0 = omega (arith, over) in rw none refl

  module _ (until : ℕ) where
    -- a round with turns, and one without
    pub part_turns : (s : Paced) (turns : List Event) → is_any turns ≡ true
        → turns_or_tick pace table until s turns ≡ record { events = turns; ends = false }
    part_turns s [] any = absurd (both_ways false refl any)
    part_turns s (turn ∷ turns) any = refl

    pub part_closes : (s : Paced) (turns : List Event) → is_any turns ≡ false
        → (turns_or_tick pace table until s turns ≡ closing until s (next_tick pace table s)) × (turns ≡ [])
    part_closes s [] none = (refl, refl)
    part_closes s (turn ∷ turns) any = absurd (both_ways true any refl)

    -- a part with which the schedule does not end has an event
    closing_goes : (s : Paced) (n : Option ℕ) → (closing until s n).ends ≡ false → 1 ≤ length (closing until s n).events
    closing_goes s None goes = absurd (both_ways true goes refl)
    closing_goes s (Some n) goes = elim (cases_Bool (nat_lt (s.situation.roster.now + n) until)) [
      | inl sooner ↦ rw sooner (omega arith)
      | inr later ↦ rw later (omega arith)
    ]

    part_goes : (s : Paced) (turns : List Event) → (turns_or_tick pace table until s turns).ends ≡ false
        → 1 ≤ length (turns_or_tick pace table until s turns).events
    part_goes s [] goes = closing_goes s (next_tick pace table s) goes
    part_goes s (turn ∷ turns) goes = omega arith

    -- the rounds that are left, part by part
    rounds_more : (n : ℕ) (s : Paced) → s.situation.roster.now < until → (part pace table until s).ends ≡ false
        → rounds pace table until (suc n) s
        ≡ (part pace table until s).events ++ rounds pace table until n (paced_run table s (part pace table until s).events)
    rounds_more n s on goes = rw (lt-ltb s.situation.roster.now until on, goes) refl

    rounds_last : (n : ℕ) (s : Paced) → s.situation.roster.now < until → (part pace table until s).ends ≡ true
        → rounds pace table until (suc n) s ≡ (part pace table until s).events
    rounds_last n s on ends = rw (lt-ltb s.situation.roster.now until on, ends) (append-nil (part pace table until s).events)

    rounds_over : (n : ℕ) (s : Paced) → until ≤ s.situation.roster.now → rounds pace table until n s ≡ []
    rounds_over zero s over = refl
    rounds_over (suc n) s over = rw (le-ltb s.situation.roster.now until over) refl

    -- events add to a history as many entries, up to its limit
    run_grows : (n : ℕ) (machine : Machine) (events : List Event)
        → table.limit ≤ length machine.history + (length events + n)
        → table.limit ≤ length (run table machine events).history + n
    run_grows n machine [] many = omega (arith, many)
    run_grows n machine (event ∷ events) many = elim (cases_lt (length machine.history) table.limit) [
      | inl room ↦
          let rest = run_grows n (happen table machine event) events (omega (arith, many, length-happen table machine event)) in
          subst (λ (m : Machine). table.limit ≤ length (run table m events).history + n) (sym (accept-room table machine event room)) rest
      | inr full ↦
          subst (λ (m : Machine). table.limit ≤ length m.history + n) (sym (run-full table machine (event ∷ events) full)) (omega (arith, full))
    ]

    -- as many rounds as the history has room for entries are as good as any more
    pub enough : (n k : ℕ) (s : Paced) (machine : Machine)
        → table.limit ≤ length machine.history + n → table.limit ≤ length machine.history + k
        → run table machine (rounds pace table until n s) ≡ run table machine (rounds pace table until k s)
    enough zero k s machine full other = sym (run-full table machine (rounds pace table until k s) (omega (arith, full)))
    enough (suc n) zero s machine other full = run-full table machine (rounds pace table until (suc n) s) (omega (arith, full))
    enough (suc n) (suc k) s machine one other = elim (cases_lt s.situation.roster.now until) [
      | inr over ↦ rw (rounds_over (suc n) s over, rounds_over (suc k) s over) refl
      | inl on ↦ elim (cases_Bool (part pace table until s).ends) [
        | inl ends ↦ rw (rounds_last n s on ends, rounds_last k s on ends) refl
        | inr goes ↦
            let next = part pace table until s in
            let later = paced_run table s next.events in
            let some : 1 ≤ length next.events = part_goes s (round pace table s table.cores) goes in
            let here = enough n k later (run table machine next.events)
            (run_grows n machine next.events (omega (arith, one, some))) (run_grows k machine next.events (omega (arith, other, some))) in
            rw (rounds_more n s on goes, rounds_more k s on goes, run-append table machine next.events (rounds pace table until n later), run-append table machine next.events (rounds pace table until k later)) here
      ]
    ]

-- the answer of a part says whether the schedule goes on
pub ends_if : (goes ends : Bool) → goes ≡ not ends → goes ≡ false → ends ≡ true
ends_if goes true is none = refl
ends_if goes false is none = absurd (both_ways goes none is)

pub goes_if : (goes ends : Bool) → goes ≡ not ends → goes ≡ true → ends ≡ false
goes_if goes false is on = refl
goes_if goes true is on = absurd (both_ways goes is on)

any_last : (done : List Event) (event : Event) → true ≡ is_any (done ++ event ∷ [])
any_last [] event = refl
any_last (first ∷ done) event = refl

module _ {S : Type 0} where
  -- a round that has come to this core
  pub record IsInRound (old now : RoundsState S) (core : ℕ) (found : Bool) : Type 0 where
    pub done : List Event
    pub makes : Makes (Ok (tt {0})) old now done
    pub rest : round old.pace old.kernel.table (paced_in old) old.kernel.table.cores
        ≡ done ++ round old.pace old.kernel.table (paced_in now) (old.kernel.table.cores - core)
    pub any : found ≡ is_any done

  pub round_begins : (old : RoundsState S) → old.kernel ≡ kernel_in old.kernel.table old.kernel.machine old.kernel.store
      → length old.kernel.machine.history ≤ old.kernel.table.limit → IsInRound old old 0 false
  round_begins old values within = record {
    done = [];
    makes = makes_none (tt {0}) old values within;
    rest = let all : old.kernel.table.cores - 0 ≡ old.kernel.table.cores = omega arith in rw all refl;
    any = refl;
  }

  module _ (old now : RoundsState S) (core : ℕ) (any : Bool) (below : core < old.kernel.table.cores) (is : IsInRound old now core any) where
    abbrev table : Table
    table = old.kernel.table

    takes_here : takes_turn now.pace now.kernel.table (paced_in now) core ≡ takes_turn old.pace table (paced_in now) core
    takes_here = rw (is.makes.pace, makes_table is.makes) refl

    with_turn : takes_turn now.pace now.kernel.table (paced_in now) core ≡ true
        → round old.pace table (paced_in old) table.cores
        ≡ (is.done ++ Turn core ∷ []) ++ round old.pace table (paced_step table (paced_in now) (Turn core)) (table.cores - (core + 1))
    with_turn takes =
        let here = round_takes old.pace table (paced_in now) core below (sym takes_here ∙ takes) in
        is.rest ∙ ap (λ events. is.done ++ events) here ∙ sym (append_assoc is.done (Turn core ∷ []) _)

    pub round_turns : {x : Unit {0}} (new : RoundsState S) → takes_turn now.pace now.kernel.table (paced_in now) core ≡ true
        → Makes (Ok x) now new (Turn core ∷ []) → IsInRound old new (core + 1) true
    round_turns {x} new takes made =
        let same = makes_table is.makes in
        let paced : paced_in new ≡ paced_step table (paced_in now) (Turn core) =
        made.paced ∙ ap (λ (t : Table). paced_step t (paced_in now) (Turn core)) same in
        record {
          done = is.done ++ Turn core ∷ [];
          makes = makes_ok (tt {0}) (makes_then old now new is.done (Turn core ∷ []) is.makes made);
          rest = rw paced (with_turn takes);
          any = any_last is.done (Turn core);
        }

    pub round_skips : takes_turn now.pace now.kernel.table (paced_in now) core ≡ false → IsInRound old now (core + 1) any
    round_skips waits = record {
      done = is.done;
      makes = is.makes;
      rest = is.rest ∙ ap (λ events. is.done ++ events) (round_waits old.pace table (paced_in now) core below (sym takes_here ∙ waits));
      any = is.any;
    }

    pub round_stops : {X Y : Type 0} {e : Full} (f : Full) (new : RoundsState S)
        → takes_turn now.pace now.kernel.table (paced_in now) core ≡ true
        → Makes {X = X} (Err e) now new (Turn core ∷ [])
        → Makes {X = Y} (Err f) old new (round old.pace table (paced_in old) table.cores)
    round_stops f new takes made =
        rw (with_turn takes) (makes_stops f old new (is.done ++ Turn core ∷ []) _ (makes_then old now new is.done (Turn core ∷ []) is.makes made))

  module _ (old now : RoundsState S) (core : ℕ) (any : Bool) (over : old.kernel.table.cores ≤ core) (is : IsInRound old now core any) where
    all_done : round old.pace old.kernel.table (paced_in old) old.kernel.table.cores ≡ is.done
    all_done = is.rest ∙ ap (λ events. is.done ++ events) (round_over old.pace old.kernel.table (paced_in now) core over) ∙ append-nil is.done

    pub round_made : Makes (Ok any) old now (round old.pace old.kernel.table (paced_in old) old.kernel.table.cores)
    round_made = rw all_done (makes_ok any is.makes)

    pub round_any : any ≡ is_any (round old.pace old.kernel.table (paced_in old) old.kernel.table.cores)
    round_any = rw all_done is.any

  -- a schedule of which these events are made
  pub record IsUnderway (old now : RoundsState S) (until : ℕ) : Type 0 where
    pub done : List Event
    pub left : ℕ
    pub makes : Makes (Ok (tt {0})) old now done
    pub rest : schedule_from old until ≡ done ++ rounds old.pace old.kernel.table until left (paced_in now)
    pub enough : old.kernel.table.limit < length now.kernel.machine.history + left

  pub schedule_begins : (old : RoundsState S) (until : ℕ) → old.kernel ≡ kernel_in old.kernel.table old.kernel.machine old.kernel.store
      → length old.kernel.machine.history ≤ old.kernel.table.limit → IsUnderway old old until
  schedule_begins old until values within = record {
    done = [];
    left = old.kernel.table.limit + 1;
    makes = makes_none (tt {0}) old values within;
    rest = refl;
    enough = omega arith;
  }

  module _ (old now : RoundsState S) (until : ℕ) (is : IsUnderway old now until) where
    -- until its time has come
    pub schedule_over : until ≤ now.kernel.machine.roster.now → Makes (Ok (tt {0})) old now (schedule_from old until)
    schedule_over over =
        let none = rounds_over old.pace old.kernel.table until is.left (paced_in now) over in
        rw (is.rest, none, append-nil is.done) is.makes

    pub schedule_within : length now.kernel.machine.history ≤ old.kernel.table.limit
    schedule_within = omega (arith, is.makes.accepted.0 refl, makes_longer is.makes)

    left_one : is.left ≡ suc (is.left - 1)
    left_one = omega (arith, is.enough, schedule_within)

    abbrev next : Part
    next = part now.pace now.kernel.table until (paced_in now)

    same_next : part old.pace old.kernel.table until (paced_in now) ≡ next
    same_next = rw (is.makes.pace, makes_table is.makes) refl

    module _ (on : now.kernel.machine.roster.now < until) where
      pub schedule_goes : {x : Bool} (new : RoundsState S) → Makes (Ok x) now new next.events → next.ends ≡ false
          → IsUnderway old new until × (length now.kernel.machine.history + 1 ≤ length new.kernel.machine.history)
      schedule_goes {x} new made goes =
          let goes_here : (part old.pace old.kernel.table until (paced_in now)).ends ≡ false = ap (λ (p : Part). p.ends) same_next ∙ goes in
          let some : 1 ≤ length next.events = part_goes now.pace now.kernel.table until (paced_in now) (round now.pace now.kernel.table (paced_in now) now.kernel.table.cores) goes in
          let longer = makes_longer made in
          let paced : paced_in new ≡ paced_run old.kernel.table (paced_in now) next.events =
          made.paced ∙ ap (λ (t : Table). paced_run t (paced_in now) next.events) (makes_table is.makes) in
          let more : rounds old.pace old.kernel.table until is.left (paced_in now) ≡ next.events ++ rounds old.pace old.kernel.table until (is.left - 1) (paced_in new) =
          ap (λ n. rounds old.pace old.kernel.table until n (paced_in now)) left_one
          ∙ rounds_more old.pace old.kernel.table until (is.left - 1) (paced_in now) on goes_here
          ∙ ap (λ (p : Part). p.events ++ rounds old.pace old.kernel.table until (is.left - 1) (paced_run old.kernel.table (paced_in now) p.events)) same_next
          ∙ ap (λ (s : Paced). next.events ++ rounds old.pace old.kernel.table until (is.left - 1) s) (sym paced) in (
            record {
              done = is.done ++ next.events;
              left = is.left - 1;
              makes = makes_ok (tt {0}) (makes_then old now new is.done next.events is.makes made);
              rest = is.rest ∙ ap (λ events. is.done ++ events) more ∙ sym (append_assoc is.done next.events _);
              enough = omega (arith, is.enough, left_one, some, longer);
            },
            omega (arith, some, longer),
          )

      pub schedule_ends : {x : Bool} (new : RoundsState S) → Makes (Ok x) now new next.events → next.ends ≡ true
          → Makes (Ok (tt {0})) old new (schedule_from old until)
      schedule_ends new made ends =
          let ends_here : (part old.pace old.kernel.table until (paced_in now)).ends ≡ true = ap (λ (p : Part). p.ends) same_next ∙ ends in
          let last : schedule_from old until ≡ is.done ++ next.events =
          is.rest ∙ ap (λ events. is.done ++ events) (ap (λ n. rounds old.pace old.kernel.table until n (paced_in now)) left_one
          ∙ rounds_last old.pace old.kernel.table until (is.left - 1) (paced_in now) on ends_here ∙ ap (λ (p : Part). p.events) same_next) in
          rw last (makes_ok (tt {0}) (makes_then old now new is.done next.events is.makes made))

      -- or until the history is full
      part_then : (b : Bool) → (part old.pace old.kernel.table until (paced_in now)).ends ≡ b
          → (rest : List Event) × (rounds old.pace old.kernel.table until is.left (paced_in now) ≡ next.events ++ rest)
      part_then true ends = (
        [],
        ap (λ n. rounds old.pace old.kernel.table until n (paced_in now)) left_one
            ∙ rounds_last old.pace old.kernel.table until (is.left - 1) (paced_in now) on ends
            ∙ ap (λ (p : Part). p.events) same_next ∙ sym (append-nil next.events),
      )
      part_then false goes = (
        rounds old.pace old.kernel.table until (is.left - 1) (paced_run old.kernel.table (paced_in now) (part old.pace old.kernel.table until (paced_in now)).events),
        ap (λ n. rounds old.pace old.kernel.table until n (paced_in now)) left_one
            ∙ rounds_more old.pace old.kernel.table until (is.left - 1) (paced_in now) on goes
            ∙ ap (λ (p : Part). p.events ++ rounds old.pace old.kernel.table until (is.left - 1) (paced_run old.kernel.table (paced_in now) (part old.pace old.kernel.table until (paced_in now)).events)) same_next,
      )

      pub schedule_stops : {X : Type 0} {e : Full} (f : Full) (new : RoundsState S) → Makes {X = X} (Err e) now new next.events
          → Makes {X = Unit {0}} (Err f) old new (schedule_from old until)
      schedule_stops f new made =
          let (rest, is_then) = part_then (part old.pace old.kernel.table until (paced_in now)).ends refl in
          let all : schedule_from old until ≡ (is.done ++ next.events) ++ rest =
          is.rest ∙ ap (λ events. is.done ++ events) is_then ∙ sym (append_assoc is.done next.events rest) in
          rw all (makes_stops f old new (is.done ++ next.events) rest (makes_then old now new is.done next.events is.makes made))

  -- what is made of the schedule from the opening on is made of the first schedule
  pub schedule_first : {result : Result (Unit {0}) Full} (old new : RoundsState S) (until : ℕ) → Makes result old new (schedule_from old until)
      → IsAtOpening old → new.kernel.machine ≡ run old.kernel.table (opening old.kernel.table) (first_schedule old.pace old.kernel.table until)
  schedule_first old new until made at =
      let table = old.kernel.table in
      makes_machine made
      ∙ ap (λ (m : Machine). run table m (schedule_from old until)) at.machine
      ∙ ap (λ (s : Paced). run table (opening table) (rounds old.pace table until (table.limit + 1) s)) at.paced
      ∙ enough old.pace table until (table.limit + 1) table.limit (paced_opening table) (opening table) (omega arith) (omega arith)
