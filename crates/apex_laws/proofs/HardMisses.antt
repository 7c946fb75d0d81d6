-- A process whose deadline is HARD, and passes at a tick, is dormant after that tick.
use Rattle.std.proofs.Common.{◌≡◌, ◌≢◌, ℕ, zero, suc, ◌<◌, ◌≤◌, ◌⊎◌, false, List, [], ◌∷◌, Option, None, Some, length, refl, sym, ◌∙◌, ap, inl, inr, subst, arith}
use Rattle.std.proofs.lemmas.Bool.{cases_eq}
use Rattle.std.proofs.lemmas.List.Sums.{count_by-le-length}
use Rattle.apex_laws.specs.Laws.{HardMissesStop}
use Rattle.apex_laws.specs.Terms.{DeadlineType, Holding, Record}
use Rattle.apex_types.specs.declared.modes.DeadlineType.TheVariants.{Soft, Hard}
use Rattle.apex_types.specs.declared.entries.Event.TheVariants.{Tick}
use Rattle.apex_machine.specs.declared.records.Queue.TheVariants as queues
use Rattle.apex_machine.specs.processes.Dues.{first_missed, is_missed_at}
use Rattle.apex_machine.specs.services.Handovers.{hand_on, hand_over, hand_to}
use Rattle.apex_machine.specs.processes.Held.{in_order}
use Rattle.apex_machine.specs.services.InTurn.{Changed, in_turn, next_and}
use Rattle.apex_machine.specs.Machine.{opening, run, tick}
use Rattle.apex_machine.specs.processes.Roster.{Roster, record_at}
use Rattle.apex_machine.specs.processes.Stamps.{HasOrderlyStarts, advance_to, awake, set_deadline, stop, stopped}
use Rattle.apex_machine.specs.table.Table.{Table, IsLawful}
use Rattle.apex_machine.specs.Ticks.{miss, pass_time, serve_deadlines, serve_instant, serve_missed, tick_goal}
use Rattle.apex_machine.specs.processes.Waiters.{first_waiter}
use Rattle.apex_machine.proofs.Dues.{first_missed_none, first_missed_within, goal_before_deadlines}
use Rattle.apex_machine.proofs.Handovers.{periods_hand_over}
use Rattle.apex_machine.proofs.Replaces.{each_stays, replaces_readied}
use Rattle.apex_machine.proofs.Rosters.{at_record, changes_record}
use Rattle.apex_machine.proofs.Starts.{first_within}
use Rattle.apex_laws.proofs.Counts.{count}
use Rattle.apex_laws.proofs.DuesServed.{IsServable, reach_serve_dues}
use Rattle.apex_laws.proofs.MissesServed.{missed_tells, reach_serve_deadlines, reach_serve_missed}
use Rattle.apex_laws.proofs.Sound.{goes, sound_run}

-- a mutex that changes hands leaves all deadlines
deadline_handed : (roster : Roster) (holding : Holding) (found : Option ℕ) → first_waiter roster (queues.Mutex holding.mutex) ≡ found
    → (p : ℕ) → (record_at (hand_to roster holding found).roster p).deadline ≡ (record_at roster p).deadline
deadline_handed roster holding None is p = refl
deadline_handed roster holding (Some q) is p =
    let r : Record = awake (record (record_at roster q) { owned = record holding { depth = 1 } ∷ [] }) in
    let known = first_within roster (queues.Mutex holding.mutex) q is in
    each_stays (replaces_readied roster q known r refl) (λ s t. t.deadline ≡ s.deadline) (λ _. refl) refl p

deadline_handed_on : (held : List Holding) (roster : Roster) (p : ℕ)
    → (record_at (hand_on held roster).roster p).deadline ≡ (record_at roster p).deadline
deadline_handed_on [] roster p = refl
deadline_handed_on (holding ∷ held) roster p =
    deadline_handed_on held (hand_over roster holding).roster p
    ∙ deadline_handed roster holding (first_waiter roster (queues.Mutex holding.mutex)) refl p

-- nor does it start a process
dormant_handed_on : (held : List Holding) (roster : Roster) (p : ℕ) → (record_at roster p).started ≡ false
    → (record_at (hand_on held roster).roster p).started ≡ false
dormant_handed_on [] roster p e = e
dormant_handed_on (holding ∷ held) roster p e =
    dormant_handed_on held (hand_over roster holding).roster p ((periods_hand_over roster holding p).dormant e)

-- a miss of process q
module _ (roster : Roster) (q : ℕ) (known : q < length roster.records) where
  -- leaves the deadlines of all others
  deadline_missed : (kind : DeadlineType) (p : ℕ) → p ≢ q → (record_at (miss roster q kind).roster p).deadline ≡ (record_at roster p).deadline
  deadline_missed Soft p apart = refl
  deadline_missed Hard p apart =
      deadline_handed_on (in_order (record_at roster q).owned) (stop roster q) p
      ∙ ap (λ (x : Record). x.deadline) ((changes_record roster q (stopped (record_at roster q))).others p apart)

  -- and stops it if its deadline is HARD
  dormant_missed : (kind : DeadlineType) → kind ≡ Hard → (record_at (miss roster q kind).roster q).started ≡ false
  dormant_missed Soft is = cc
  dormant_missed Hard is =
      dormant_handed_on (in_order (record_at roster q).owned) (stop roster q) q
      (ap (λ (x : Record). x.started) (at_record roster q known (stopped (record_at roster q))))

-- the deadline of process p is now, and it is HARD
record IsMissing (p now : ℕ) (roster : Roster) : Type 0 where
  deadline : (record_at roster p).deadline ≡ Some now
  hard : (record_at roster p).attributes.deadline ≡ Hard

-- it is so, or the process is dormant
abbrev IsOver : ℕ → ℕ → Roster → Type 0
IsOver p now roster = IsMissing p now roster ⊎ ((record_at roster p).started ≡ false)

-- one miss more, of process q
over_missed : (p : ℕ) (roster : Roster) (q : ℕ) → HasOrderlyStarts roster → first_missed roster ≡ Some q
    → IsOver p roster.now roster → IsOver p roster.now (serve_missed roster q).roster
over_missed p roster q starts is over =
    let reaches = reach_serve_missed roster q starts is in
    let within = first_missed_within roster q is in
    let cleared = set_deadline roster q None in
    let r : Record = record (record_at roster q) { deadline = None } in
    let kind = (record_at roster q).attributes.deadline in
    let many : q < length cleared.records = rw (changes_record roster q r).count within in
    elim over [
      | inl missing ↦ elim (cases_eq p q) [
        | inl same ↦
            let hard : kind ≡ Hard = rw same at missing.hard in
            inr (rw same (dormant_missed cleared q many kind hard))
        | inr apart ↦
            let left = ap (λ (x : Record). x.deadline) ((changes_record roster q r).others p apart) in
            inl (record {
              deadline = deadline_missed cleared q many kind p apart ∙ left ∙ missing.deadline;
              hard = ap (λ attributes. attributes.deadline) (reaches.periods p).attributes ∙ missing.hard;
            })
      ]
      | inr dormant ↦ inr ((reaches.periods p).dormant dormant)
    ]

-- if no process misses a deadline now, process p is dormant
over_none : (p : ℕ) (roster : Roster) → first_missed roster ≡ None → IsOver p roster.now roster → (record_at roster p).started ≡ false
over_none p roster none over = elim over [
  | inl missing ↦ absurd (first_missed_none roster none p missing.deadline)
  | inr dormant ↦ dormant
]

-- the number of processes that miss a deadline now
abbrev missing : Roster → ℕ
missing roster = count (is_missed_at roster.now) roster

module _ (p : ℕ) where
  abbrev Stops : (Roster → Changed) → ℕ → Type 0
  Stops others left = (roster : Roster) → HasOrderlyStarts roster → missing roster ≤ left → IsOver p roster.now roster
      → (record_at (others roster).roster p).started ≡ false

  stops_and : (others : Roster → Changed) (left : ℕ) → Stops others left
      → (roster : Roster) → HasOrderlyStarts roster → missing roster ≤ suc left → IsOver p roster.now roster
      → (found : Option ℕ) → first_missed roster ≡ found → (record_at (next_and others serve_missed roster found).roster p).started ≡ false
  stops_and others left rest roster starts few over None is = over_none p roster is over
  stops_and others left rest roster starts few over (Some q) is =
      let moves = (reach_serve_missed roster q starts is).moves in
      let after = (serve_missed roster q).roster in
      let time : after.now ≡ roster.now = moves.time in
      let fewer = (missed_tells roster q is).misses in
      rest after (moves.starts starts) (rw time (omega (arith, few, fewer)))
      (subst (λ now. IsOver p now after) (sym time) (over_missed p roster q starts is over))

  stops_none : (roster : Roster) → missing roster ≤ 0 → IsOver p roster.now roster → (found : Option ℕ) → first_missed roster ≡ found
      → (record_at roster p).started ≡ false
  stops_none roster few over None is = over_none p roster is over
  stops_none roster few over (Some q) is = let fewer = (missed_tells roster q is).misses in absurd (omega (arith, few, fewer))

  stops_in_turn : (left : ℕ) → Stops (in_turn first_missed serve_missed left) left
  stops_in_turn zero roster starts few over = stops_none roster few over (first_missed roster) refl
  stops_in_turn (suc left) roster starts few over =
      stops_and (in_turn first_missed serve_missed left) left (stops_in_turn left) roster starts few over (first_missed roster) refl

  stops : (roster : Roster) → HasOrderlyStarts roster → IsOver p roster.now roster → (record_at (serve_deadlines roster).roster p).started ≡ false
  stops roster starts over =
      stops_in_turn (length roster.records) roster starts (count_by-le-length (is_missed_at roster.now) roster.records) over

  -- the dues then start no process
  stays_stopped : (roster : Roster) → IsServable roster → IsOver p roster.now roster → (record_at (serve_instant roster).roster p).started ≡ false
  stays_stopped roster before over =
      let first = (reach_serve_deadlines roster before.starts).moves in
      let after = serve_deadlines roster in
      let servable : IsServable after.roster = record { starts = first.starts before.starts; times = first.times before.times } in
      ((reach_serve_dues after.roster servable).periods p).dormant (stops roster before.starts over)

pub misses_stop : (table : Table) → IsLawful table → HardMissesStop table
unfolding tick pass_time
misses_stop table lawful events n p t hard deadline passes =
    let machine = run table (opening table) events in
    let sound = sound_run table lawful events in
    let roster = machine.roster in
    let goal = tick_goal roster n in
    let advanced = advance_to roster goal in
    let starts = sound.orderly.starts in
    let servable : IsServable advanced = record {
      starts = record { dormant = starts.dormant; early = starts.early; undue = starts.undue };
      times = (goes table lawful machine sound (Tick n)).times;
    } in
    let first = (reach_serve_deadlines advanced servable.starts).moves in
    let between = serve_deadlines advanced in
    let servable_then : IsServable between.roster = record { starts = first.starts servable.starts; times = first.times servable.times } in
    let second = (reach_serve_dues between.roster servable_then).moves in
    let time : (serve_instant advanced).roster.now ≡ goal = second.time ∙ first.time in
    let near : goal ≤ t = goal_before_deadlines roster n p t deadline in
    let now : t ≡ goal = omega (arith, near, passes, time) in
    stays_stopped p advanced servable
    (inl (record {
      deadline = deadline ∙ ap Some now;
      hard = ap (λ attributes. attributes.deadline) (sound.orderly.attributes p) ∙ hard;
    }))
