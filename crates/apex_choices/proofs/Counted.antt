-- What is counted after an event.
use Rattle.std.proofs.Common.{◌≡◌, ◌∙◌, ℕ, ◌+◌, ◌-◌, ◌<◌, ◌≤◌, ◌==◌, ◌&&◌, Bool, length, not, if◌then◌else◌, ap, arith}
use Rattle.apex_types.specs.declared.entries.Event.TheVariants.{Turn, Tick}
use Rattle.apex_types.specs.declared.limits.TheConstants.{MOST_CORES, MOST_PROCESSES}
use Rattle.apex_dispatch.specs.Situations.{StoredSituation, situation_in}
use Rattle.apex_laws.specs.GoesOn.{CanGoOn}
use Rattle.apex_laws.specs.Premises.{most_given}
use Rattle.apex_laws.proofs.DuesServed.{IsServable}
use Rattle.apex_laws.proofs.TickTold.{reach_serve_instant}
use Rattle.apex_machine.proofs.BothProfiles.{lawful_count}
use Rattle.apex_machine.proofs.Dues.{goal_before_deadlines, goal_before_dues, goal_forward, goal_near}
use Rattle.apex_machine.proofs.Reaches.{Arrives, arrives_of, in_time_later}
use Rattle.apex_machine.specs.Ticks.{pass_time, tick_goal}
use Rattle.apex_machine.specs.processes.Stamps.{advance_to}
use Rattle.apex_machine.specs.Situations.{Situation, step}
use Rattle.apex_machine.specs.processes.Roster.{Roster}
use Rattle.apex_machine.specs.table.Table.{IsLawful, Table}
use Rattle.apex_pace.specs.Pace.{is_starting, paced_step}
use Rattle.apex_choices.specs.Counts.{IsSameOnCores, StoredPaced, count_at, paced_in}
use Rattle.apex_choices.proofs.Same.{same_from}

-- after a turn of the core
pub turned_is : (table : Table) (before after : StoredPaced) (core : ℕ) (counts : Bool)
    → situation_in after.situation ≡ step table (situation_in before.situation) (Turn core)
    → counts ≡ not (is_starting (paced_in before))
    → ((c : ℕ) → count_at after.counts.turns c
    ≡ (if counts && c == core then count_at before.counts.turns c + 1 else count_at before.counts.turns c))
    → ((c : ℕ) → count_at after.counts.worked c ≡ (if c == core then 0 else count_at before.counts.worked c))
    → IsSameOnCores (paced_in after) (paced_step table (paced_in before) (Turn core))
turned_is table before after core counts stepped is turns worked = record {
  situation = same_from _ _ stepped;
  turns = λ c. turns c
      ∙ ap (λ (b : Bool). if b && c == core then count_at before.counts.turns c + 1 else count_at before.counts.turns c) is;
  worked = λ c below. worked c;
}

-- after a tick
pub ticked_is : (table : Table) (before after : StoredPaced) (n went : ℕ)
    → situation_in after.situation ≡ step table (situation_in before.situation) (Tick n)
    → went ≡ after.situation.roster.now - before.situation.roster.now
    → ((c : ℕ) → count_at after.counts.turns c ≡ 0)
    → ((c : ℕ) → c < MOST_CORES → count_at after.counts.worked c ≡ count_at before.counts.worked c + went)
    → IsSameOnCores (paced_in after) (paced_step table (paced_in before) (Tick n))
ticked_is table before after n went stepped is turns worked = record {
  situation = same_from _ _ stepped;
  turns = turns;
  worked = λ c below. worked c below
      ∙ ap (λ (ticks : ℕ). count_at before.counts.worked c + ticks)
      (is ∙ ap (λ (s : Situation). s.roster.now - before.situation.roster.now) stepped);
}

-- a tick of n goes n on at the most
pub tick_near : (table : Table) → IsLawful table → (s : Situation) → CanGoOn table 1 s → (n : ℕ)
    → (step table s (Tick n)).roster.now ≤ s.roster.now + n
unfolding pass_time
tick_near table lawful s can n =
    let roster = s.roster in
    let goal = tick_goal roster n in
    let forward = goal_forward roster n (λ p. (can.times p).due) (λ p. (can.times p).deadline) in
    let times = in_time_later roster goal can.times forward (goal_before_dues roster n) (goal_before_deadlines roster n) in
    let starts = can.starts in
    let servable : IsServable (advance_to roster goal) =
    record { starts = record { dormant = starts.dormant; early = starts.early; undue = starts.undue }; times = times } in
    let few : length roster.records ≤ MOST_PROCESSES = omega (arith, can.records, lawful_count table lawful) in
    let arrives : Arrives most_given (advance_to roster goal) (step table s (Tick n)).roster =
    arrives_of (reach_serve_instant (advance_to roster goal) servable few) in
    omega (arith, arrives.moves.time, goal_near roster n)

-- time goes n on at the most
pub went_near : (table : Table) → IsLawful table → (before after : StoredSituation Roster) → CanGoOn table 1 (situation_in before)
    → (n : ℕ) → situation_in after ≡ step table (situation_in before) (Tick n)
    → after.roster.now ≤ before.roster.now + n
went_near table lawful before after can n stepped =
    let now : after.roster.now ≡ (step table (situation_in before) (Tick n)).roster.now =
    ap (λ (s : Situation). s.roster.now) stepped in
    let near = tick_near table lawful (situation_in before) can n in
    omega (arith, now, near)
