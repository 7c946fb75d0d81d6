-- What a pace counts after an event.
use Rattle.std.proofs.Common.{◌≡◌, ◌∙◌, ℕ, ◌+◌, ◌≤◌, Bool, true, false, [], ◌∷◌, length, ◌<◌, Ok, subst, refl, sym, ap, arith, inl, inr, not, ◌&&◌, ◌==◌, if◌then◌else◌, eq-eqb, ne_eqb}
use Rattle.std.proofs.Math.Path.{fun_ext}
use Rattle.std.proofs.lemmas.Bool.{cases_eq}
use Rattle.apex_types.specs.declared.entries.Event.TheVariants.{Turn, Tick}
use Rattle.apex_machine.specs.Machine.{Machine, accept, events_of, happen, opening, replay, situation_of}
use Rattle.apex_machine.specs.Situations.{Situation, step}
use Rattle.apex_machine.specs.table.Table.{Table, IsLawful}
use Rattle.apex_laws.proofs.Runs.{accept-room, length-happen}
use Rattle.apex_laws.proofs.Sound.{IsSound, goes, happens, owes, sound_run}
use Rattle.apex_dispatch.specs.Kernel.{KernelState, kernel_in}
use Rattle.apex_dispatch.proofs.MachineSteps.{steps_situation}
use Rattle.apex_pace.specs.Pace.{Paced, is_starting, paced_opening, paced_step}
use Rattle.apex_laws.specs.Terms.{Event}
use Rattle.apex_rounds.specs.Rounds.{AreWithin, CountsOfCores, Makes, RoundsState, count_at, paced_in, paced_with}

same_paced : {a b : Paced} → a.situation ≡ b.situation → ((core : ℕ) → a.turns core ≡ b.turns core)
    → ((core : ℕ) → a.worked core ≡ b.worked core) → a ≡ b
same_paced {a} {b} situation turns worked =
    ap (λ (s : Situation). record a { situation = s }) situation
    ∙ ap (λ (t : ℕ → ℕ). record a { situation = b.situation; turns = t }) (fun_ext turns)
    ∙ ap (λ (w : ℕ → ℕ). record b { worked = w }) (fun_ext worked)

-- what is counted of each core after a turn of this one, and after a tick
pub record HasTurned (core now : ℕ) (counts : Bool) (old new : CountsOfCores) : Type 0 where
  pub turns : (c : ℕ) → count_at new.turns c
      ≡ (if counts && c == core then count_at old.turns c + 1 else count_at old.turns c)
  pub since : (c : ℕ) → count_at new.since c ≡ (if c == core then now else count_at old.since c)

pub record HasTicked (old new : CountsOfCores) : Type 0 where
  pub turns : (core : ℕ) → count_at new.turns core ≡ 0
  pub since : new.since ≡ old.since

module _ (table : Table) (lawful : IsLawful table) (machine : Machine) (sound : IsSound table machine) (old new : CountsOfCores)
    (within : AreWithin old (length machine.history) machine.roster.now) where
  abbrev s : Paced
  s = paced_with (situation_of table machine) old

  -- a turn takes no time
  turn_now : (core : ℕ) → (happen table machine (Turn core)).roster.now ≡ machine.roster.now
  turn_now core =
      ap (λ (m : Machine). m.roster.now) (happens table machine (Turn core)) ∙ (owes table lawful machine sound (Turn core)).arrives.moves.time

  tick_now : (n : ℕ) → machine.roster.now ≤ (happen table machine (Tick n)).roster.now
  tick_now n =
      let is = ap (λ (m : Machine). m.roster.now) (happens table machine (Tick n)) ∙ (owes table lawful machine sound (Tick n)).arrives.moves.time in
      omega (arith, is, (goes table lawful machine sound (Tick n)).forward)

  pub turned : (core : ℕ) → let after = happen table machine (Turn core) in
      HasTurned core after.roster.now (not (is_starting s)) old new
      → paced_with (situation_of table after) new ≡ paced_step table s (Turn core)
  turned core has =
      let after = happen table machine (Turn core) in
      same_paced (sym (steps_situation table machine lawful sound (Turn core))) has.turns
      (λ c. elim (cases_eq c core) [
        | inl same ↦ rw (has.since c, eq-eqb c core same) (omega arith)
        | inr other ↦ rw (has.since c, ne_eqb c core other, turn_now core) refl
      ])

  one_more : (b : Bool) (n most : ℕ) → n ≤ most → (if b then n + 1 else n) ≤ most + 1
  one_more true n most few = omega (arith, few)
  one_more false n most few = omega (arith, few)

  pub turned_within : (core : ℕ) (counts : Bool) → let after = happen table machine (Turn core) in
      HasTurned core after.roster.now counts old new → AreWithin new (length after.history) after.roster.now
  turned_within core counts has = record {
    turns = λ c. rw (has.turns c, length-happen table machine (Turn core)) (one_more (counts && c == core) _ _ (within.turns c));
    since = λ c. elim (cases_eq c core) [
      | inl same ↦ rw (has.since c, eq-eqb c core same) (omega arith)
      | inr other ↦ rw (has.since c, ne_eqb c core other, turn_now core) (within.since c)
    ];
  }

  pub ticked_within : (n : ℕ) → HasTicked old new
      → AreWithin new (length (happen table machine (Tick n)).history) (happen table machine (Tick n)).roster.now
  ticked_within n has = record {
    turns = λ c. rw (has.turns c) (omega arith);
    since = λ c. rw has.since (omega (arith, within.since c, tick_now n));
  }

  pub ticked : (n : ℕ) → HasTicked old new
      → paced_with (situation_of table (happen table machine (Tick n))) new ≡ paced_step table s (Tick n)
  ticked n has =
      let after = happen table machine (Tick n) in
      let stepped = steps_situation table machine lawful sound (Tick n) in
      let now : (step table (situation_of table machine) (Tick n)).roster.now ≡ after.roster.now = ap (λ (t : Situation). t.roster.now) stepped in
      same_paced (sym stepped) has.turns
      (λ c. rw (has.since, now) (omega (arith, within.since c, tick_now n)))

-- before any event nothing is counted
pub opened : (table : Table) (machine : Machine) (counts : CountsOfCores) → machine ≡ opening table
    → ((core : ℕ) → count_at counts.turns core ≡ 0) → ((core : ℕ) → count_at counts.since core ≡ 0)
    → paced_with (situation_of table machine) counts ≡ paced_opening table
opened table machine counts is turns since =
    same_paced (ap (situation_of table) is) turns (λ core. rw (is, since core) refl)

-- a kernel after an event for which there was room, and what is counted then
pub record IsCountedAfter {S X : Type 0} (x : X) (old new : RoundsState S) (event : Event) : Type 0 where
  pub within : AreWithin new.counts (length new.kernel.machine.history) new.kernel.machine.roster.now
  pub makes : Makes (Ok x) old new (event ∷ [])

module _ {S X : Type 0} (x : X) (old new : RoundsState S) (lawful : IsLawful old.kernel.table)
    (replays : replay old.kernel.table old.kernel.machine.history ≡ old.kernel.machine)
    (within : AreWithin old.counts (length old.kernel.machine.history) old.kernel.machine.roster.now)
    (room : length old.kernel.machine.history < old.kernel.table.limit) (pace : new.pace ≡ old.pace) where
  abbrev table : Table
  table = old.kernel.table

  abbrev machine : Machine
  machine = old.kernel.machine

  sound : IsSound table machine
  sound = subst (IsSound table) replays (sound_run table lawful (events_of machine.history))

  counted : (event : Event) → new.kernel ≡ kernel_in table (accept table machine event) new.kernel.store
      → AreWithin new.counts (length (happen table machine event).history) (happen table machine event).roster.now
      → paced_with (situation_of table (happen table machine event)) new.counts ≡ paced_step table (paced_in old) event
      → IsCountedAfter x old new event
  counted event is few paced =
      let after : new.kernel.machine ≡ happen table machine event =
      ap (λ (k : KernelState S). k.machine) is ∙ accept-room table machine event room in
      let same : new.kernel.table ≡ table = ap (λ (k : KernelState S). k.table) is in
      record {
        within = rw after few;
        makes = record {
          kernel = is;
          accepted = (λ ok. omega (arith, room), λ fits. refl);
          paced = rw (same, after) paced;
          pace = pace;
        };
      }

  pub counted_turn : (core : ℕ) → new.kernel ≡ kernel_in table (accept table machine (Turn core)) new.kernel.store
      → HasTurned core new.kernel.machine.roster.now (not (is_starting (paced_in old))) old.counts new.counts
      → IsCountedAfter x old new (Turn core)
  counted_turn core is has =
      let after : new.kernel.machine ≡ happen table machine (Turn core) =
      ap (λ (k : KernelState S). k.machine) is ∙ accept-room table machine (Turn core) room in
      let here : HasTurned core (happen table machine (Turn core)).roster.now (not (is_starting (paced_in old))) old.counts new.counts =
      subst (λ (m : Machine). HasTurned core m.roster.now (not (is_starting (paced_in old))) old.counts new.counts) after has in
      counted (Turn core) is (turned_within table lawful machine sound old.counts new.counts within core (not (is_starting (paced_in old))) here)
      (turned table lawful machine sound old.counts new.counts within core here)

  pub counted_tick : (n : ℕ) → new.kernel ≡ kernel_in table (accept table machine (Tick n)) new.kernel.store
      → HasTicked old.counts new.counts → IsCountedAfter x old new (Tick n)
  counted_tick n is has =
      counted (Tick n) is (ticked_within table lawful machine sound old.counts new.counts within n has)
      (ticked table lawful machine sound old.counts new.counts within n has)
