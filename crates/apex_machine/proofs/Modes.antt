-- Changes of the mode: the entries into NORMAL and IDLE keep the facts that other changes keep, and
-- a start leaves the mode as it is.
use Rattle.std.proofs.Common.{◌≡◌, ℕ, zero, suc, ◌+◌, ◌==◌, true, false, List, [], ◌∷◌, map, get_or, length, None, Some, refl, sym, ◌∙◌, ap, subst, arith}
use Rattle.std.proofs.lemmas.Bool.{both_ways, cond_both}
use Rattle.std.proofs.lemmas.Int.{ints}
use Rattle.std.proofs.lemmas.List.{length-map}
use Rattle.std.proofs.lemmas.Option.{none-some}
use Rattle.apex_machine.specs.Terms.{Mode, Record}
use Rattle.apex_types.specs.declared.modes.Mode.TheVariants as mode
use Rattle.apex_machine.specs.declared.records.Wait.TheVariants.{Start, Period, Mutex}
use Rattle.apex_types.specs.Modes.{is_cold_start, is_normal}
use Rattle.apex_machine.specs.processes.Roster.{Roster, nobody, record_at}
use Rattle.apex_machine.specs.processes.Held.{holds}
use Rattle.apex_machine.specs.processes.Owners.{AreLawfullyOwned}
use Rattle.apex_machine.specs.processes.Running.{is_eligible}
use Rattle.apex_machine.specs.processes.Periods.{IsInTime}
use Rattle.apex_machine.specs.processes.Stamps.{readied, begin, released_at, release, block, stopped, set_mode}
use Rattle.apex_machine.specs.services.PartitionServices.{enter_idle}
use Rattle.apex_machine.proofs.DistinctStamps.{stamped_set_mode}
use Rattle.apex_machine.proofs.Periods.{StaysInPeriod, no_period, stays_same}
use Rattle.apex_machine.proofs.Owners.{owners_kept}
use Rattle.apex_machine.proofs.Reaches.{Reaches}

-- a start that begins leaves the mode as it is
mode_readied : (roster : Roster) (p : ℕ) (r : Record) → (readied roster p r).mode ≡ roster.mode
mode_readied roster p r =
    cond_both {A = Roster} (is_eligible roster.mode r) _ _ (λ (after : Roster). after.mode ≡ roster.mode) (λ _. refl) (λ _. refl)

pub mode_begin : (roster : Roster) (p delay : ℕ) → (begin roster p delay).mode ≡ roster.mode
mode_begin roster p delay =
    cond_both {A = Roster} (delay == 0) (release roster p) (block roster p Start (Some (roster.now + delay))) (λ (after : Roster). after.mode ≡ roster.mode)
    (λ _. mode_readied roster p (released_at roster.now (record_at roster p))) (λ _. refl)

-- NORMAL is not COLD_START
pub normal_late : (mode : Mode) → is_normal mode ≡ true → is_cold_start mode ≡ false
normal_late mode.Idle e = cc
normal_late mode.ColdStart e = cc
normal_late mode.Normal e = refl

-- the entry into NORMAL
pub reaches_set_mode : (roster : Roster) (mode : Mode) → is_normal mode ≡ true → Reaches 0 roster (set_mode roster mode)
reaches_set_mode roster mode normal = record {
  moves = record {
    many = refl;
    time = refl;
    rules = refl;
    stamps = omega (arith, ints);
    older = omega (arith, ints);
    stamped = λ stamped. stamped_set_mode roster stamped mode;
    times = λ before p. before p;
    one = λ before p h. before p h;
    starts = λ before. record { dormant = before.dormant; early = λ e. absurd (both_ways _ e normal); undue = λ e. absurd (both_ways _ e normal) };
    late = λ _. normal_late mode normal;
  };
  owners = owners_kept roster (set_mode roster mode) (record { rules = refl; owned = λ q. refl; mutex = λ q m is. is });
  periods = λ p. stays_same (record_at roster p);
}

-- every process is stopped, and no mode but IDLE follows
stopped_at : (rs : List Record) (p : ℕ) → get_or (map stopped rs) p nobody ≡ stopped (get_or rs p nobody)
stopped_at [] p = refl
stopped_at (r ∷ rs) zero = refl
stopped_at (r ∷ rs) (suc p) = stopped_at rs p

pub reaches_enter_idle : (roster : Roster) → Reaches 0 roster (enter_idle roster)
reaches_enter_idle roster =
    let many : length (map stopped roster.records) ≡ length roster.records = length-map roster.records stopped in
    let at = stopped_at roster.records in
    let same : (p : ℕ) → (record_at (enter_idle roster) p).since ≡ (record_at roster p).since = λ p. ap (λ (r : Record). r.since) (at p) in
    let free : (p : ℕ) → (record_at (enter_idle roster) p).wait ≡ None = λ p. ap (λ (r : Record). r.wait) (at p) in
    let unowned : (p : ℕ) → (record_at (enter_idle roster) p).owned ≡ [] = λ p. ap (λ (r : Record). r.owned) (at p) in
    let undue : (p : ℕ) → (record_at (enter_idle roster) p).due ≡ None = λ p. ap (λ (r : Record). r.due) (at p) in
    record {
      moves = record {
        many = many;
        time = refl;
        rules = refl;
        stamps = omega (arith, ints);
        older = omega (arith, ints);
        stamped = λ stamped. record {
          given = λ p within. rw (same p) (stamped.given p (rw many at within));
          newer = λ p within. rw (same p) (stamped.newer p (rw many at within));
          distinct = record {
            distinct = λ p q within there e. stamped.distinct.distinct p q (rw many at within) (rw many at there) (sym (same p) ∙ e ∙ same q);
          };
        };
        times = λ before p. subst (IsInTime roster.now) (sym (at p)) (record {
          due = λ t e. absurd (none-some t e);
          deadline = λ t e. absurd (none-some t e);
          release = (before p).release;
          period = λ w. absurd (none-some Period w);
        });
        one = λ before p h. free p;
        starts = λ before. record {
          dormant = λ p e. free p;
          early = λ e p h. absurd (both_ways _ (ap (λ (r : Record). r.started) (at p)) h);
          undue = λ e p. undue p;
        };
        late = λ _. refl;
      };
      owners = λ before. record {
        most = before.most;
        owned = λ p. subst (AreLawfullyOwned (enter_idle roster)) (sym (unowned p)) (record { lawful = tt; few = omega arith });
        one = λ m p q first second. absurd (both_ways false refl (sym (ap (holds m) (unowned p)) ∙ first));
        waiters = λ p m is. absurd (none-some (Mutex m) (sym (free p) ∙ is));
      };
      periods = λ p. subst (StaysInPeriod (record_at roster p)) (sym (at p)) (record {
        attributes = refl;
        core = refl;
        later = λ _. no_period (record_at roster p).attributes.period (record_at roster p).release;
        still = λ _. refl;
        dormant = λ _. refl;
      });
    }
