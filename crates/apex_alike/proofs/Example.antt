-- A search that closes: a periodic process that nobody starts, and time that goes on for ever.
use Rattle.std.proofs.Common.{◌≡◌, ℕ, zero, suc, [], ◌∷◌, Some, refl, subst}
use Rattle.std.specs.Prelude.{slice_get, codes, true, false}
use Rattle.std.proofs.lemmas.Option.{none-some, same_Some}
use Rattle.apex_laws.specs.Terms.{Event}
use Rattle.apex_types.specs.declared.entries.Event.TheVariants.{Tick}
use Rattle.apex_machine.specs.declared.profiles.Profile.TheVariants.{One}
use Rattle.apex_types.specs.declared.modes.DeadlineType.TheVariants.{Soft}
use Rattle.apex_machine.specs.Machine.{opening}
use Rattle.apex_machine.specs.Ticks.{pass_time}
use Rattle.apex_machine.specs.processes.Dues.{is_due_at, is_missed_at}
use Rattle.apex_machine.specs.table.Table.{Table}
use Rattle.apex_alike.specs.Canonical.{canonical}
use Rattle.apex_machine.specs.Situations.{Situation, step}
use Rattle.apex_alike.specs.Closed.{HasClosed, Holds, IsSameSituation}
use Rattle.apex_machine.specs.Machine.{situation_of}

abbrev pub lonely : Table
lonely = record {
  profile = One;
  cores = 1;
  limit = 100;
  processes = (record {
    name = codes "A";
    attributes = record { priority = 10; period = Some 10; capacity = Some 4; deadline = Soft };
    core = 0;
    loops = false;
    start = true;
    script = [];
  }) ∷ [];
  semaphores = [];
  buffers = [];
  blackboards = [];
  event_flags = [];
  mutexes = [];
  init = [];
}

abbrev first : Situation
first = canonical (situation_of lonely (opening lonely))

opens_same : IsSameSituation first first
opens_same = record { roster = refl; objects = refl; works = λ core. refl; made = refl }

tick_same : IsSameSituation first (canonical (step lonely first (Tick 7)))
unfolding pass_time is_due_at is_missed_at
tick_same = record { roster = refl; objects = refl; works = λ core. refl; made = refl }

pub lonely_closes : HasClosed lonely (Tick 7 ∷ []) (first ∷ [])
lonely_closes = record {
  opens = record { place = 0; situation = first; here = refl; same = opens_same };
  steps = steps;
} where
  steps : (k : ℕ) (s : Situation) → slice_get (first ∷ []) k ≡ Some s → (i : ℕ) (event : Event) → slice_get (Tick 7 ∷ []) i ≡ Some event
      → Holds (first ∷ []) (canonical (step lonely s event))
  steps zero s at zero event asked =
      subst (λ (x : Situation). Holds (first ∷ []) (canonical (step lonely x event))) (same_Some first s at)
      (subst (λ (e : Event). Holds (first ∷ []) (canonical (step lonely first e))) (same_Some (Tick 7) event asked)
      (record { place = 0; situation = first; here = refl; same = tick_same }))
  steps (suc k) s at i event asked = absurd (none-some s at)
  steps zero s at (suc i) event asked = absurd (none-some event asked)
