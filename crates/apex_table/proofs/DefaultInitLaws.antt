-- The default init list names entries of the table, and is short enough.
use Rattle.std.proofs.Common.{◌≡◌, ℕ, ◌+◌, ◌*◌, ◌<◌, ◌≤◌, suc, Bool, true, false, cond, List, [], ◌∷◌, ◌++◌, length, refl, arith, length-append}
use Rattle.std.specs.List.{AllByRecursion}
use Rattle.apex_types.specs.Places.{map_places}
use Rattle.apex_machine.specs.table.Table.{ProcessConfig, Step, Table, IsLawfulStep}
use Rattle.apex_types.specs.declared.calls.Call.TheVariants as calls
use Rattle.apex_types.specs.declared.calls.ObjectCall.TheVariants.{KindService}
use Rattle.apex_types.specs.declared.calls.Origin.TheVariants.{Init}
use Rattle.apex_types.specs.declared.calls.PartitionCall.TheVariants.{SetPartitionMode}
use Rattle.apex_types.specs.declared.calls.ProcessService.TheVariants.{InitializeCoreAffinity, Start}
use Rattle.apex_types.specs.declared.calls.RequestedMode.TheVariants.{Normal}
use Rattle.apex_types.proofs.Places.{length-map_places}
use Rattle.apex_calls.specs.CallText.{count_of}
use Rattle.apex_calls.specs.declared.catalogue.Kind.TheVariants.{Process, Semaphore, Buffer, Blackboard, EventFlag, Mutex}
use Rattle.apex_table.specs.Terms.{Kind, Profile}
use Rattle.apex_table.specs.DefaultInit.{bare, create, creates, creates_process, starts_process, joined, creates_objects, default_init}
use Rattle.apex_configs.specs.Objects.{Objects}
use Rattle.apex_configs.specs.Tables.{table_with}
use Rattle.apex_table.proofs.Results.{AllFrom, all_any, all_append, all_from_any}

-- a fact of each element's value, if all places are below n
all_places : {A B : Type 0} (f : ℕ → A → B) (P : B → Type 0) (Q : A → Type 0) (n : ℕ) → ((i : ℕ) (x : A) → i < n → Q x → P (f i x)) → (p : ℕ) (xs : List A) → AllByRecursion Q xs → p + length xs ≤ n → AllByRecursion P (map_places f p xs)
all_places f P Q n holds p [] all few = tt
all_places f P Q n holds p (x ∷ xs) all few = (holds p x (omega arith) all.0, all_places f P Q n holds (p + 1) xs all.1 (omega arith))

all_joined : (P : Step → Type 0) (steps : List (List Step)) → AllByRecursion (AllByRecursion P) steps → AllByRecursion P (joined steps)
all_joined P [] all = tt
all_joined P (ss ∷ steps) all = all_append P ss (joined steps) all.0 (all_joined P steps all.1)

start_law : (P : Step → Type 0) (b : Bool) (step : Step) → P step → AllByRecursion P (cond b (step ∷ []) [])
start_law P true step here = (here, tt)
start_law P false step here = tt

-- a fact of each step that a default init list of the table may have; of each process this is known
pub record OfDefaults (table : Table) (Q : ProcessConfig → Type 0) (P : Step → Type 0) : Type 0 where
  pub created : (k : Kind) (i : ℕ) → i < count_of table k → P (bare (create k i))
  pub placed : (p : ℕ) (entry : ProcessConfig) → p < length table.processes → Q entry → P (bare (calls.Process (KindService p (InitializeCoreAffinity entry.core))))
  pub started : (p : ℕ) → p < length table.processes → P (bare (calls.Process (KindService p Start)))
  pub normal : P (bare (calls.Partition (SetPartitionMode Normal)))

module _ (profile : Profile) (cores limit : ℕ) (ps : List ProcessConfig) (objects : Objects) (init : List Step) where
  abbrev Whole : Table
  Whole = table_with profile cores limit ps objects init

  module _ (Q : ProcessConfig → Type 0) (P : Step → Type 0) (of : OfDefaults Whole Q P) where
    created_all : {E : Type 0} (k : Kind) (entries : List E) → length entries ≤ count_of Whole k → AllByRecursion P (map_places (creates k) 0 entries)
    created_all {E = E} k entries few =
        all_places (creates k) P (λ (e : E). Unit {0}) (count_of Whole k) (λ i entry below _. of.created k i below) 0 entries (all_any entries) (omega arith)

    object_steps : AllByRecursion P (creates_objects objects)
    unfolding creates_objects
    object_steps =
        all_append P _ _ (all_append P _ _ (all_append P _ _ (all_append P _ _
        (created_all Semaphore objects.semaphores (omega arith))
        (created_all Buffer objects.buffers (omega arith)))
        (created_all Blackboard objects.blackboards (omega arith)))
        (created_all EventFlag objects.event_flags (omega arith)))
        (created_all Mutex objects.mutexes (omega arith))

    pub default_steps : AllByRecursion Q ps → AllByRecursion P (default_init ps objects)
    default_steps all =
        let processes : AllByRecursion P (joined (map_places creates_process 0 ps)) =
        all_joined P _ (all_places creates_process (AllByRecursion P) Q (length ps) (λ p entry below q. (of.created Process p below, (of.placed p entry below q, tt))) 0 ps all (omega arith)) in
        let started : AllByRecursion P (joined (map_places starts_process 0 ps)) =
        all_joined P _ (all_places starts_process (AllByRecursion P) Q (length ps) (λ p entry below q. start_law P entry.start _ (of.started p below)) 0 ps all (omega arith)) in
        all_append P _ _ (all_append P _ _ (all_append P _ _ object_steps processes) started) (of.normal, tt)

  -- each step names entries alone, and gives no number but a process's core, so it is lawful at each place
  abbrev Fits : Step → Type 0
  Fits step = (k : ℕ) → IsLawfulStep Whole (Init k) step

  created_fits : (k : Kind) (i : ℕ) → i < count_of Whole k → Fits (bare (create k i))
  created_fits Process i below k = record { known = below; numbers = tt; literal = refl }
  created_fits Semaphore i below k = record { known = below; numbers = tt; literal = refl }
  created_fits Buffer i below k = record { known = below; numbers = tt; literal = refl }
  created_fits Blackboard i below k = record { known = below; numbers = tt; literal = refl }
  created_fits EventFlag i below k = record { known = below; numbers = tt; literal = refl }
  created_fits Mutex i below k = record { known = below; numbers = tt; literal = refl }

  fits_defaults : OfDefaults Whole (λ entry. entry.core < 256) Fits
  fits_defaults = record {
    created = created_fits;
    placed = λ p entry below small k. record { known = below; numbers = omega (arith, small); literal = refl };
    started = λ p below k. record { known = below; numbers = tt; literal = refl };
    normal = λ k. record { known = tt; numbers = tt; literal = refl };
  }

  pub default_init_law : AllByRecursion (λ (entry : ProcessConfig). entry.core < 256) ps
      → AllFrom (λ k step. IsLawfulStep Whole (Init k) step) 0 (default_init ps objects)
  default_init_law small =
      all_from_any (λ k step. IsLawfulStep Whole (Init k) step) 0 (default_init ps objects)
      (default_steps (λ entry. entry.core < 256) Fits fits_defaults small)

created_length : (p : ℕ) (entries : List ProcessConfig) → length (joined (map_places creates_process p entries)) ≡ 2 * length entries
created_length p [] = refl
created_length p (entry ∷ rest) = omega (arith, created_length (p + 1) rest)

start_length : (b : Bool) (step : Step) (rest : List Step) (n : ℕ) → length rest ≤ n → length (cond b (step ∷ []) [] ++ rest) ≤ suc n
start_length true step rest n few = omega arith
start_length false step rest n few = omega arith

started_length : (p : ℕ) (entries : List ProcessConfig) → length (joined (map_places starts_process p entries)) ≤ length entries
started_length p [] = omega arith
started_length p (entry ∷ rest) = start_length entry.start _ _ (length rest) (started_length (p + 1) rest)

-- the number of objects
abbrev pub object_count : Objects → ℕ
object_count objects =
    length objects.semaphores + length objects.buffers + length objects.blackboards + length objects.event_flags
    + length objects.mutexes

pub default_init_length : (ps : List ProcessConfig) (objects : Objects) → length (default_init ps objects) ≤ object_count objects + 3 * length ps + 1
unfolding creates_objects
default_init_length ps objects =
    simp (length-append, length-map_places) (omega (arith, created_length 0 ps, started_length 0 ps))
