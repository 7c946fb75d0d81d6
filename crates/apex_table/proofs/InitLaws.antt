-- An init list, given or default, is short enough, and its steps are lawful.
use Rattle.std.proofs.Common.{ℕ, ◌+◌, ◌<◌, ◌≤◌, List, [], length, Option, Some, None, IfSome, IfOk, arith}
use Rattle.std.specs.List.{AllByRecursion}
use Rattle.std.proofs.lemmas.Result.{IfOk-at_ok, IfOk-weaker}
use Rattle.toml.specs.Data.{Data}
use Rattle.apex_types.specs.declared.limits.TheConstants.{MOST_INIT_STEPS, MOST_OBJECTS, MOST_PROCESSES}
use Rattle.apex_machine.specs.table.Table.{ProcessConfig, Step, Table, IsLawfulStep}
use Rattle.apex_types.specs.declared.calls.Origin.TheVariants as origin
use Rattle.apex_words.specs.declared.fault.Section.TheVariants.{Init}
use Rattle.apex_table.specs.Terms.{Place, Profile}
use Rattle.apex_words.specs.declared.fault.TableFault.TheVariants.{BadInitStep}
use Rattle.apex_words.specs.Subjects.{whole}
use Rattle.apex_words.specs.Outcome.{place}
use Rattle.apex_table.specs.Keys.{array, at_most}
use Rattle.apex_table.specs.Steps.{of_word, step}
use Rattle.apex_configs.specs.Objects.{Objects}
use Rattle.apex_table.specs.Names.{Names}
use Rattle.apex_configs.specs.Tables.{table_with}
use Rattle.apex_table.specs.Init.{next_text, texts, given_texts, init_texts, is_init_call, init_step, next_init_step, init_steps, init_list}
use Rattle.apex_table.proofs.Results.{ok_then, ok_if, both_ok, AllFrom, all_any, each_from, each_length}
use Rattle.apex_table.proofs.KeyLaws.{at_most_law}
use Rattle.apex_table.proofs.StepLaws.{AreNamesOf, step_law}
use Rattle.apex_table.proofs.DefaultInitLaws.{default_init_law, default_init_length}
use Rattle.apex_table.proofs.ObjectLaws.{AreLawful}

-- an init list that is given has at most 512 texts
abbrev pub AreFew : Option (List (List ℕ)) → Type 0
AreFew o = IfSome o (λ ts. length ts ≤ MOST_INIT_STEPS)

given_texts_law : (d : Data) → IfOk (given_texts d) (λ ts. length ts ≤ MOST_INIT_STEPS)
unfolding given_texts
given_texts_law d =
    ok_then (array (whole (place Init 0)) d) _ (λ ts. length ts ≤ MOST_INIT_STEPS) (λ ds _.
    ok_then (at_most (whole (place Init 0)) MOST_INIT_STEPS ds) _ (λ ts. length ts ≤ MOST_INIT_STEPS) (λ few e.
    let bound : length few ≤ MOST_INIT_STEPS = IfOk-at_ok (λ xs. length xs ≤ MOST_INIT_STEPS) e (at_most_law (whole (place Init 0)) MOST_INIT_STEPS ds) in
    IfOk-weaker (texts few) _ _ (λ ts h. omega arith) (each_length next_text [] few)))

pub init_texts_law : (o : Option Data) → IfOk (init_texts o) AreFew
init_texts_law None = tt
init_texts_law (Some d) =
    ok_then (given_texts d) _ AreFew (λ ts e. IfOk-at_ok (λ ts. length ts ≤ MOST_INIT_STEPS) e (given_texts_law d))

-- the facts about an init list of the table
pub record IsInitList (table : Table) (steps : List Step) : Type 0 where
  pub few : length steps ≤ MOST_INIT_STEPS
  pub lawful : AllFrom (λ k step. IsLawfulStep table (origin.Init k) step) 0 steps

module _ (table : Table) (names : Names) (same : AreNamesOf table names) where
  abbrev Lawful : ℕ → Step → Type 0
  Lawful k step = IsLawfulStep table (origin.Init k) step

  init_step_law : (at : Place) (k : ℕ) (text : List ℕ) → IfOk (init_step at (origin.Init k) names text) (Lawful k)
  unfolding init_step
  init_step_law at k text =
      ok_then (step at (origin.Init k) names text) _ (Lawful k) (λ s e.
      ok_if (is_init_call s.call) (BadInitStep (of_word at (origin.Init k) 0)) s (Lawful k) (λ _. IfOk-at_ok (Lawful k) e (step_law at (origin.Init k) names table same text)))

  steps_lawful : (ts : List (List ℕ)) → IfOk (init_steps names ts) (AllFrom Lawful 0)
  steps_lawful ts =
      each_from (next_init_step names) Lawful (λ t. Unit {0})
      (λ done t _. init_step_law (place Init (length done + 1)) (length done) t) [] ts tt (all_any ts)

  steps_length : (ts : List (List ℕ)) → length ts ≤ MOST_INIT_STEPS → IfOk (init_steps names ts) (λ steps. length steps ≤ MOST_INIT_STEPS)
  steps_length ts few =
      IfOk-weaker (init_steps names ts) _ _ (λ steps h. omega arith) (each_length (next_init_step names) [] ts)

  init_steps_law : (ts : List (List ℕ)) → length ts ≤ MOST_INIT_STEPS → IfOk (init_steps names ts) (IsInitList table)
  init_steps_law ts few = both_ok (init_steps names ts) _ _ (λ steps short lawful. record { few = short; lawful = lawful }) (steps_length ts few) (steps_lawful ts)

pub init_list_law : (profile : Profile) (cores limit : ℕ) (procs : List ProcessConfig) (objects : Objects) (init : List Step) (names : Names) → AreNamesOf (table_with profile cores limit procs objects init) names → length procs ≤ MOST_PROCESSES → AllByRecursion (λ (entry : ProcessConfig). entry.core < 256) procs → AreLawful objects → (o : Option (List (List ℕ))) → AreFew o → IfOk (init_list names procs objects o) (IsInitList (table_with profile cores limit procs objects init))
init_list_law profile cores limit procs objects init names same some small lawful (Some ts) few =
    init_steps_law (table_with profile cores limit procs objects init) names same ts few
init_list_law profile cores limit procs objects init names same some small lawful None few =
    let semaphores : length objects.semaphores ≤ MOST_OBJECTS = lawful.semaphores.few in
    let buffers : length objects.buffers ≤ MOST_OBJECTS = lawful.buffers.few in
    let blackboards : length objects.blackboards ≤ MOST_OBJECTS = lawful.blackboards.few in
    let event_flags : length objects.event_flags ≤ MOST_OBJECTS = lawful.event_flags.few in
    let mutexes : length objects.mutexes ≤ MOST_OBJECTS = lawful.mutexes.few in
    record { few = omega (arith, default_init_length procs objects); lawful = default_init_law profile cores limit procs objects init small }
