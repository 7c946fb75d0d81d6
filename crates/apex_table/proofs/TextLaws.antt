-- Each step of a table that is read has one text, which is its call as a line writes it.
use Rattle.std.proofs.Common.{◌≡◌, ℕ, ◌+◌, ◌<◌, ◌≤◌, true, List, [], ◌∷◌, length, map, Option, Some, None, Result, Ok, Err, IfOk, refl, sym, ap, subst, ◌∙◌, arith}
use Rattle.std.specs.List.{AllByRecursion, IsDistinct, position_from}
use Rattle.std.specs.Str.{bytes_eq}
use Rattle.std.proofs.lemmas.List.{length-map}
use Rattle.std.proofs.lemmas.Result.{IfOk-at_ok}
use Rattle.apex_types.specs.declared.limits.TheConstants.{MOST_CORES}
use Rattle.apex_types.specs.Name.{is_name}
use Rattle.apex_machine.specs.table.Table.{Table, ProcessConfig, SemaphoreConfig, BufferConfig, BlackboardConfig, EventFlagConfig, MutexConfig, no_process, no_semaphore, no_buffer, no_blackboard, no_event_flag, no_mutex, process_config, Step, step_at, no_step, literal_text, IsLawful}
use Rattle.apex_types.specs.declared.calls.Origin.TheVariants as origin
use Rattle.apex_calls.specs.CallText.{call_text, call_words, count_of, name_of, spaced}
use Rattle.apex_calls.specs.declared.catalogue.Kind.TheVariants.{Process, Semaphore, Buffer, Blackboard, EventFlag, Mutex}
use Rattle.apex_configs.proofs.KeptTexts.{name_anywhere}
use Rattle.apex_words.specs.declared.fault.Section.TheVariants as sections
use Rattle.apex_words.specs.declared.fault.TableFault.TheVariants.{BadInitStep}
use Rattle.apex_table.specs.Terms.{Kind, Origin, Place, Profile, TableFault}
use Rattle.apex_words.specs.Outcome.{place, Gives}
use Rattle.apex_table.specs.Processes.{ProcessDraft, process_names}
use Rattle.apex_configs.specs.Objects.{Objects}
use Rattle.apex_table.specs.Names.{Names, names_in, names_of}
use Rattle.apex_table.specs.Steps.{of_word, step}
use Rattle.apex_table.specs.StepTexts.{table_names, HasText, HaveTexts}
use Rattle.apex_table.specs.Scripts.{script, next_entry, with_scripts}
use Rattle.apex_table.specs.DefaultInit.{default_init}
use Rattle.apex_table.specs.Init.{is_init_call, init_step, next_init_step, init_steps, init_list}
use Rattle.apex_configs.specs.Tables.{table_with}
use Rattle.apex_table.specs.Reading.{TableDraft, IsRead, with_steps}
use Rattle.apex_table.proofs.Results.{ok_then, ok_if, AllFrom, all_any, all_by_place, all_from_any, all_from_start, each_from}
use Rattle.apex_table.proofs.Slots.{name_at}
use Rattle.apex_table.proofs.StepLaws.{AreNamesOf, text_law}
use Rattle.apex_table.proofs.DefaultInitLaws.{OfDefaults, default_steps}
use Rattle.apex_table.proofs.ScriptLaws.{entry_names, with_scripts_names}
use Rattle.apex_table.proofs.Returns.{IsWritten, found_name, created_written, started_written, placed_written, normal_written}
use Rattle.apex_table.proofs.Law.{lawful_of}

-- the names of a table

module _ (table : Table) where
  name_same : (k : Kind) (i : ℕ) → name_at (table_names table) k i ≡ name_of table k i
  name_same Process i = name_anywhere (λ (e : ProcessConfig). e.name) no_process refl table.processes i
  name_same Semaphore i = name_anywhere (λ (e : SemaphoreConfig). e.name) no_semaphore refl table.semaphores i
  name_same Buffer i = name_anywhere (λ (e : BufferConfig). e.name) no_buffer refl table.buffers i
  name_same Blackboard i = name_anywhere (λ (e : BlackboardConfig). e.name) no_blackboard refl table.blackboards i
  name_same EventFlag i = name_anywhere (λ (e : EventFlagConfig). e.name) no_event_flag refl table.event_flags i
  name_same Mutex i = name_anywhere (λ (e : MutexConfig). e.name) no_mutex refl table.mutexes i

  names_same : name_at (table_names table) ≡ name_of table
  names_same = λ j k i. name_same k i j

  pub own_names : AreNamesOf table (table_names table)
  own_names = record {
    processes = length-map table.processes (λ (e : ProcessConfig). e.name);
    semaphores = length-map table.semaphores (λ (e : SemaphoreConfig). e.name);
    buffers = length-map table.buffers (λ (e : BufferConfig). e.name);
    blackboards = length-map table.blackboards (λ (e : BlackboardConfig). e.name);
    event_flags = length-map table.event_flags (λ (e : EventFlagConfig). e.name);
    mutexes = length-map table.mutexes (λ (e : MutexConfig). e.name);
  }

  -- a step that some text gives has this text alone
  has_text : (at : Place) (from : Origin) (given : Step) → literal_text table from ≡ given.literal → IsWritten at from (table_names table) given → HasText table at from given
  has_text at from given literal is =
      let back : (text : List ℕ) → step at from (table_names table) text ≡ Ok given → call_text table given.call ≡ text =
      λ text e. subst (λ names. spaced (call_words names (literal_text table) given.call) ≡ text) names_same
      (IfOk-at_ok (λ (s : Step). (literals : Origin → List ℕ) → literals from ≡ s.literal → spaced (call_words (name_at (table_names table)) literals s.call) ≡ text) e
      (text_law at from (table_names table) table own_names text) (literal_text table) literal) in
      record {
        read = ap (step at from (table_names table)) (back is.text is.read) ∙ is.read;
        alone = λ text e. sym (back text e);
      }

  module _ (lawful : IsLawful table) where
    distinct_names : (k : Kind) → IsDistinct bytes_eq (names_in (table_names table) k)
    distinct_names Process = lawful.process_names
    distinct_names Semaphore = lawful.semaphore_names
    distinct_names Buffer = lawful.buffer_names
    distinct_names Blackboard = lawful.blackboard_names
    distinct_names EventFlag = lawful.event_flag_names
    distinct_names Mutex = lawful.mutex_names

    good_name : (k : Kind) (i : ℕ) → i < count_of table k → is_name (name_of table k i) ≡ true
    good_name Process i below = (lawful.processes i below).name
    good_name Semaphore i below = (lawful.semaphores i below).name
    good_name Buffer i below = (lawful.buffers i below).name
    good_name Blackboard i below = (lawful.blackboards i below).name
    good_name EventFlag i below = (lawful.event_flags i below).name
    good_name Mutex i below = (lawful.mutexes i below).name

    many_names : (k : Kind) → length (names_in (table_names table) k) ≡ count_of table k
    many_names Process = own_names.processes
    many_names Semaphore = own_names.semaphores
    many_names Buffer = own_names.buffers
    many_names Blackboard = own_names.blackboards
    many_names EventFlag = own_names.event_flags
    many_names Mutex = own_names.mutexes

    -- a name that is an entry's is good, and found at its place
    by_name : {P : Type 0} (k : Kind) (i : ℕ) → i < count_of table k → ((name : List ℕ) → is_name name ≡ true → position_from (bytes_eq name) 0 (names_in (table_names table) k) ≡ Some i → P) → P
    by_name k i below gives =
        gives (name_at (table_names table) k i) (ap is_name (name_same k i) ∙ good_name k i below)
        (found_name (names_in (table_names table) k) (distinct_names k) 0 i (omega (arith, many_names k)) ∙ ap Some (omega arith))

    -- the default init list's steps have texts
    defaults_written : (at : Place) (from : Origin) → OfDefaults table (λ (entry : ProcessConfig). entry.core < 256) (IsWritten at from (table_names table))
    defaults_written at from = record {
      created = λ k i below. by_name k i below (λ name. created_written at from (table_names table) k name i);
      placed = λ p entry below small. by_name Process p below (λ name good found. placed_written at from (table_names table) name p entry.core good found small);
      started = λ p below. by_name Process p below (λ name. started_written at from (table_names table) name p);
      normal = normal_written at from (table_names table);
    }

module _ (names : Names) where
  read_written : (at : Place) (from : Origin) (text : List ℕ) (r : Result Step TableFault) → step at from names text ≡ r → IfOk r (IsWritten at from names)
  read_written at from text (Ok given) e = record { text = text; read = e }
  read_written at from text (Err fault) e = tt

  abbrev ScriptWritten : ℕ → List Step → Type 0
  ScriptWritten p steps = AllFrom (λ k s. IsWritten (place sections.Process (p + 1)) (origin.Script p k) names s) 0 steps

  script_written : (p : ℕ) (texts : List (List ℕ)) → IfOk (script (place sections.Process (p + 1)) p names texts) (ScriptWritten p)
  script_written p texts =
      let at : Place = place sections.Process (p + 1) in
      each_from (λ before t. step at (origin.Script p (length before)) names t) (λ k s. IsWritten at (origin.Script p k) names s) (λ t. Unit {0})
      (λ done t _. read_written at (origin.Script p (length done)) t _ refl) [] texts tt (all_any texts)

  entry_written : (before : List ProcessConfig) (draft : ProcessDraft) → IfOk (next_entry names before draft) (λ (entry : ProcessConfig). ScriptWritten (length before) entry.script)
  unfolding next_entry
  entry_written before draft =
      ok_then (script (place sections.Process (length before + 1)) (length before) names draft.script) _ (λ (entry : ProcessConfig). ScriptWritten (length before) entry.script)
      (λ steps e. IfOk-at_ok (ScriptWritten (length before)) e (script_written (length before) draft.script))

  abbrev Written : List ProcessConfig → Type 0
  Written procs = AllFrom (λ p (entry : ProcessConfig). ScriptWritten p entry.script) 0 procs

  scripts_written : (drafts : List ProcessDraft) → IfOk (with_scripts names drafts) Written
  scripts_written drafts =
      each_from (next_entry names) (λ p (entry : ProcessConfig). ScriptWritten p entry.script) (λ d. Unit {0}) (λ done d _. entry_written done d) [] drafts tt (all_any drafts)

  abbrev InitWritten : List Step → Type 0
  InitWritten steps = AllFrom (λ k s. IsWritten (place sections.Init (k + 1)) (origin.Init k) names s) 0 steps

  init_step_written : (at : Place) (from : Origin) (text : List ℕ) → IfOk (init_step at from names text) (IsWritten at from names)
  unfolding init_step
  init_step_written at from text =
      ok_then (step at from names text) _ (IsWritten at from names) (λ s e.
      ok_if (is_init_call s.call) (BadInitStep (of_word at from 0)) s (IsWritten at from names) (λ _. record { text = text; read = e }))

  init_written : (texts : List (List ℕ)) → IfOk (init_steps names texts) InitWritten
  init_written texts =
      each_from (next_init_step names) (λ k s. IsWritten (place sections.Init (k + 1)) (origin.Init k) names s) (λ t. Unit {0})
      (λ done t _. init_step_written (place sections.Init (length done + 1)) (origin.Init (length done)) t) [] texts tt (all_any texts)

module _ (profile : Profile) (cores limit : ℕ) (drafts : List ProcessDraft) (procs : List ProcessConfig) (things : Objects) (steps : List Step) where
  abbrev Whole : Table
  Whole = table_with profile cores limit procs things steps

  -- the names by which steps are read are the table's
  pub same_names : entry_names procs ≡ process_names drafts → names_of drafts things ≡ table_names Whole
  same_names same = ap (λ (names : List (List ℕ)). record (table_names Whole) { processes = names }) (sym same)

  list_written : IsLawful Whole → (texts : Option (List (List ℕ))) → IfOk (init_list (table_names Whole) procs things texts) (InitWritten (table_names Whole))
  list_written lawful (Some texts) = init_written (table_names Whole) texts
  list_written lawful None =
      all_from_any (λ k s. IsWritten (place sections.Init (k + 1)) (origin.Init k) (table_names Whole) s) 0 (default_init procs things)
      (default_steps profile cores limit procs things steps (λ (entry : ProcessConfig). entry.core < 256) (λ s. (k : ℕ) → IsWritten (place sections.Init (k + 1)) (origin.Init k) (table_names Whole) s)
      (record {
        created = λ k i below n. (defaults_written Whole lawful (place sections.Init (n + 1)) (origin.Init n)).created k i below;
        placed = λ p entry below small n. (defaults_written Whole lawful (place sections.Init (n + 1)) (origin.Init n)).placed p entry below small;
        started = λ p below n. (defaults_written Whole lawful (place sections.Init (n + 1)) (origin.Init n)).started p below;
        normal = λ n. (defaults_written Whole lawful (place sections.Init (n + 1)) (origin.Init n)).normal;
      })
      (all_by_place (λ (entry : ProcessConfig). entry.core < 256) no_process procs (λ p below.
      let core : (process_config Whole p).core < cores = (lawful.processes p below).core in
      let few : cores ≤ MOST_CORES = lawful.cores.1 in
      omega arith)))

  have_texts : Written (table_names Whole) procs → InitWritten (table_names Whole) steps → HaveTexts Whole
  have_texts scripts init = record {
    scripts = λ p k within below.
        has_text Whole (place sections.Process (p + 1)) (origin.Script p k) (step_at (process_config Whole p).script k) refl
        (all_from_start (λ k s. IsWritten (place sections.Process (p + 1)) (origin.Script p k) (table_names Whole) s) (process_config Whole p).script
        (all_from_start (λ p (entry : ProcessConfig). ScriptWritten (table_names Whole) p entry.script) procs scripts p no_process within) k no_step below);
    init = λ k below.
        has_text Whole (place sections.Init (k + 1)) (origin.Init k) (step_at steps k) refl
        (all_from_start (λ k s. IsWritten (place sections.Init (k + 1)) (origin.Init k) (table_names Whole) s) steps init k no_step below);
  }

  pub whole_texts : IsLawful Whole → (texts : Option (List (List ℕ))) → with_scripts (names_of drafts things) drafts ≡ Ok procs → init_list (names_of drafts things) procs things texts ≡ Ok steps → HaveTexts Whole
  whole_texts lawful texts ew ei =
      let same : names_of drafts things ≡ table_names Whole =
      same_names (IfOk-at_ok (λ ps. entry_names ps ≡ process_names drafts) ew (with_scripts_names (names_of drafts things) drafts)) in
      have_texts
      (subst (λ names. Written names procs) same (IfOk-at_ok (Written (names_of drafts things)) ew (scripts_written (names_of drafts things) drafts)))
      (IfOk-at_ok (InitWritten (table_names Whole)) (subst (λ names. init_list names procs things texts ≡ Ok steps) same ei) (list_written lawful texts))

steps_texts : (drafted : TableDraft) → IfOk (with_steps drafted) (λ t. IsLawful t → HaveTexts t)
unfolding with_steps
steps_texts drafted =
    let names = names_of drafted.processes drafted.objects in
    ok_then (with_scripts names drafted.processes) _ (λ t. IsLawful t → HaveTexts t) (λ procs ew.
    ok_then (init_list names procs drafted.objects drafted.init) _ (λ t. IsLawful t → HaveTexts t) (λ steps ei lawful.
    whole_texts drafted.head.profile drafted.head.cores drafted.head.limit drafted.processes procs drafted.objects steps lawful drafted.init ew ei))

-- each step of the table with the steps of one that was read has one text
texts_of_draft : (drafted : TableDraft) (t : Table) → IsRead drafted → with_steps drafted ≡ Ok t → HaveTexts t
texts_of_draft drafted t of e = IfOk-at_ok (λ t. IsLawful t → HaveTexts t) e (steps_texts drafted) (lawful_of drafted t of e)

-- and so it is with what a call gives, where it gives that table
pub texts_given : (r : Result Table TableFault) (drafted : TableDraft) → IsRead drafted → Gives (λ (t : Table). t) r (with_steps drafted) → IfOk r HaveTexts
texts_given (Ok t) drafted of given = texts_of_draft drafted t of given
texts_given (Err fault) drafted of given = tt
