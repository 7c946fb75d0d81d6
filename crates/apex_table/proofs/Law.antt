-- A table that is read is lawful.
use Rattle.std.proofs.Common.{◌≡◌, ℕ, ◌<◌, ◌≤◌, List, length, Ok, IfOk, sym, ap, subst, arith}
use Rattle.std.specs.List.{AllByRecursion, IsDistinct}
use Rattle.std.specs.Str.{bytes_eq}
use Rattle.std.proofs.lemmas.List.{length-map}
use Rattle.std.proofs.lemmas.List.Elements.{All-from_recursion}
use Rattle.std.proofs.lemmas.Result.{IfOk-at_ok}
use Rattle.toml.specs.Data.{Members}
use Rattle.apex_machine.specs.table.Profiles.{processes_of, profile_of}
use Rattle.apex_machine.proofs.BothProfiles.{few_processes}
use Rattle.apex_types.specs.declared.limits.TheConstants.{MOST_CORES, MOST_ENTRIES, MOST_PROFILE, USUAL_ENTRIES}
use Rattle.apex_machine.specs.table.Table.{Table, ProcessConfig, SemaphoreConfig, BufferConfig, BlackboardConfig, EventFlagConfig, MutexConfig, no_process, no_semaphore, no_buffer, no_blackboard, no_event_flag, no_mutex, Step, no_step, IsLawfulStep, IsLawfulProcess, IsLawfulSemaphore, IsLawfulBuffer, IsLawfulBlackboard, IsLawfulEventFlag, IsLawfulMutex, IsLawful}
use Rattle.apex_types.specs.declared.calls.Origin.TheVariants as origin
use Rattle.apex_table.specs.Terms.{Profile}
use Rattle.apex_words.specs.declared.fault.Section.TheVariants.{Top, Init}
use Rattle.apex_words.specs.declared.key.Key.TheVariants as key
use Rattle.apex_words.specs.Outcome.{place}
use Rattle.apex_table.specs.Keys.{known, number_at, number_or, value_at}
use Rattle.apex_table.specs.Processes.{ProcessDraft, process_names, some_process, processes}
use Rattle.apex_table.specs.Sections.{section}
use Rattle.apex_configs.specs.Objects.{Objects}
use Rattle.apex_table.specs.Objects.{objects}
use Rattle.apex_table.specs.Names.{names_of}
use Rattle.apex_table.specs.Scripts.{with_scripts}
use Rattle.apex_table.specs.Init.{init_texts, init_list}
use Rattle.apex_configs.specs.Tables.{table_with}
use Rattle.apex_table.specs.declared.reading.Head.{Head}
use Rattle.apex_table.specs.Reading.{top_keys, TableDraft, IsRead, head, draft, with_steps}
use Rattle.apex_table.proofs.Results.{ok_then, AllFrom, all_by_place, all_from_start}
use Rattle.apex_table.proofs.KeyLaws.{number_at_law, number_or_law}
use Rattle.apex_table.proofs.ProcessLaws.{some_process_law, IsSoundDraft, process_law}
use Rattle.apex_table.proofs.SectionLaws.{IsSection, section_law}
use Rattle.apex_table.proofs.ObjectLaws.{AreLawful, objects_law}
use Rattle.apex_table.proofs.StepLaws.{AreNamesOf}
use Rattle.apex_table.proofs.ScriptLaws.{entry_names, with_scripts_law, with_scripts_names}
use Rattle.apex_table.proofs.InitLaws.{AreFew, init_texts_law, IsInitList, init_list_law}

-- the parts of a table that were read
module _ (profile : Profile) (cores limit : ℕ) (drafts : List ProcessDraft) (procs : List ProcessConfig) (things : Objects) (steps : List Step) where
  abbrev Whole : Table
  Whole = table_with profile cores limit procs things steps

  names_law : entry_names procs ≡ process_names drafts → AreNamesOf Whole (names_of drafts things)
  names_law same =
      let kept : length (entry_names procs) ≡ length (process_names drafts) = ap length same in
      let processes : length (entry_names procs) ≡ length procs = length-map procs (λ (e : ProcessConfig). e.name) in
      record {
        processes = omega arith;
        semaphores = length-map things.semaphores (λ (s : SemaphoreConfig). s.name);
        buffers = length-map things.buffers (λ (b : BufferConfig). b.name);
        blackboards = length-map things.blackboards (λ (b : BlackboardConfig). b.name);
        event_flags = length-map things.event_flags (λ (e : EventFlagConfig). e.name);
        mutexes = length-map things.mutexes (λ (m : MutexConfig). m.name);
      }

  lawful : (1 ≤ cores) × (cores ≤ MOST_CORES) → (1 ≤ limit) × (limit ≤ MOST_ENTRIES) → (1 ≤ length procs) × (length procs ≤ processes_of profile) → IsDistinct bytes_eq (entry_names procs) → AllFrom (IsLawfulProcess Whole) 0 procs → AreLawful things → IsInitList Whole steps → IsLawful Whole
  lawful in_cores in_limit count distinct each sound init = record {
    cores = in_cores;
    limit = in_limit;
    process_count = count;
    semaphore_count = sound.semaphores.few;
    buffer_count = sound.buffers.few;
    blackboard_count = sound.blackboards.few;
    event_flag_count = sound.event_flags.few;
    mutex_count = sound.mutexes.few;
    init_count = init.few;
    processes = λ p below. all_from_start (IsLawfulProcess Whole) procs each p no_process below;
    semaphores = λ s below. All-from_recursion IsLawfulSemaphore things.semaphores sound.semaphores.all.each s no_semaphore below;
    buffers = λ b below. All-from_recursion IsLawfulBuffer things.buffers sound.buffers.all.each b no_buffer below;
    blackboards = λ b below. All-from_recursion IsLawfulBlackboard things.blackboards sound.blackboards.all.each b no_blackboard below;
    event_flags = λ e below. All-from_recursion IsLawfulEventFlag things.event_flags sound.event_flags.all.each e no_event_flag below;
    mutexes = λ m below. All-from_recursion IsLawfulMutex things.mutexes sound.mutexes.all.each m no_mutex below;
    init = λ k below. all_from_start (λ k step. IsLawfulStep Whole (origin.Init k) step) steps init.lawful k no_step below;
    process_names = distinct;
    semaphore_names = sound.semaphores.all.distinct;
    buffer_names = sound.buffers.all.distinct;
    blackboard_names = sound.blackboards.all.distinct;
    event_flag_names = sound.event_flags.all.distinct;
    mutex_names = sound.mutexes.all.distinct;
  }

-- the facts about the head of a table
pub record IsSoundHead (top : Head) : Type 0 where
  pub cores : (1 ≤ top.cores) × (top.cores ≤ MOST_CORES)
  pub limit : (1 ≤ top.limit) × (top.limit ≤ MOST_ENTRIES)

head_law : (tree : Members) → IfOk (head tree) IsSoundHead
unfolding head
head_law tree =
    ok_then (known (place Top 0) top_keys tree) _ IsSoundHead (λ ms _.
    ok_then (number_or (place Top 0) 1 1 MOST_PROFILE key.Profile ms) _ IsSoundHead (λ number _.
    ok_then (number_at (place Top 0) 1 MOST_CORES key.Cores ms) _ IsSoundHead (λ cores ec.
    ok_then (number_or (place Top 0) USUAL_ENTRIES 1 MOST_ENTRIES key.History ms) _ IsSoundHead (λ limit el.
    record {
      cores = IfOk-at_ok (λ n. (1 ≤ n) × (n ≤ MOST_CORES)) ec (number_at_law (place Top 0) 1 MOST_CORES key.Cores ms);
      limit = IfOk-at_ok (λ n. (1 ≤ n) × (n ≤ MOST_ENTRIES)) el (number_or_law (place Top 0) USUAL_ENTRIES 1 MOST_ENTRIES key.History ms (omega arith, omega arith));
    }))))

-- the facts about a table whose steps are still texts
pub record IsSoundTable (drafted : TableDraft) : Type 0 where
  pub head : IsSoundHead drafted.head
  pub processes :
      IsSection (processes drafted.head.profile drafted.head.cores) (IsSoundDraft drafted.head.cores) drafted.processes
  pub some : 1 ≤ length drafted.processes
  pub objects : AreLawful drafted.objects
  pub init : AreFew drafted.init

draft_law : (tree : Members) → IfOk (draft tree) IsSoundTable
unfolding draft
draft_law tree =
    ok_then (head tree) _ IsSoundTable (λ top et.
    ok_then (section (processes top.profile top.cores) tree) _ IsSoundTable (λ read ep.
    ok_then (some_process read) _ IsSoundTable (λ drafts es.
    ok_then (objects tree) _ IsSoundTable (λ things eo.
    ok_then (init_texts (value_at (key.Entries Init) tree)) _ IsSoundTable (λ texts ei.
    let profile = top.profile in
    let cores = top.cores in
    let sound : IsSoundHead top = IfOk-at_ok IsSoundHead et (head_law tree) in
    let some : (read ≡ drafts) × (1 ≤ length drafts) = IfOk-at_ok (λ (xs : List ProcessDraft). (read ≡ xs) × (1 ≤ length xs)) es (some_process_law read) in
    record {
      head = sound;
      processes =
          subst (IsSection (processes profile cores) (IsSoundDraft cores)) some.0
          (IfOk-at_ok (IsSection (processes profile cores) (IsSoundDraft cores)) ep (section_law (processes profile cores) (IsSoundDraft cores) (process_law profile cores sound.cores.0) tree));
      some = some.1;
      objects = IfOk-at_ok AreLawful eo (objects_law tree);
      init = IfOk-at_ok AreFew ei (init_texts_law (value_at (key.Entries Init) tree));
    })))))

with_steps_law : (drafted : TableDraft) → IsSoundTable drafted → IfOk (with_steps drafted) IsLawful
unfolding with_steps
with_steps_law drafted sound =
    let cores = drafted.head.cores in
    let limit = drafted.head.limit in
    let drafts = drafted.processes in
    let things = drafted.objects in
    ok_then (with_scripts (names_of drafts things) drafts) _ IsLawful (λ procs ew.
    ok_then (init_list (names_of drafts things) procs things drafted.init) _ IsLawful (λ steps ei.
    let profile = drafted.head.profile in
    let whole : Table = table_with profile cores limit procs things steps in
    let few : length drafts ≤ processes_of profile = sound.processes.few in
    let some : 1 ≤ length drafts = sound.some in
    let fewer = few_processes profile in
    let same : entry_names procs ≡ process_names drafts = IfOk-at_ok (λ ps. entry_names ps ≡ process_names drafts) ew (with_scripts_names (names_of drafts things) drafts) in
    let names : AreNamesOf whole (names_of drafts things) = names_law profile cores limit drafts procs things steps same in
    let kept : length (entry_names procs) ≡ length (process_names drafts) = ap length same in
    let procs_count : length (entry_names procs) ≡ length procs = length-map procs (λ (e : ProcessConfig). e.name) in
    let drafts_count : length (process_names drafts) ≡ length drafts = length-map drafts (λ (p : ProcessDraft). p.name) in
    let each : AllFrom (IsLawfulProcess whole) 0 procs = IfOk-at_ok (AllFrom (IsLawfulProcess whole) 0) ew (with_scripts_law whole (names_of drafts things) names drafts sound.processes.all.each) in
    let small : AllByRecursion (λ (entry : ProcessConfig). entry.core < 256) procs =
    all_by_place (λ (entry : ProcessConfig). entry.core < 256) no_process procs (λ p below.
    let core = (all_from_start (IsLawfulProcess whole) procs each p no_process below).core in
    let most : cores ≤ MOST_CORES = sound.head.cores.1 in
    omega (arith, core, most)) in
    let init : IsInitList whole steps = IfOk-at_ok (IsInitList whole) ei (init_list_law profile cores limit procs things steps (names_of drafts things) names (omega arith) small sound.objects drafted.init sound.init) in
    lawful profile cores limit drafts procs things steps sound.head.cores sound.head.limit (omega arith, omega arith)
    (subst (λ (ns : List (List ℕ)). IsDistinct bytes_eq ns) (sym same) sound.processes.all.distinct) each sound.objects init))

-- the table with the steps of one that was read is lawful
pub lawful_of : (drafted : TableDraft) (t : Table) → IsRead drafted → with_steps drafted ≡ Ok t → IsLawful t
lawful_of drafted t of e =
    IfOk-at_ok IsLawful e (with_steps_law drafted (IfOk-at_ok IsSoundTable of.read (draft_law of.tree)))
