-- Each process keeps the parts that were read, and the steps of its script are lawful.
use Rattle.std.proofs.Common.{◌≡◌, ℕ, ◌+◌, List, [], length, map, IfOk, refl}
use Rattle.std.specs.List.{AllByRecursion}
use Rattle.std.proofs.lemmas.Result.{IfOk-at_ok}
use Rattle.apex_machine.specs.table.Table.{ProcessConfig, Table, IsLawfulProcess, IsLawfulStep, no_step}
use Rattle.apex_types.specs.declared.calls.Origin.TheVariants.{Script}
use Rattle.apex_words.specs.declared.fault.Section.TheVariants.{Process}
use Rattle.apex_words.specs.Outcome.{place}
use Rattle.apex_table.specs.Names.{Names}
use Rattle.apex_table.specs.Processes.{ProcessDraft, process_names}
use Rattle.apex_table.specs.Scripts.{script, next_entry, with_scripts}
use Rattle.apex_table.proofs.Results.{ok_then, AllFrom, all_from_start, each_from, each_map}
use Rattle.apex_table.proofs.ProcessLaws.{IsScript, same_script, IsSoundDraft}
use Rattle.apex_table.proofs.StepLaws.{AreNamesOf, script_law, script_length}

module _ (table : Table) (names : Names) (same : AreNamesOf table names) where
  next_entry_law : (before : List ProcessConfig) (draft : ProcessDraft) → IsSoundDraft table.cores draft → IfOk (next_entry names before draft) (IsLawfulProcess table (length before))
  unfolding next_entry
  next_entry_law before draft sound =
      let at = place Process (length before + 1) in
      let p = length before in
      ok_then (script at p names draft.script) _ (IsLawfulProcess table p) (λ steps e.
      let count : length steps ≡ length draft.script = IfOk-at_ok (λ steps. length steps ≡ length draft.script) e (script_length at names p draft.script) in
      let kept : IsScript draft.loops steps = same_script draft.loops draft.script steps count sound.script in
      let lawful : AllFrom (λ k step. IsLawfulStep table (Script p k) step) 0 steps = IfOk-at_ok (AllFrom (λ k step. IsLawfulStep table (Script p k) step) 0) e (script_law table names same at p draft.script) in
      record {
        name = sound.name;
        priority = sound.priority;
        core = sound.core;
        period = sound.period;
        capacity = sound.capacity;
        steps = kept.few;
        looping = kept.some;
        script = λ k below. all_from_start (λ k step. IsLawfulStep table (Script p k) step) steps lawful k no_step below;
      })

  pub with_scripts_law : (drafts : List ProcessDraft) → AllByRecursion (IsSoundDraft table.cores) drafts → IfOk (with_scripts names drafts) (AllFrom (IsLawfulProcess table) 0)
  with_scripts_law drafts sound =
      each_from (next_entry names) (IsLawfulProcess table) (IsSoundDraft table.cores) next_entry_law [] drafts tt sound

next_entry_name : (names : Names) (before : List ProcessConfig) (draft : ProcessDraft) → IfOk (next_entry names before draft) (λ entry. entry.name ≡ draft.name)
unfolding next_entry
next_entry_name names before draft =
    ok_then (script (place Process (length before + 1)) (length before) names draft.script) _ (λ entry. entry.name ≡ draft.name) (λ steps e. refl)

-- the names of processes that have their steps
abbrev pub entry_names : List ProcessConfig → List (List ℕ)
entry_names processes = map (λ (p : ProcessConfig). p.name) processes

-- the processes with their steps have the names of the drafts
pub with_scripts_names : (names : Names) (drafts : List ProcessDraft) → IfOk (with_scripts names drafts) (λ procs. entry_names procs ≡ process_names drafts)
with_scripts_names names drafts =
    each_map (next_entry names) (λ (e : ProcessConfig). e.name) (λ (p : ProcessDraft). p.name) (next_entry_name names) [] drafts
