-- Each process that is read, with its script still as texts, is in its ranges.
use Rattle.std.proofs.Common.{◌≡◌, ℕ, ◌-◌, ◌<◌, ◌≤◌, Bool, true, false, List, [], ◌∷◌, length, IfOk, IsTrue, refl, arith}
use Rattle.std.proofs.lemmas.Result.{IfOk-at_ok, IfOk-weaker}
use Rattle.toml.specs.Data.{Data, Members}
use Rattle.apex_types.specs.declared.limits.TheConstants.{MOST_PRIORITY, MOST_STEPS}
use Rattle.apex_types.specs.Name.{is_name}
use Rattle.apex_machine.specs.table.Table.{IsSpan}
use Rattle.apex_words.specs.declared.key.Key.TheVariants as key
use Rattle.apex_words.specs.Subjects.{at_key, at_step}
use Rattle.apex_table.specs.Terms.{Place, Profile, Subject}
use Rattle.apex_table.specs.Keys.{text, array_at, at_most, number_at, number_or, span_or_infinite, truth_or, deadline_or_soft}
use Rattle.apex_table.specs.Processes.{ProcessDraft, some_process, texts, some_step, script_at, process, processes}
use Rattle.apex_table.proofs.Results.{ok_then, each_length}
use Rattle.apex_table.proofs.KeyLaws.{number_at_law, number_or_law, span_or_infinite_law, at_most_law}
use Rattle.apex_table.proofs.SectionLaws.{IsRead, ReadsSound}

pub some_process_law : (ps : List ProcessDraft) → IfOk (some_process ps) (λ xs. (ps ≡ xs) × (1 ≤ length xs))
some_process_law [] = tt
some_process_law (p ∷ ps) = (refl, omega arith)

-- a script of at most 64 steps, and of at least one if it begins anew
pub record IsScript {A : Type 0} (loops : Bool) (steps : List A) : Type 0 where
  pub few : length steps ≤ MOST_STEPS
  pub some : loops ≡ true → 1 ≤ length steps

pub same_script : {A B : Type 0} (loops : Bool) (steps : List A) (calls : List B) → length calls ≡ length steps → IsScript loops steps → IsScript loops calls
same_script loops steps calls same h =
    let few : length steps ≤ MOST_STEPS = h.few in
    record { few = omega arith; some = λ e. let some : 1 ≤ length steps = h.some e in omega arith }

some_step_law : (subject : Subject) (loops : Bool) (ds : List Data) → length ds ≤ MOST_STEPS → IfOk (some_step subject loops ds) (IsScript loops)
some_step_law subject true [] few = tt
some_step_law subject true (d ∷ ds) few = record { few = few; some = λ _. omega arith }
some_step_law subject false ds few = record { few = few; some = λ e. cc }

script_at_law : (at : Place) (loops : Bool) (ms : Members) → IfOk (script_at at loops ms) (IsScript loops)
unfolding script_at
script_at_law at loops ms =
    let here : Subject = at_key at key.Script in
    ok_then (array_at at key.Script ms) _ (IsScript loops) (λ ds _.
    ok_then (at_most here MOST_STEPS ds) _ (IsScript loops) (λ few e.
    ok_then (some_step here loops few) _ (IsScript loops) (λ some es.
    let bound : length few ≤ MOST_STEPS = IfOk-at_ok (λ xs. length xs ≤ MOST_STEPS) e (at_most_law here MOST_STEPS ds) in
    let steps : IsScript loops some = IfOk-at_ok (IsScript loops) es (some_step_law here loops few bound) in
    IfOk-weaker (texts at some) _ _ (λ ts h. same_script loops some ts (omega arith) steps) (each_length (λ before d. text (at_step at (length before)) d) [] some))))

-- the facts about a process whose script is still text
pub record IsSoundDraft (cores : ℕ) (draft : ProcessDraft) : Type 0 where
  pub name : IsTrue (is_name draft.name)
  pub priority : (1 ≤ draft.attributes.priority) × (draft.attributes.priority ≤ MOST_PRIORITY)
  pub core : draft.core < cores
  pub period : IsSpan draft.attributes.period
  pub capacity : IsSpan draft.attributes.capacity
  pub script : IsScript draft.loops draft.script

pub process_law : (profile : Profile) (cores : ℕ) → 1 ≤ cores → ReadsSound (processes profile cores) (IsSoundDraft cores)
unfolding process
process_law profile cores some at name ms good =
    let Read : ProcessDraft → Type 0 = IsRead (processes profile cores) (IsSoundDraft cores) name in
    ok_then (number_at at 1 MOST_PRIORITY key.Priority ms) _ Read (λ priority ep.
    ok_then (number_or at 0 0 (cores - 1) key.Core ms) _ Read (λ core ec.
    ok_then (span_or_infinite at key.Period ms) _ Read (λ period et.
    ok_then (span_or_infinite at key.Capacity ms) _ Read (λ capacity eb.
    ok_then (deadline_or_soft at ms) _ Read (λ deadline _.
    ok_then (truth_or at false key.Loop ms) _ Read (λ loops _.
    ok_then (truth_or at false key.Start ms) _ Read (λ start _.
    ok_then (script_at at loops ms) _ Read (λ script es.
    let in_cores : (0 ≤ core) × (core ≤ cores - 1) = IfOk-at_ok (λ n. (0 ≤ n) × (n ≤ cores - 1)) ec (number_or_law at 0 0 (cores - 1) key.Core ms (omega arith, omega arith)) in
    record {
      sound = record {
        name = good;
        priority = IfOk-at_ok (λ n. (1 ≤ n) × (n ≤ MOST_PRIORITY)) ep (number_at_law at 1 MOST_PRIORITY key.Priority ms);
        core = omega arith;
        period = IfOk-at_ok IsSpan et (span_or_infinite_law at key.Period ms);
        capacity = IfOk-at_ok IsSpan eb (span_or_infinite_law at key.Capacity ms);
        script = IfOk-at_ok (IsScript loops) es (script_at_law at loops ms);
      };
      named = refl;
    }))))))))
