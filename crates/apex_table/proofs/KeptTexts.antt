-- The texts of the scripts that are read are those of the table's steps.
use Rattle.std.proofs.Common.{◌≡◌, ℕ, suc, ◌+◌, ◌<◌, slice_index_or, List, [], ◌∷◌, length, map, Option, Ok, IfOk, option_map, refl, sym, ap, subst, ◌∙◌, arith}
use Rattle.std.specs.List.{slice_get}
use Rattle.std.proofs.lemmas.List.{map-id}
use Rattle.std.proofs.lemmas.Option.{slice_get-map}
use Rattle.std.proofs.lemmas.Result.{IfOk-at_ok, IfOk-weaker}
use Rattle.apex_machine.specs.table.Table.{Table, ProcessConfig, Step, no_process, no_step, process_config, step_at, IsLawful}
use Rattle.apex_types.specs.declared.calls.Origin.TheVariants as origin
use Rattle.apex_calls.specs.CallText.{call_text, call_words, spaced}
use Rattle.apex_words.specs.declared.fault.Section.TheVariants as sections
use Rattle.apex_table.specs.Terms.{Origin, Place, Profile}
use Rattle.apex_words.specs.Outcome.{place}
use Rattle.apex_table.specs.Processes.{ProcessDraft, process_names}
use Rattle.apex_configs.specs.Objects.{Objects}
use Rattle.apex_table.specs.Names.{Names, names_of}
use Rattle.apex_table.specs.Steps.{step}
use Rattle.apex_table.specs.Scripts.{script, next_entry, with_scripts}
use Rattle.apex_table.specs.Init.{init_list}
use Rattle.apex_configs.specs.Tables.{table_with}
use Rattle.apex_configs.specs.Texts.{script_texts}
use Rattle.apex_table.specs.StepTexts.{table_names, HaveTexts}
use Rattle.apex_table.proofs.Results.{ok_then, each_map}
use Rattle.apex_table.proofs.Slots.{name_at}
use Rattle.apex_table.proofs.StepLaws.{AreNamesOf, text_law}
use Rattle.apex_table.proofs.ScriptLaws.{entry_names, with_scripts_names}
use Rattle.apex_configs.proofs.KeptTexts.{name_anywhere}
use Rattle.apex_table.proofs.TextLaws.{own_names, same_names, whole_texts}

-- two functions that agree on each element
map_same : {A B : Type 0} (f g : A → B) (default : A) (xs : List A) → ((k : ℕ) → k < length xs → f (slice_index_or xs k default) ≡ g (slice_index_or xs k default)) → map f xs ≡ map g xs
map_same f g default [] same = refl
map_same f g default (x ∷ xs) same =
    ap (λ y. y ∷ map f xs) (same 0 (omega arith)) ∙ ap (λ ys. g x ∷ ys) (map_same f g default xs (λ k below. same (suc k) (omega (arith, below))))

module _ (table : Table) (names : Names) (e : names ≡ table_names table) where
  -- the text of a step, by its own literal
  abbrev own_text : Step → List ℕ
  own_text s = spaced (call_words (name_at names) (λ _. s.literal) s.call)

  step_kept : (at : Place) (from : Origin) (text : List ℕ) → IfOk (step at from names text) (λ s. own_text s ≡ text)
  step_kept at from text =
      IfOk-weaker (step at from names text) _ _ (λ s h. h (λ _. s.literal) refl) (text_law at from names table (subst (AreNamesOf table) (sym e) (own_names table)) text)

  script_kept : (at : Place) (p : ℕ) (texts : List (List ℕ)) → IfOk (script at p names texts) (λ steps. map own_text steps ≡ texts)
  script_kept at p texts =
      IfOk-weaker (script at p names texts) _ _ (λ steps h. h ∙ map-id texts)
      (each_map (λ before t. step at (origin.Script p (length before)) names t) own_text (λ t. t) (λ done t. step_kept at (origin.Script p (length done)) t) [] texts)

  entry_kept : (before : List ProcessConfig) (draft : ProcessDraft) → IfOk (next_entry names before draft) (λ (entry : ProcessConfig). map own_text entry.script ≡ draft.script)
  unfolding next_entry
  entry_kept before draft =
      let at : Place = place sections.Process (length before + 1) in
      ok_then (script at (length before) names draft.script) _ (λ (entry : ProcessConfig). map own_text entry.script ≡ draft.script)
      (λ steps read. IfOk-at_ok (λ steps. map own_text steps ≡ draft.script) read (script_kept at (length before) draft.script))

  scripts_kept : (drafts : List ProcessDraft) → IfOk (with_scripts names drafts) (λ procs. map (λ (entry : ProcessConfig). map own_text entry.script) procs ≡ map (λ (d : ProcessDraft). d.script) drafts)
  scripts_kept drafts = each_map (next_entry names) (λ (entry : ProcessConfig). map own_text entry.script) (λ (d : ProcessDraft). d.script) entry_kept [] drafts

  -- by its own literal a step has the text that it has in the table
  own_same : HaveTexts table → (p k : ℕ) → p < length table.processes → k < length (process_config table p).script → own_text (step_at (process_config table p).script k) ≡ call_text table (step_at (process_config table p).script k).call
  own_same have p k within below =
      IfOk-at_ok (λ s. own_text s ≡ call_text table (step_at (process_config table p).script k).call)
      (subst (λ ns. step (place sections.Process (p + 1)) (origin.Script p k) ns (call_text table (step_at (process_config table p).script k).call) ≡ Ok (step_at (process_config table p).script k)) (sym e)
      (have.scripts p k within below).read)
      (step_kept (place sections.Process (p + 1)) (origin.Script p k) (call_text table (step_at (process_config table p).script k).call))

  own_texts : HaveTexts table → map (λ (entry : ProcessConfig). map own_text entry.script) table.processes ≡ script_texts table
  own_texts have =
      map_same (λ (entry : ProcessConfig). map own_text entry.script) (λ (entry : ProcessConfig). map (λ (s : Step). call_text table s.call) entry.script) no_process table.processes
      (λ p within. map_same own_text (λ (s : Step). call_text table s.call) no_step (process_config table p).script (λ k below. own_same have p k within below))

-- the drafts' texts are those of the table's steps
pub kept_texts : (profile : Profile) (cores limit : ℕ) (drafts : List ProcessDraft) (procs : List ProcessConfig) (things : Objects) (steps : List Step) (texts : Option (List (List ℕ))) → IsLawful (table_with profile cores limit procs things steps) → with_scripts (names_of drafts things) drafts ≡ Ok procs → init_list (names_of drafts things) procs things texts ≡ Ok steps → map (λ (d : ProcessDraft). d.script) drafts ≡ script_texts (table_with profile cores limit procs things steps)
kept_texts profile cores limit drafts procs things steps texts lawful ew ei =
    let whole : Table = table_with profile cores limit procs things steps in
    let names : names_of drafts things ≡ table_names whole =
    same_names profile cores limit drafts procs things steps (IfOk-at_ok (λ ps. entry_names ps ≡ process_names drafts) ew (with_scripts_names (names_of drafts things) drafts)) in
    sym (IfOk-at_ok (λ (ps : List ProcessConfig). map (λ (entry : ProcessConfig). map (own_text whole (names_of drafts things) names) entry.script) ps ≡ map (λ (d : ProcessDraft). d.script) drafts) ew
    (scripts_kept whole (names_of drafts things) names drafts))
    ∙ own_texts whole (names_of drafts things) names (whole_texts profile cores limit drafts procs things steps lawful texts ew ei)
