-- The text at a place of the texts of a table's scripts.
use Rattle.std.proofs.Common.{◌≡◌, ℕ, zero, suc, slice_index_or, List, [], ◌∷◌, map, option_map, refl, sym, ap, ◌∙◌}
use Rattle.std.specs.List.{slice_get}
use Rattle.std.proofs.lemmas.Option.{slice_get-map}
use Rattle.apex_machine.specs.table.Table.{Table, ProcessConfig, Step, no_process, process_config}
use Rattle.apex_calls.specs.CallText.{call_text}
use Rattle.apex_configs.specs.Texts.{script_texts}

-- the name of the entry at a place; past the end it is empty
pub name_anywhere : {E N : Type 0} (name : E → List N) (default : E) → name default ≡ [] → (entries : List E) (i : ℕ) → slice_index_or (map name entries) i [] ≡ name (slice_index_or entries i default)
name_anywhere name default bare [] i = sym bare
name_anywhere name default bare (e ∷ entries) zero = refl
name_anywhere name default bare (e ∷ entries) (suc i) = name_anywhere name default bare entries i

-- the text at a place is that of the step there
pub text_at : (table : Table) (texts : List (List (List ℕ))) → texts ≡ script_texts table → (p k : ℕ) → slice_get (slice_index_or texts p []) k ≡ option_map (λ (s : Step). call_text table s.call) (slice_get (process_config table p).script k)
text_at table texts kept p k =
    ap (λ ts. slice_get (slice_index_or ts p []) k) kept
    ∙ ap (λ ts. slice_get ts k) (name_anywhere (λ (entry : ProcessConfig). map (λ (s : Step). call_text table s.call) entry.script) no_process refl table.processes p)
    ∙ slice_get-map (λ (s : Step). call_text table s.call) (process_config table p).script k
