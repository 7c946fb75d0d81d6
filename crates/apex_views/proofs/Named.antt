-- The places of the processes that are named, name by name.
use Rattle.std.proofs.Common.{◌≡◌, ◌∙◌, ℕ, ◌+◌, ◌<◌, List, [], ◌∷◌, ◌++◌, Option, Some, Result, Ok, Err, ap, append_assoc, drop, length, refl, sym}
use Rattle.std.proofs.lemmas.List.{drop_more}
use Rattle.std.specs.Prelude.{slice_index_or}
use Rattle.apex_machine.specs.table.Table.{Table}
use Rattle.apex_names.specs.Processes.{place_of}
use Rattle.apex_views.specs.Rows.{places_named, with_place}

-- places with these before them
abbrev pub behind : List ℕ → Result (List ℕ) (List ℕ) → Result (List ℕ) (List ℕ)
behind before (Ok places) = Ok (before ++ places)
behind before (Err name) = Err name

behind_more : (before after : List ℕ) (name : List ℕ) (p : ℕ) (others : Result (List ℕ) (List ℕ)) → after ≡ before ++ p ∷ []
    → behind before (with_place name (Some p) others) ≡ behind after others
behind_more before after name p (Ok places) is =
    ap Ok (sym (ap (λ (l : List ℕ). l ++ places) is ∙ append_assoc before (p ∷ []) places))
behind_more before after name p (Err other) is = refl

-- the next name is a process's
pub place_put : (table : Table) (names : List (List ℕ)) (i : ℕ) (name : List ℕ) → i < length names → name ≡ slice_index_or names i name
    → (before after : List ℕ) (p : ℕ) → Some p ≡ place_of table name → after ≡ before ++ p ∷ []
    → behind before (places_named table (drop i names)) ≡ behind after (places_named table (drop (i + 1) names))
place_put table names i name within here before after p found is =
    let others = places_named table (drop (i + 1) names) in
    let next : places_named table (drop i names) ≡ with_place name (place_of table name) others =
    ap (places_named table) (drop_more names i name within ∙ ap (λ (n : List ℕ). n ∷ drop (i + 1) names) (sym here)) in
    ap (behind before) (next ∙ ap (λ (q : Option ℕ). with_place name q others) (sym found)) ∙ behind_more before after name p others is
