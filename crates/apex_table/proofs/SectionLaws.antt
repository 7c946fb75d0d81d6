-- A section has no more entries than its kind may have; each is sound, and their names differ.
use Rattle.std.proofs.Common.{◌≡◌, ℕ, ◌+◌, ◌≤◌, List, [], ◌∷◌, ◌++◌, length, map, Option, IfOk, IsTrue, sym, subst, arith}
use Rattle.std.specs.List.{AllByRecursion, IsDistinct}
use Rattle.std.specs.Str.{bytes_eq}
use Rattle.std.proofs.lemmas.Cmp.{nat_list_eq_equiv}
use Rattle.std.proofs.lemmas.List.{map-append}
use Rattle.std.proofs.lemmas.Map.Keys.{IsDistinct-push}
use Rattle.std.proofs.lemmas.Result.{IfOk-at_ok, IfOk-weaker}
use Rattle.toml.specs.Data.{Data, Members}
use Rattle.apex_types.specs.Name.{is_name}
use Rattle.apex_table.specs.Terms.{Place}
use Rattle.apex_words.specs.declared.key.Key.TheVariants.{Entries}
use Rattle.apex_words.specs.Subjects.{whole}
use Rattle.apex_words.specs.Outcome.{each, place}
use Rattle.apex_table.specs.Keys.{value_at, known, table, array, name_at}
use Rattle.apex_table.specs.Sections.{SectionHead, EntryKind, tables, entry, next_entry, section}
use Rattle.apex_table.proofs.Results.{ok_then, both_ok, each_keeps, each_length, all_push}
use Rattle.apex_table.proofs.KeyLaws.{optional_law, at_most_law, IsNew, name_law}

tables_law : (head : SectionHead) (o : Option Data) → IfOk (tables head o) (λ ds. length ds ≤ head.most)
tables_law head =
    optional_law [] _ (λ ds. length ds ≤ head.most) (omega arith) (λ d.
    ok_then (array (whole (place head.section 0)) d) _ (λ ds. length ds ≤ head.most) (λ ds _. at_most_law (whole (place head.section 0)) head.most ds))

section_few : {A : Type 0} (kind : EntryKind A) (top : Members) → IfOk (section kind top) (λ xs. length xs ≤ kind.head.most)
unfolding section
section_few kind top =
    let given : Option Data = value_at (Entries kind.head.section) top in
    ok_then (tables kind.head given) _ (λ xs. length xs ≤ kind.head.most) (λ ds e.
    let few : length ds ≤ kind.head.most = IfOk-at_ok (λ ds. length ds ≤ kind.head.most) e (tables_law kind.head given) in
    IfOk-weaker (each (next_entry kind) [] ds) _ _ (λ xs h. omega arith) (each_length (next_entry kind) [] ds))

-- an entry is sound and has the name that was read
pub record IsRead {A : Type 0} (kind : EntryKind A) (IsSound : A → Type 0) (name : List ℕ) (x : A) : Type 0 where
  pub sound : IsSound x
  pub named : kind.name_of x ≡ name

-- an entry that is read with a well-formed name is sound
abbrev pub ReadsSound : {A : Type 0} → EntryKind A → (A → Type 0) → Type 0
ReadsSound kind IsSound = (at : Place) (name : List ℕ) (ms : Members) → IsTrue (is_name name) → IfOk (kind.read at name ms) (IsRead kind IsSound name)

-- the entries are sound, and their names differ
pub record AreSound {A : Type 0} (kind : EntryKind A) (IsSound : A → Type 0) (xs : List A) : Type 0 where
  pub each : AllByRecursion IsSound xs
  pub distinct : IsDistinct bytes_eq (map kind.name_of xs)

-- the facts about a section that is read
pub record IsSection {A : Type 0} (kind : EntryKind A) (IsSound : A → Type 0) (xs : List A) : Type 0 where
  pub few : length xs ≤ kind.head.most
  pub all : AreSound kind IsSound xs

no_entry : {A : Type 0} (kind : EntryKind A) (IsSound : A → Type 0) → AreSound kind IsSound []
unfolding IsDistinct
no_entry kind IsSound = record { each = tt; distinct = tt }

module _ {A : Type 0} (kind : EntryKind A) (IsSound : A → Type 0) (reads : ReadsSound kind IsSound) where
  next_entry_law : (before : List A) (d : Data) → AreSound kind IsSound before → IfOk (next_entry kind before d) (λ x. AreSound kind IsSound (before ++ x ∷ []))
  unfolding entry
  next_entry_law before d all =
      let at : Place = place kind.head.section (length before + 1) in
      let taken : List (List ℕ) = map kind.name_of before in
      let Sound : A → Type 0 = λ x. AreSound kind IsSound (before ++ x ∷ []) in
      ok_then (table (whole at) d) _ Sound (λ t _.
      ok_then (known at kind.head.keys t) _ Sound (λ ms _.
      ok_then (name_at at taken ms) _ Sound (λ name e.
      let new : IsNew taken name = IfOk-at_ok (IsNew taken) e (name_law at taken ms) in
      IfOk-weaker (kind.read at name ms) (IsRead kind IsSound name) _ (λ x h. record {
        each = all_push IsSound before x all.each h.sound;
        distinct = subst (IsDistinct bytes_eq) (sym (map-append kind.name_of before (x ∷ [])))
            (IsDistinct-push nat_list_eq_equiv taken (kind.name_of x) all.distinct (rw h.named new.new));
      }) (reads at name ms new.good))))

  section_sound : (top : Members) → IfOk (section kind top) (AreSound kind IsSound)
  unfolding section
  section_sound top =
      ok_then (tables kind.head (value_at (Entries kind.head.section) top)) _ (AreSound kind IsSound) (λ ds e.
      each_keeps (next_entry kind) (AreSound kind IsSound) next_entry_law [] ds (no_entry kind IsSound))

  pub section_law : (top : Members) → IfOk (section kind top) (IsSection kind IsSound)
  section_law top =
      both_ok (section kind top) _ _ (λ xs few all. record { few = few; all = all }) (section_few kind top) (section_sound top)
