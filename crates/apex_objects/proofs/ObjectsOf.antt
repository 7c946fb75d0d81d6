-- The objects of a part of a history, on their way to a writer.
use Rattle.std.proofs.Common.{◌≡◌, ◌∙◌, ℕ, List, [], ◌∷◌, ◌++◌, Option, ap, append-nil, subst, sym}
use Rattle.std.specs.Prelude.{flat_map}
use Rattle.std.proofs.lemmas.List.Concat.{flat_map-append}
use Rattle.apex_history.specs.Counted.{AppendsBeginning}
use Rattle.apex_history.specs.Page.{Passes}
use Rattle.apex_history.proofs.Passing.{beginning_after, beginning_longer, passes_then, passes_with}
use Rattle.apex_machine.specs.table.Table.{Table}
use Rattle.apex_objects.specs.Entries.{entry_object, objects_of}
use Rattle.apex_objects.specs.Terms.{Entry}

-- one entry more
objects_more : (table : Table) (entries : List Entry) (entry : Entry)
    → objects_of table (entries ++ entry ∷ []) ≡ objects_of table entries ++ entry_object table entry
objects_more table entries entry =
    let object = entry_object table in
    flat_map-append object entries (entry ∷ []) ∙ ap (λ l. flat_map object entries ++ l) (append-nil (object entry))

-- those of the first entries, and then those of the others
objects_split : (table : Table) (first others : List Entry) → objects_of table first ++ objects_of table others ≡ objects_of table (first ++ others)
objects_split table first others = sym (flat_map-append (entry_object table) first others)

module _ (a b c : Option (List ℕ)) (table : Table) (first : List Entry) (held : List ℕ) (p : Passes a b (objects_of table first) held) where
  -- behind the objects of the first entries that of the next one is gathered
  pub passes_object : (entry : Entry) (kept : List ℕ) → Passes b c (held ++ entry_object table entry) kept
      → Passes a c (objects_of table (first ++ entry ∷ [])) kept
  passes_object entry kept q =
      rw (objects_more table first entry) (passes_then a b c _ _ kept (passes_with a b _ _ (entry_object table entry) p) q)

  -- a prefix of what is held is behind the rest: a prefix of all objects was written
  pub beginning_of_objects : (others entries : List Entry) → entries ≡ first ++ others → AppendsBeginning b c held
      → AppendsBeginning a c (objects_of table entries)
  beginning_of_objects others entries split h =
      subst (AppendsBeginning a c) (objects_split table first others ∙ sym (ap (objects_of table) split))
      (beginning_longer a c (objects_of table first) (objects_of table others) (beginning_after a b c _ held p h))

-- the same with the object of one more entry
pub beginning_with_object : (a b c : Option (List ℕ)) (table : Table) (first : List Entry) (held : List ℕ) → Passes a b (objects_of table first) held
    → (entry : Entry) (others entries : List Entry) → entries ≡ (first ++ entry ∷ []) ++ others
    → AppendsBeginning b c (held ++ entry_object table entry) → AppendsBeginning a c (objects_of table entries)
beginning_with_object a b c table first held p entry others entries split h =
    let more : Passes a b (objects_of table (first ++ entry ∷ [])) (held ++ entry_object table entry) =
    rw (objects_more table first entry) (passes_with a b (objects_of table first) held (entry_object table entry) p) in
    beginning_of_objects a b c table (first ++ entry ∷ []) (held ++ entry_object table entry) more others entries split h
