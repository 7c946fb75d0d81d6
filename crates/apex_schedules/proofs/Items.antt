-- The items of words, one word at a time.
use Rattle.std.proofs.Common.{◌≡◌, refl, List, [], ◌∷◌, ◌++◌, Option, Some, None, ℕ, map, append_assoc}
use Rattle.std.specs.Prelude.{option_map}
use Rattle.apex_schedules.specs.declared.schedule.Item.{Item}
use Rattle.apex_schedules.specs.Schedule.{all_some, item_of}

-- the items of words, if each word is one
abbrev pub items_in : List (List ℕ) → Option (List Item)
items_in words = all_some (map item_of words)

-- the items read so far, with those that are to come
abbrev pub joined : List Item → Option (List Item) → Option (List Item)
joined read None = None
joined read (Some more) = Some (read ++ more)

pub joined_nil : (o : Option (List Item)) → joined [] o ≡ o
joined_nil None = refl
joined_nil (Some more) = refl

-- one more item is read
pub joined_cons : (read : List Item) (item : Item) (more : List (Option Item))
    → joined read (all_some (Some item ∷ more)) ≡ joined (read ++ item ∷ []) (all_some more)
joined_cons read item more = go (all_some more)
  where
    go : (o : Option (List Item)) → joined read (option_map (λ xs. item ∷ xs) o) ≡ joined (read ++ item ∷ []) o
    go None = refl
    go (Some more) = rw append_assoc refl

-- an ill-formed item
pub joined_none : (read : List Item) (more : List (Option Item)) → joined read (all_some (None ∷ more)) ≡ None
joined_none read more = refl
