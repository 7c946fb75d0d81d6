-- The way from the top of TOML's tree to what a fault is about.
use Rattle.std.specs.Prelude.{ℕ, zero, suc, ◌-◌, List, [], ◌∷◌, Option, Some, None, option_and_then}
use Rattle.toml.specs.Data.{Data, get, at}
use Rattle.apex_words.specs.Fault.{key_word}
use Rattle.apex_words.specs.declared.fault.Section.TheVariants.{Top, Init}
use Rattle.apex_words.specs.declared.key.Key.TheVariants as key
use Rattle.apex_words.specs.declared.subject.Part.TheVariants as part
use Rattle.apex_faults.specs.Terms.{Key as KeyWord, PathStep, Part, Section, Subject}
use Rattle.apex_faults.specs.Trees.{put_item, put_member}
use Rattle.apex_faults.specs.declared.paths.PathStep.TheVariants.{Key, Item}

-- what a step leads to
abbrev pub step_finds : PathStep → Data → Option Data
step_finds (Key k) d = get (key_word k) d
step_finds (Item i) d = at i d

-- the data with another value there
abbrev pub step_puts : PathStep → Data → Data → Data
step_puts (Key k) new d = put_member (key_word k) new d
step_puts (Item i) new d = put_item i new d

-- what a path leads to
abbrev pub found : List PathStep → Data → Option Data
found [] d = Some d
found (step ∷ path) d = option_and_then (found path) (step_finds step d)

-- the data with another value where a step leads; if it leads nowhere, they stay
abbrev pub put_found : PathStep → Data → (Data → Data) → Option Data → Data
put_found step d change None = d
put_found step d change (Some e) = step_puts step (change e) d

-- the same, but the last step of a path may lead to a key that is not there yet
abbrev pub put_at : PathStep → List PathStep → Data → (Data → Data) → Data
put_at step [] d change = step_puts step (change d) d
put_at step (next ∷ path) d change = put_found step d change (step_finds step d)

-- the data with another value at the end of a path
abbrev pub changed : List PathStep → Data → Data → Data
changed [] new d = new
changed (step ∷ path) new d = put_at step path d (λ e. changed path new e)

-- the path to a section, or to an entry of it
abbrev pub place_path : Section → ℕ → List PathStep
place_path Top n = []
place_path section zero = Key (key.Entries section) ∷ []
place_path section (suc i) = Key (key.Entries section) ∷ Item i ∷ []

-- the path to a step of a script, or of the init list
abbrev pub step_path : Section → ℕ → ℕ → List PathStep
step_path Init n k = Key (key.Entries Init) ∷ Item k ∷ []
step_path section n k =
    Key (key.Entries section) ∷ Item (n - 1) ∷ Key key.Script ∷ Item k ∷ []

-- the path to a key of the top, or of an entry
abbrev pub key_path : Section → ℕ → KeyWord → List PathStep
key_path Top n k = Key k ∷ []
key_path section n k = Key (key.Entries section) ∷ Item (n - 1) ∷ Key k ∷ []

-- the path to what a fault is about: the whole step for a word of it, and the whole entry for a
-- key that it should not have
abbrev pub part_path : Section → ℕ → Part → List PathStep
part_path section n part.Whole = place_path section n
part_path section n (part.Key k) = key_path section n k
part_path section n (part.OtherKey i) = place_path section n
part_path section n (part.Step k) = step_path section n k
part_path section n (part.Word k w) = step_path section n k

abbrev pub subject_path : Subject → List PathStep
subject_path subject = part_path subject.place.section subject.place.number subject.part
