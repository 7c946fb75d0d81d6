-- The names that texts list.
use Rattle.std.specs.Prelude.{List, [], ◌∷◌, Option, None, Some, option_and_then, option_map}
use Rattle.clap.specs.Words.{Text}
use Rattle.apex_history.specs.Words.{parts}
use Rattle.apex_tasks.specs.Questions.{name_of}

-- the names that these texts are; none if one is no name
abbrev pub names_among : List Text → Option (List Text)
names_among [] = Some []
names_among (text ∷ others) =
    option_and_then (λ name. option_map (λ names. name ∷ names) (names_among others)) (name_of text)

-- the names that a text lists, with commas (44) between them
abbrev pub names_of : Text → Option (List Text)
names_of text = names_among (parts 44 text)

-- the same, if there is a text
abbrev pub names_in : Option Text → Option (Option (List Text))
names_in None = Some None
names_in (Some text) = option_map Some (names_of text)
