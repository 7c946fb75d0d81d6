-- The step that a text means: the row of its service gives the form of the whole step, and then
-- each word gives its argument, from left to right.
use Rattle.std.specs.Prelude.{ℕ, ◌+◌, ◌==◌, Bool, true, false, ◌&&◌, not, if◌then◌else◌, List, [], ◌∷◌, length, Option, None, Some, is_some, Result, Ok, Err}
use Rattle.std.specs.List.{position_from}
use Rattle.std.specs.Str.{bytes_eq}
use Rattle.apex_machine.specs.table.Table.{Step}
use Rattle.apex_types.specs.declared.calls.Named.TheVariants.{Known, Unknown}
use Rattle.apex_types.specs.declared.calls.Origin.TheVariants.{Init, Script}
use Rattle.apex_calls.specs.Catalogue.{Row, rows, row_in}
use Rattle.apex_calls.specs.Parts.{call_of, no_arguments}
use Rattle.apex_calls.specs.declared.catalogue.Shape.TheVariants.{Entry, Named, Number, Timeout, Message, Mode}
use Rattle.apex_table.specs.Terms.{Arguments, Origin, Place, RequestedMode, Shape, Subject, TableFault, Timeout as TimeoutOf}
use Rattle.apex_words.specs.declared.fault.TableFault.TheVariants.{BadStep}
use Rattle.apex_words.specs.Subjects.{at_step, at_word}
use Rattle.apex_words.specs.Outcome.{◌>>=◌, made, some_or}
use Rattle.apex_table.specs.Keys.{well_formed}
use Rattle.apex_table.specs.Names.{Names, names_in}
use Rattle.apex_words.specs.Words.{words, is_empty, is_number, is_timeout, is_message, number, timeout, message_bytes, requested_mode, entry_of}

-- the place of the step of this origin in its script, or in the init list, counted from 0
abbrev pub step_place : Origin → ℕ
step_place (Script p k) = k
step_place (Init k) = k

-- the step of this origin as a whole
abbrev pub of_step : Place → Origin → Subject
of_step at origin = at_step at (step_place origin)

-- word n of the step of this origin, counted from 0: the service is word 0
abbrev pub of_word : Place → Origin → ℕ → Subject
of_word at origin n = at_word at (step_place origin) n

-- the form of a word of this shape; a word of no byte has none
abbrev pub has_form : Shape → List ℕ → Bool
has_form (Entry kind) word = not (is_empty word)
has_form (Named kind) word = not (is_empty word)
has_form (Number low high) word = is_number word
has_form Timeout word = is_timeout word
has_form Message word = not (is_empty word) && is_message word
has_form Mode word = is_some (requested_mode word)

-- the words are as many as the shapes, and each has the form of its shape
abbrev pub have_forms : List Shape → List (List ℕ) → Bool
have_forms [] [] = true
have_forms [] (word ∷ ws) = false
have_forms (shape ∷ shapes) [] = false
have_forms (shape ∷ shapes) (word ∷ ws) = has_form shape word && have_forms shapes ws

-- the first word, counted from n, that does not have the form of its shape, or else the whole step
abbrev pub ill_formed : Place → Origin → ℕ → List Shape → List (List ℕ) → Subject
ill_formed at origin n (shape ∷ shapes) (word ∷ ws) =
    if has_form shape word then ill_formed at origin (n + 1) shapes ws else of_word at origin n
ill_formed at origin n _ _ = of_step at origin

-- what is at fault in a step whose words do not have their forms: the whole step if the words are
-- more or fewer than the shapes, else the first word without the form of its shape
abbrev pub misfit : Place → Origin → List Shape → List (List ℕ) → Subject
misfit at origin shapes ws =
    if length shapes == length ws then ill_formed at origin 1 shapes ws else of_step at origin

-- the values of the words so far: the arguments of the call, and the literal of the step
pub record Given : Type 0 where
  pub arguments : Arguments
  pub literal : List ℕ

-- the values of no word
abbrev pub nothing : Given
nothing = record { arguments = no_arguments; literal = [] }

-- one more argument
abbrev pub with_entry : Given → ℕ → Given
with_entry given i =
    record { arguments = record given.arguments { entry = i }; literal = given.literal }

abbrev pub with_number : Given → ℕ → Given
with_number given n =
    record { arguments = record given.arguments { number = n }; literal = given.literal }

abbrev pub with_timeout : Given → TimeoutOf → Given
with_timeout given t =
    record { arguments = record given.arguments { timeout = t }; literal = given.literal }

abbrev pub with_mode : Given → RequestedMode → Given
with_mode given mode =
    record { arguments = record given.arguments { mode = mode }; literal = given.literal }

-- a name, and the place of its entry; a name that no entry has is the literal of the step of this origin
abbrev pub with_name : Given → Origin → List ℕ → Option ℕ → Given
with_name given origin name (Some i) =
    record { arguments = record given.arguments { named = Known i }; literal = given.literal }
with_name given origin name None =
    record { arguments = record given.arguments { named = Unknown origin }; literal = name }

-- the bytes of a message, which are the literal of the step of this origin
abbrev pub with_message : Given → Origin → List ℕ → Given
with_message given origin bytes = record {
  arguments =
      record given.arguments { message = record { origin = origin; length = length bytes } };
  literal = bytes;
}

-- the values with that of a word of this shape, after those before it, in the step of this origin
unfoldable pub with_word : Subject → Origin → Names → Given → Shape → List ℕ → Result Given TableFault
with_word subject origin names given (Entry kind) word =
    made (with_entry given) (entry_of subject (names_in names kind) word)
with_word subject origin names given (Named kind) word =
    made (λ name. with_name given origin name
    (position_from (bytes_eq name) 0 (names_in names kind))) (well_formed subject word)
with_word subject origin names given (Number low high) word =
    made (with_number given) (number subject low high word)
with_word subject origin names given Timeout word = made (with_timeout given) (timeout subject word)
with_word subject origin names given Message word =
    made (with_message given origin) (message_bytes subject word)
with_word subject origin names given Mode word =
    made (with_mode given) (some_or (BadStep subject) (requested_mode word))

-- the values with those of all words, from left to right; the words are counted from n
abbrev pub with_words : Place → ℕ → Origin → Names → Given → List Shape → List (List ℕ)
    → Result Given TableFault
with_words at n origin names given (shape ∷ shapes) (word ∷ ws) =
    with_word (of_word at origin n) origin names given shape word >>= λ more.
    with_words at (n + 1) origin names more shapes ws
with_words at n origin names given _ _ = Ok given

-- the step of a row's service with these arguments
abbrev pub step_with : Row → Given → Step
step_with row given = record { call = call_of row.service given.arguments; literal = given.literal }

-- the step of a row's service, by the words behind the service
unfoldable pub row_step : Place → Origin → Names → Row → List (List ℕ) → Result Step TableFault
row_step at origin names row ws =
    if have_forms row.shapes ws
    then made (step_with row) (with_words at 1 origin names nothing row.shapes ws)
    else Err (BadStep (misfit at origin row.shapes ws))

-- the step of these words
abbrev pub step_of : Place → Origin → Names → List (List ℕ) → Result Step TableFault
step_of at origin names [] = Err (BadStep (of_step at origin))
step_of at origin names (service ∷ ws) =
    some_or (BadStep (of_word at origin 0)) (row_in rows service) >>= λ row.
    row_step at origin names row ws

-- the step of this origin, by its text
unfoldable pub step : Place → Origin → Names → List ℕ → Result Step TableFault
step at origin names text = step_of at origin names (words text)
