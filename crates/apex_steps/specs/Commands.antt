-- The commands of a text, a line each.
use Rattle.std.specs.Prelude.{ℕ, List, [], ◌∷◌, Option, Some, None, codes, option_map, if◌then◌else◌}
use Rattle.std.specs.Str.{bytes_eq}
use Rattle.apex_history.specs.Words.{parts}
use Rattle.apex_schedules.specs.Schedule.{items_of}
use Rattle.apex_schedules.specs.declared.Item.{Item}
use Rattle.apex_steps.specs.declared.commands.Command.{Command as CommandRead}
use Rattle.apex_steps.specs.declared.commands.Command.TheVariants as command
use Rattle.apex_steps.specs.declared.commands.Onward.{Onward}
use Rattle.apex_steps.specs.declared.commands.Onward.TheVariants as onward
use Rattle.apex_steps.specs.declared.commands.TheConstants.{BLANK}

-- what a line asks for
pub data Command : Type 0 where
  -- the events of these items
  makes : List Item → Command
  -- the listing of the state
  lists : Command
  -- what comes next
  looks_ahead : Command
  -- the front
  shows_front : Command
  -- the state is marked with this name
  marks : List ℕ → Command
  -- the state that is marked with this name is the present one again
  goes_back : List ℕ → Command
  -- the end
  quits : Command

-- the command that is one word
abbrev pub command_of_word : List ℕ → Option Command
command_of_word word =
    if bytes_eq word (codes "state") then Some lists
    else if bytes_eq word (codes "next") then Some looks_ahead
    else if bytes_eq word (codes "front") then Some shows_front
    else if bytes_eq word (codes "quit") then Some quits
    else None

-- the command that is a word and a name; a name has a byte at least
abbrev pub command_with_name : List ℕ → List ℕ → Option Command
command_with_name word [] = None
command_with_name word (first ∷ rest) =
    if bytes_eq word (codes "mark") then Some (marks (first ∷ rest))
    else if bytes_eq word (codes "back") then Some (goes_back (first ∷ rest))
    else None

-- the command that is these words
abbrev pub command_of_words : List (List ℕ) → Option Command
command_of_words [] = None
command_of_words (word ∷ []) = command_of_word word
command_of_words (word ∷ name ∷ []) = command_with_name word name
command_of_words (word ∷ name ∷ more ∷ rest) = None

-- the one command, or else the other
abbrev pub either_command : Option Command → Option Command → Option Command
either_command (Some command) other = Some command
either_command None other = other

-- the command of a line, which is given without its line feed: its words, with one blank between
-- two, or else a schedule
unfoldable pub command_of : List ℕ → Option Command
command_of line =
    either_command (command_of_words (parts BLANK line)) (option_map makes (items_of line))

-- the command of a value of the program
abbrev pub onward_said : Onward → Command
onward_said (onward.Make items) = makes items.items
onward_said onward.State = lists
onward_said onward.Next = looks_ahead
onward_said onward.Front = shows_front
onward_said (onward.Mark name) = marks name.now
onward_said onward.Quit = quits

abbrev pub command_said : CommandRead → Command
command_said (command.Back name) = goes_back name.now
command_said (command.Onward asked) = onward_said asked
